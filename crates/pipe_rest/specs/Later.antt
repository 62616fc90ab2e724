-- What is left of a protocol, once its channel or its directions have gone on by turns that leave
-- their marks (`IsLaterMember`), and what such turns need (`CanSettle`): a protocol with routes of its
-- own is over one of these tables, and a pipe is between two of them, and its directions' sources are
-- these.
-- Not modelled: which turns they were.
-- From: own.
-- Example: of a pipe whose direction out has pushed a route the exporter and the port of that
-- direction have it, and its operations are as they were.
use Rattle.std.specs.Prelude.{◌≡◌, List}
use Rattle.atomic_table.specs.Seated.{TableId}
use Rattle.attrs.specs.declared.judge.Verdict.{Verdict}
use Rattle.attrs.specs.declared.route.Route.{Route}
use Rattle.attrs.specs.declared.route.Src.{Src}
use Rattle.bits_ip.specs.Prefix.{Net}
use Rattle.jour_rule.specs.declared.views.Terms.{Terms}
use Rattle.table_shared.specs.Opening.{TableOpening}
use Rattle.phase_legal.specs.Shown.{HandView}
use Rattle.export_lock.specs.LaneTurns.{AreSources}
use Rattle.phase_close.specs.Closed.{IsLater, SessionTerms}
use Rattle.phase_close.specs.Whole.{IsOver}
use Rattle.pipe_close.specs.Ended.{IsPipeOver}
use Rattle.pipe_close.specs.Left.{PipeLocks}
use Rattle.pipe_close.specs.declared.close.PipeLeft.{PipeLeft}
use Rattle.pipe_turns.specs.Turns.{KeepsLane}
use Rattle.pipe_rest.specs.declared.member.MemberLeft.{MemberLeft}
use Rattle.pipe_rest.specs.declared.member.MemberLeft.TheVariants.{Own, Pipe}

module _ {J : Type 0} (verdict : J → Net → Route → Verdict) where
  -- a pipe between two of these tables, both of whose directions know these sources
  pub record PipeCanSettle
      (tables : List (TableId × Terms TableOpening)) (sources : List Src) (left : PipeLeft J)
      : Type 0 where
    pub key : PipeLocks
    pub hands : List HandView
    pub over : IsPipeOver verdict tables key hands left
    pub out_sources : AreSources key.out sources
    pub back_sources : AreSources key.back sources

  abbrev pub CanSettle :
      List (TableId × Terms TableOpening) → List Src → MemberLeft J → Type 0
  CanSettle tables sources (Own session) =
      (key : SessionTerms) × IsOver verdict tables key session
  CanSettle tables sources (Pipe pipe) = PipeCanSettle tables sources pipe

  -- a pipe whose directions have gone on
  pub record IsLaterPipe (sources : List Src) (old new : PipeLeft J) : Type 0 where
    pub primary : new.primary ≡ old.primary
    pub peer : new.peer ≡ old.peer
    pub up : new.up ≡ old.up
    pub ops : new.ops ≡ old.ops
    pub out : KeepsLane verdict sources old.out new.out
    pub back : KeepsLane verdict sources old.back new.back

  abbrev pub IsLaterMember : List Src → (old new : MemberLeft J) → Type 0
  IsLaterMember sources (Own old) (Own new) = IsLater verdict old new
  IsLaterMember sources (Pipe old) (Pipe new) = IsLaterPipe sources old new
  IsLaterMember sources _ _ = ⊥
