-- The entries of a room's tables and what they say (`entries_at`, `said_at`), a session that is over one
-- of them (`IsOver`), and actors' passes, which are of them (`ArePassesOf`) and have seen what begins
-- their entries (`ArePassesHeard`).
-- From: own.
-- Example: of a room of one table and one protocol the one list has what the protocol's port made.
use Rattle.std.specs.Prelude.{◌≡◌, ℕ, List, [], Option, Some, None, slice_get}
use Rattle.std.specs.declared.alloc.Global.{Global}
use Rattle.std.specs.declared.vec.Vec.{Vec}
use Rattle.atomic_table.specs.Seated.{TableId}
use Rattle.attrs.specs.declared.journal.JEntry.{JEntry}
use Rattle.attrs.specs.declared.judge.Verdict.{Verdict}
use Rattle.attrs.specs.declared.route.Route.{Route}
use Rattle.bits_ip.specs.Prefix.{Net}
use Rattle.jour_rule.specs.declared.views.Entry.{Entry}
use Rattle.jour_rule.specs.declared.views.Terms.{Terms}
use Rattle.jour.specs.Seats.{journal}
use Rattle.table_shared.specs.Opening.{TableOpening}
use Rattle.table_shared.specs.Phases.{IsHeard}
use Rattle.table_shared.specs.declared.close.Phase.{Phase}
use Rattle.phase_legal.specs.Shown.{AreBeside, PassView}
use Rattle.phase_room.specs.Sessions.{IsChannelOf}
use Rattle.phase_close.specs.Closed.{SessionTerms, TableList}
use Rattle.phase_close.specs.Left.{IsSessionLeft}
use Rattle.phase_close.specs.declared.session.SessionLeft.{SessionLeft}

-- the entries of a table, and what they say
abbrev pub entries_in : Option TableList → List Entry
entries_in None = []
entries_in (Some l) = l.1

abbrev pub said_in : Option Phase → List JEntry
said_in None = []
said_in (Some phase) = phase.entries

abbrev pub entries_at : List TableList → ℕ → List Entry
entries_at lists table = entries_in (slice_get lists table)

abbrev pub said_at : List Phase → ℕ → List JEntry
said_at phases table = said_in (slice_get phases table)

abbrev pub PassesView : Type 0
PassesView = Vec PassView Global

-- an actor's passes, one of each table
abbrev pub ArePassesOf : List (TableId × Terms TableOpening) → PassesView → Type 0
ArePassesOf tables passes =
    AreBeside (λ (t : TableId × Terms TableOpening) (pass : PassView). journal pass ≡ t) tables
    passes.items

-- what they have seen begins the lists
abbrev pub ArePassesHeard : List TableList → PassesView → Type 0
ArePassesHeard lists passes =
    AreBeside (λ (l : TableList) (pass : PassView). IsHeard l.0.1 l.1 pass.1) lists passes.items

module _ {J : Type 0} (verdict : J → Net → Route → Verdict) where
  -- a session over one of these tables
  pub record IsOver
      (tables : List (TableId × Terms TableOpening)) (key : SessionTerms) (left : SessionLeft J)
      : Type 0 where
    pub left_is : IsSessionLeft verdict key.protocol key.channel key.hands left
    pub channel_is : IsChannelOf key.protocol key.channel
    pub there : slice_get tables left.table ≡ Some key.protocol.port
