-- What lay under the locks of a pipe's session, and what is left of it, can be ended.
use Rattle.std.proofs.Common.{◌≡◌, ℕ, List, sym, subst}
use Rattle.std.specs.List.{AllByRecursion}
use Rattle.atomic_table.specs.Seated.{TableId}
use Rattle.attrs.specs.declared.judge.Verdict.{Verdict}
use Rattle.attrs.specs.declared.route.Route.{Route}
use Rattle.bits_ip.specs.Prefix.{Net}
use Rattle.jour_rule.specs.declared.views.Terms.{Terms}
use Rattle.jour.specs.Seats.{journal}
use Rattle.table_shared.specs.Opening.{TableOpening}
use Rattle.phase_legal.specs.Shown.{HandView}
use Rattle.import_lock.specs.Terms.{PhaseTerms}
use Rattle.phase_pipes.specs.Sessions.{IsClosed, IsDirectionIn, IsPipeSession}
use Rattle.phase_pipes.specs.declared.session.ClosedPipe.{ClosedPipe}
use Rattle.pipe_close.specs.Ended.{IsPipeOver}
use Rattle.pipe_close.specs.Left.{IsClosing, IsPipeLeft, PipeLocks}
use Rattle.pipe_close.specs.declared.close.PipeLeft.{PipeLeft}

module _ {J : Type 0} (verdict : J → Net → Route → Verdict) (phase : PhaseTerms) (tables : List (TableId × Terms TableOpening)) (number primary peer : ℕ) (key : PipeLocks) (session : IsPipeSession phase tables number primary peer key.pipe key.out key.back) (hands : List HandView) where
  pub is_closing : (closed : ClosedPipe J) → IsClosed verdict key.pipe key.out key.back closed → AllByRecursion (λ (h : HandView). journal h ≡ key.pipe.turns) hands → IsClosing verdict key hands closed
  is_closing closed is of = record {
    closed_is = is;
    out_marks = session.out_is.lane_is.marks;
    back_marks = session.back_is.lane_is.marks;
    hands_are = of;
  }

  pub is_over : (left : PipeLeft J) → IsPipeLeft verdict key hands left → left.primary ≡ primary → left.peer ≡ peer → IsPipeOver verdict tables key hands left
  is_over left is one other =
      let first = sym one in
      let second = sym other in
      record {
        left_is = is;
        out_is = subst (λ (z : ℕ × ℕ). IsDirectionIn key.pipe tables z.0 z.1 key.pipe.out key.out) (λ j. (first j, second j)) session.out_is;
        back_is = subst (λ (z : ℕ × ℕ). IsDirectionIn key.pipe tables z.0 z.1 key.pipe.back key.back) (λ j. (second j, first j)) session.back_is;
      }
