-- What lay under a pipe's locks, and what is left of it.
use Rattle.std.proofs.Common.{◌≡◌, ℕ, List, None, sym, subst, ◌∙◌}
use Rattle.std.specs.List.{AllByRecursion}
use Rattle.atomic_table.specs.Seated.{TableId}
use Rattle.attrs.specs.declared.judge.Verdict.{Verdict}
use Rattle.attrs.specs.declared.route.Route.{Route}
use Rattle.bits_ip.specs.Prefix.{Net}
use Rattle.import_core.specs.declared.operation.Op.{Op}
use Rattle.jour_rule.specs.declared.views.Terms.{Terms}
use Rattle.jour.specs.Seats.{front, journal}
use Rattle.phase_legal.specs.Shown.{HandView}
use Rattle.export_lock.specs.Lanes.{IsSomeLane, LaneTerms}
use Rattle.export_lock.specs.declared.lane.PipeLane.{PipeLane}
use Rattle.pipe_lock.specs.Kept.{IsMarked}
use Rattle.pipe_lock.specs.Terms.{DirectionTerms, PipeTerms, ops_told}
use Rattle.phase_close.specs.Retired.{IsRetired}
use Rattle.phase_pipes.specs.declared.session.ClosedPipe.{ClosedPipe}
use Rattle.pipe_close.specs.Left.{IsClosing, IsLaneLeft, IsPipeLeft, PipeLocks}

module _ {J : Type 0} (verdict : J → Net → Route → Verdict) (key : PipeLocks) (hands : List HandView) (closed : ClosedPipe J) (is : IsClosing verdict key hands closed) where
  pub hands_here : AllByRecursion (λ (h : HandView). journal h ≡ journal closed.pipe.turns) hands
  hands_here = subst (λ z. AllByRecursion (λ (h : HandView). journal h ≡ z) hands) (sym is.closed_is.pipe_is.piping.turns) is.hands_are

  pub out_here : journal closed.pipe.out ≡ journal closed.out.state.marks
  out_here = is.closed_is.pipe_is.piping.out ∙ sym is.out_marks ∙ sym is.closed_is.out_is.1.direction.exporting.marks

  pub back_here : journal closed.pipe.back ≡ journal closed.back.state.marks
  back_here = is.closed_is.pipe_is.piping.back ∙ sym is.back_marks ∙ sym is.closed_is.back_is.1.direction.exporting.marks

  module _ (primary peer : ℕ) (out back : PipeLane J) (none : closed.pipe.fault ≡ None) (retired : AllByRecursion (IsRetired (journal closed.pipe.turns) (front closed.pipe.turns.1)) hands)
      (out_left : (pipe : PipeTerms) (direction : DirectionTerms) (lane : LaneTerms) (ops : List Op) → IsMarked pipe direction ops closed.pipe.out → IsSomeLane verdict lane closed.out → IsLaneLeft verdict pipe direction lane ops out)
      (back_left : (pipe : PipeTerms) (direction : DirectionTerms) (lane : LaneTerms) (ops : List Op) → IsMarked pipe direction ops closed.pipe.back → IsSomeLane verdict lane closed.back → IsLaneLeft verdict pipe direction lane ops back) where
    pub pipe_left : IsPipeLeft verdict key hands (record { primary = primary; peer = peer; up = closed.pipe.up; ops = closed.pipe.ops; out = out; back = back })
    pipe_left =
        let p = is.closed_is.pipe_is.piping in
        let list = front closed.pipe.turns.1 in
        let ops = ops_told key.pipe list in
        let marked = is.closed_is.pipe_is.marked none in
        record {
          list = list;
          turns = record {
            by_hands = p.hands;
            retired = subst (λ (z : TableId × Terms ℕ). AllByRecursion (IsRetired z list) hands) p.turns retired;
            lines = p.lines;
            over = p.over;
          };
          up = p.up;
          out = out_left key.pipe key.pipe.out key.out ops marked.out is.closed_is.out_is;
          back = back_left key.pipe key.pipe.back key.back ops marked.back is.closed_is.back_is;
        }
