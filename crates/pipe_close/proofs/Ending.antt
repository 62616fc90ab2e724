-- What a pipe and its directions have come to, once their seats have ended.
use Rattle.std.proofs.Common.{◌≡◌, ℕ, List, Some, refl, sym, ap, subst, ◌∙◌, arith}
use Rattle.std.specs.Prelude.{slice_get}
use Rattle.atomic_table.specs.Seated.{TableId}
use Rattle.attrs.specs.declared.judge.Verdict.{Verdict}
use Rattle.attrs.specs.declared.route.Route.{Route}
use Rattle.bits_ip.specs.Prefix.{Net}
use Rattle.core_setup.proofs.PairLemmas.{get_here, get_within}
use Rattle.export_core.specs.States.{State}
use Rattle.import_core.specs.declared.operation.Op.{Op}
use Rattle.jour_rule.specs.declared.views.Terms.{Terms}
use Rattle.jour.specs.Seats.{journal}
use Rattle.table_shared.specs.Opening.{TableOpening}
use Rattle.table_shared.specs.Phases.{IsHeard, IsRetired as IsPortRetired}
use Rattle.phase_legal.specs.Shown.{HandView}
use Rattle.export_lock.specs.Lanes.{LaneTerms}
use Rattle.export_lock.specs.declared.lane.PipeLane.{PipeLane}
use Rattle.pipe_lock.specs.Terms.{DirectionTerms, PipeTerms, ops_told}
use Rattle.phase_close.specs.Closed.{TableList}
use Rattle.phase_close.specs.Whole.{entries_at}
use Rattle.phase_pipes.specs.Sessions.{IsDirectionIn}
use Rattle.pipe_close.specs.Ended.{AreListsOf, EndsPipe, IsHeardLane, IsLaneEnded, IsPipeEnded, IsPipeOver, IsTableAt}
use Rattle.pipe_close.specs.Left.{IsLaneLeft, PipeLocks}
use Rattle.pipe_close.specs.declared.close.PipeLeft.{PipeLeft}
use Rattle.pipe_close.specs.declared.end.PipeEnded.{PipeEnded}

list_at : (tables : List (TableId × Terms TableOpening)) (lists : List TableList) → AreListsOf tables lists → (n : ℕ) (t : TableId × Terms TableOpening) → slice_get tables n ≡ Some t → IsTableAt lists n t
list_at tables lists are n t at =
    let inside = get_within tables n t at in
    let count = are.count in
    let l = get_here lists n (omega (arith, inside, count)) in
    (l.0.1, l.1 ∙ ap (λ z. Some (z, l.0.1)) (are.each n t l.0 at l.1))

module _ {J : Type 0} (verdict : J → Net → Route → Verdict) (pipe : PipeTerms) (direction : DirectionTerms) (key : LaneTerms) (ops : List Op) (lane : PipeLane J) (left : IsLaneLeft verdict pipe direction key ops lane) where
  module _ (tables : List (TableId × Terms TableOpening)) (lists : List TableList) (are : AreListsOf tables lists) (reads writes : ℕ) (d : IsDirectionIn pipe tables reads writes direction key) where
    pub reads_at : IsTableAt lists reads (journal lane.state.cursor.0)
    reads_at = subst (IsTableAt lists reads) (sym (left.lane_is.1.direction.exporting.here ∙ d.lane_is.table)) (list_at tables lists are reads direction.table d.read)

    pub writes_at : IsTableAt lists writes (journal lane.port)
    writes_at = subst (IsTableAt lists writes) (sym left.lane_is.1.port) (list_at tables lists are writes key.target d.written)

  pub lane_ended : (lists mid : List TableList) → mid ≡ lists → (reads writes : ℕ) (exporter : State J) → IsHeardLane lists reads lane exporter → IsPortRetired lane.port.1.seen.terms (entries_at mid writes) lane.port → IsLaneEnded verdict lists reads writes pipe direction key ops exporter
  lane_ended lists mid same reads writes exporter heard retired = record {
    stamp = left.stamp;
    state = lane;
    exporter_is = heard.exporter_is;
    left = record {
      marked = left.marked;
      lane_is = left.lane_is;
      rest = left.rest;
      told = left.told;
      makers = left.makers;
      retired =
          subst (λ (z : TableId × Terms TableOpening). IsPortRetired z.1 (entries_at lists writes) lane.port) left.lane_is.1.port
          (subst (λ l. IsPortRetired lane.port.1.seen.terms (entries_at l writes) lane.port) same retired);
    };
    heard = subst (λ (z : TableId × Terms TableOpening). IsHeard z.1 (entries_at lists reads) lane.state.cursor.0.1) left.lane_is.1.direction.exporting.here heard.heard;
  }

-- the same lists later
pub still_at : (old new : List TableList) → new ≡ old → (place : ℕ) (here : TableId × Terms TableOpening) → IsTableAt old place here → IsTableAt new place here
still_at old new same place here is = subst (λ l. IsTableAt l place here) (sym same) is

module _ {J : Type 0} (verdict : J → Net → Route → Verdict) (left : PipeLeft J) where
  abbrev pub EndsLane : List TableList → (reads writes : ℕ) → PipeLane J → State J → Type 0
  EndsLane lists reads writes lane exporter = (pipe : PipeTerms) (direction : DirectionTerms) (key : LaneTerms) (ops : List Op) → IsLaneLeft verdict pipe direction key ops lane → IsLaneEnded verdict lists reads writes pipe direction key ops exporter

  -- its port has ended in the table of this number
  abbrev pub RetiresPort : List TableList → (writes : ℕ) → PipeLane J → Type 0
  RetiresPort lists writes lane = IsPortRetired lane.port.1.seen.terms (entries_at lists writes) lane.port

  module _ (lists mid : List TableList) (same : mid ≡ lists) (out back : State J) (out_heard : IsHeardLane lists left.primary left.out out) (out_ends : EndsLane lists left.primary left.peer left.out out) (out_port : RetiresPort lists left.peer left.out) (back_heard : IsHeardLane mid left.peer left.back back)
      (back_ends : EndsLane mid left.peer left.primary left.back back) (back_port : RetiresPort mid left.primary left.back) where
    abbrev pub ended : PipeEnded J
    ended = record { primary = left.primary; peer = left.peer; up = left.up; ops = left.ops; out = out; back = back }

    pipe_ended : (tables : List (TableId × Terms TableOpening)) (key : PipeLocks) (hands : List HandView) → IsPipeOver verdict tables key hands left → IsPipeEnded verdict lists key hands ended
    pipe_ended tables key hands over =
        let l = over.left_is in
        record {
          list = l.list;
          turns = l.turns;
          up = l.up;
          out = out_ends key.pipe key.pipe.out key.out (ops_told key.pipe l.list) l.out;
          back = subst (λ z. EndsLane z left.peer left.primary left.back back) same back_ends key.pipe key.pipe.back key.back (ops_told key.pipe l.list) l.back;
        }

    pub ends_pipe : EndsPipe verdict lists left ended
    ends_pipe = record {
      primary_is = refl;
      peer_is = refl;
      out = out_heard;
      back = subst (λ z. IsHeardLane z left.peer left.back back) same back_heard;
      out_port = out_port;
      back_port = subst (λ z. RetiresPort z left.primary left.back) same back_port;
      pipe = λ tables are key hands over. pipe_ended tables key hands over;
    }
