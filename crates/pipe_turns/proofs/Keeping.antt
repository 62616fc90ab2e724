-- What turns of a pipe's direction keep, one after another.
use Rattle.std.proofs.Common.{◌≡◌, arith, true, List, [], refl, sym, ◌∙◌, append-nil}
use Rattle.atomic_table.specs.Seated.{TableId}
use Rattle.attrs.specs.declared.judge.Verdict.{Verdict}
use Rattle.attrs.specs.declared.route.Route.{Route}
use Rattle.attrs.specs.declared.route.Src.{Src}
use Rattle.bits_ip.specs.Prefix.{Net}
use Rattle.jour_rule.specs.declared.views.Terms.{Terms}
use Rattle.jour_rule.specs.declared.views.View.{View as Seat}
use Rattle.jour.specs.Seats.{front}
use Rattle.table_shared.specs.Opening.{TableOpening}
use Rattle.export_lock.specs.Kept.{GoesOn, IsHeld, LeavesFlush}
use Rattle.export_lock.specs.Lanes.{IsSomeLane, LaneTerms}
use Rattle.export_lock.specs.LaneTurns.{AreSources, IsHeldLane}
use Rattle.export_lock.specs.Outlets.{Rests}
use Rattle.export_lock.specs.declared.lane.PipeLane.{PipeLane}
use Rattle.export_lock.specs.declared.state.ExportState.{ExportState}
use Rattle.export_lock.proofs.Entering.{lane_reads}
use Rattle.pipe_lock.specs.Doors.{IsDoor}
use Rattle.pipe_turns.specs.Turns.{CanTurn, KeepsLane}

pub rests_self : (port : TableId × Seat TableOpening) → Rests port port
rests_self port = record { sees = record { here = refl; number = refl; least = omega arith; prefix = ([], append-nil (front port.1)) }; receipts = refl }

pub leaves_then : {J : Type 0} (a b c : ExportState J) → LeavesFlush a b → LeavesFlush b c → LeavesFlush a c
leaves_then a b c first next = record {
  flushing = next.flushing ∙ first.flushing;
  stays = λ yes.
      let was = first.stays yes in
      let is = next.stays (first.flushing ∙ yes) in
      (is.0 ∙ was.0, is.1 ∙ was.1);
}

module _ {J : Type 0} (verdict : J → Net → Route → Verdict) where
  pub held_state : (sources : List Src) (lane : PipeLane J) → IsHeldLane verdict sources lane → IsHeld verdict lane.state
  held_state sources lane h = record { every = true; key = h.key.exports; exporting = h.lane_is.direction.exporting }

  pub held_some : (key : LaneTerms) (lane : PipeLane J) → IsSomeLane verdict key lane → IsHeld verdict lane.state
  held_some key lane some = record { every = true; key = key.exports; exporting = some.1.direction.exporting }

  pub keeps_self : (sources : List Src) (a : PipeLane J) → KeepsLane verdict sources a a
  keeps_self sources a = record {
    kept = λ key done are o. o;
    goes = λ every key o. o;
    flush = record { flushing = refl; stays = λ _. (refl, refl) };
    marks = refl;
  }

  pub keeps_then : (sources : List Src) (a b c : PipeLane J) → KeepsLane verdict sources a b → KeepsLane verdict sources b c → KeepsLane verdict sources a c
  keeps_then sources a b c first next = record {
    kept = λ key done are o. next.kept key done are (first.kept key done are o);
    goes = λ every key o. next.goes every key (first.goes every key o);
    flush = leaves_then a.state b.state c.state first.flush next.flush;
    marks = next.marks ∙ first.marks;
  }

  -- what only reads keeps all
  pub keeps_reading : (sources : List Src) (a : PipeLane J) (e : ExportState J) → GoesOn verdict a.state e → LeavesFlush a.state e → e.exporter.log ≡ a.state.exporter.log → e.marks ≡ a.state.marks
      → KeepsLane verdict sources a (record { state = e; port = a.port })
  keeps_reading sources a e goes flush log marks = record {
    kept = λ key done are o. lane_reads verdict done key a (record { state = e; port = a.port }) refl log goes flush o;
    goes = goes;
    flush = flush;
    marks = marks;
  }

  pub held_on : (sources : List Src) (a b : PipeLane J) → KeepsLane verdict sources a b → IsHeldLane verdict sources a → IsHeldLane verdict sources b
  held_on sources a b keeps h = record { done = h.done; key = h.key; lane_is = keeps.kept h.key h.done h.sources_are h.lane_is; sources_are = h.sources_are }

  pub can_on : (reads writes : TableId × Terms TableOpening) (sources : List Src) (a b : PipeLane J) → KeepsLane verdict sources a b → CanTurn verdict reads writes sources a → CanTurn verdict reads writes sources b
  can_on reads writes sources a b keeps can =
      let h = can.held in
      let o = keeps.kept h.key h.done h.sources_are h.lane_is in
      record {
        held = held_on sources a b keeps h;
        reads_is = o.direction.exporting.here ∙ sym h.lane_is.direction.exporting.here ∙ can.reads_is;
        writes_is = o.port ∙ sym h.lane_is.port ∙ can.writes_is;
      }

  -- the value of a lock can do turns with what is at hand to work under it
  pub door_can : (key : LaneTerms) (reads writes : TableId × Terms TableOpening) (sources : List Src) (lane : PipeLane J) → IsDoor key reads writes sources → IsSomeLane verdict key lane → CanTurn verdict reads writes sources lane
  door_can key reads writes sources lane door some = record {
    held = record { done = some.0; key = key; lane_is = some.1; sources_are = door.sources_are };
    reads_is = some.1.direction.exporting.here ∙ door.reads_is;
    writes_is = some.1.port ∙ door.writes_is;
  }

  pub some_on : (key : LaneTerms) (sources : List Src) (a b : PipeLane J) → AreSources key sources → KeepsLane verdict sources a b → IsSomeLane verdict key a → IsSomeLane verdict key b
  some_on key sources a b are keeps some = (some.0, keeps.kept key some.0 are some.1)

  pub some_reads : (key : LaneTerms) (a : PipeLane J) (e : ExportState J) → GoesOn verdict a.state e → LeavesFlush a.state e → e.exporter.log ≡ a.state.exporter.log → IsSomeLane verdict key a → IsSomeLane verdict key (record { state = e; port = a.port })
  some_reads key a e goes flush log some = (some.0, lane_reads verdict some.0 key a (record { state = e; port = a.port }) refl log goes flush some.1)
