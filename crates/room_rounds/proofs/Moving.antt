-- What a pipe's direction keeps whose cursor moves past entries, behind turns or not.
use Rattle.std.proofs.Common.{◌≡◌, Bool, true, false, List, refl, sym, ap, ◌∙◌}
use mathlib.Core.List.{IsPrefix}
use Rattle.atomic_table.specs.Seated.{TableId}
use Rattle.attrs.specs.declared.judge.Verdict.{Verdict}
use Rattle.attrs.specs.declared.route.Route.{Route}
use Rattle.attrs.specs.declared.route.Src.{Src}
use Rattle.bits_ip.specs.Prefix.{Net}
use Rattle.jour_rule.specs.declared.views.View.{View as Seat}
use Rattle.jour.specs.Seats.{front, journal}
use Rattle.table_shared.specs.Opening.{TableOpening}
use Rattle.export_lock.specs.Kept.{GoesOn, LeavesFlush}
use Rattle.export_lock.specs.declared.lane.PipeLane.{PipeLane}
use Rattle.export_lock.specs.declared.state.ExportState.{ExportState}
use Rattle.export_lock.proofs.Entering.{lane_reads}
use Rattle.export_lock.proofs.Marking.{still_on}
use Rattle.pipe_turns.specs.Turns.{KeepsLane}

pub leaves_self : {J : Type 0} (a b : ExportState J) → b.exporter ≡ a.exporter → LeavesFlush a b
leaves_self a b same = record { flushing = ap (λ z. z.flushing) same; stays = λ _. (ap (λ z. z.log) same, ap (λ z. z.left) same) }

leaves_then : {J : Type 0} (a b c : ExportState J) → LeavesFlush a b → LeavesFlush b c → LeavesFlush a c
leaves_then a b c first next = record {
  flushing = next.flushing ∙ first.flushing;
  stays = λ yes.
      let was = first.stays yes in
      let is = next.stays (first.flushing ∙ yes) in
      (is.0 ∙ was.0, is.1 ∙ was.1);
}

module _ {J : Type 0} (verdict : J → Net → Route → Verdict) where
  -- the cursor of what is down moves past entries
  pub passed_by : (state : ExportState J) (cursor : (TableId × Seat TableOpening) × Bool) → state.cursor.1 ≡ false → journal cursor.0 ≡ journal state.cursor.0 → cursor.1 ≡ state.cursor.1
      → IsPrefix (front state.cursor.0.1) (front cursor.0.1) → GoesOn verdict state (record { exporter = state.exporter; cursor = cursor; marks = state.marks })
  passed_by state cursor closed here mode prefix = λ every key o.
      still_on verdict key state (record { exporter = state.exporter; cursor = cursor; marks = state.marks }) refl here prefix mode
      (λ is. absurd (let e : false ≡ true = sym closed ∙ o.mode ∙ is in cc)) refl refl o

  -- turns of a direction, and then a cursor that goes on
  pub keeps_behind : (sources : List Src) (a b : PipeLane J) (e : ExportState J) → KeepsLane verdict sources a b → GoesOn verdict b.state e → LeavesFlush b.state e → e.exporter.log ≡ b.state.exporter.log → e.marks ≡ b.state.marks
      → KeepsLane verdict sources a (record { state = e; port = b.port })
  keeps_behind sources a b e first goes flush log marks = record {
    kept = λ key done are o. lane_reads verdict done key b (record { state = e; port = b.port }) refl log goes flush (first.kept key done are o);
    goes = λ every key o. goes every key (first.goes every key o);
    flush = leaves_then a.state b.state e first.flush flush;
    marks = marks ∙ first.marks;
  }
