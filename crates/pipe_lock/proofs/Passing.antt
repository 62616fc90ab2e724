-- A pipe's direction may take a mark, since its lock and its stamp tell of the one journal of marks.
use Rattle.std.proofs.Common.{◌≡◌, ℕ, ◌+◌, ◌<◌, ◌^◌, arith, List, [], ◌∷◌, ◌++◌, true, false, length, map, reverse, sym, ap, subst, ◌∙◌}
use Rattle.std.specs.Prelude.{IfOk, OnErr}
use Rattle.std.specs.declared.result.Result.{Result}
use Rattle.std.specs.declared.result.Result.TheVariants.{Ok, Err}
use Rattle.std.proofs.lemmas.List.{length-map, length-reverse}
use Rattle.atomic_table.specs.Seated.{TableId}
use Rattle.attrs.specs.declared.route.Src.{Src}
use Rattle.attrs.specs.declared.judge.Verdict.{Verdict}
use Rattle.attrs.specs.declared.route.Route.{Route}
use Rattle.bits_ip.specs.Prefix.{Net}
use Rattle.core_machine.specs.Rules.{Fall, Fits, Renew, Signal}
use Rattle.core_machine.specs.Signals.{without_sends}
use Rattle.export_core.specs.Standing.{is_open}
use Rattle.export_core.specs.declared.exporter.Pushed.{Pushed}
use Rattle.export_core.specs.declared.exporter.Pushed.TheVariants.{Nothing, Quiet, Sent}
use Rattle.export_core.specs.declared.log.Key.{Key}
use Rattle.export_core.specs.declared.outlet.PushFault.{PushFault}
use Rattle.export_lock.specs.Kept.{GoesOn, MayMark}
use Rattle.export_lock.specs.Lanes.{IsLane, IsSomeLane, LaneTerms}
use Rattle.export_lock.specs.LaneTurns.{FlushesLane, IsFlushed}
use Rattle.export_lock.specs.MarkTurns.{MayMarkLane, withdrawn_behind}
use Rattle.export_lock.specs.declared.lane.PipeLane.{PipeLane}
use Rattle.export_lock.specs.declared.state.ExportState.{ExportState}
use Rattle.import_lock.specs.Kept.{items_of_stamp}
use Rattle.jour_rule.specs.declared.views.Entry.{Entry}
use Rattle.jour_rule.specs.declared.views.Terms.{Terms}
use Rattle.jour_rule.specs.declared.views.View.{View as Seat}
use Rattle.jour.specs.Seats.{front, head_of, own}
use Rattle.phase_legal.specs.Stamps.{item_in, items_in, items_of, mark_words, opens}
use Rattle.phase_legal.specs.Turns.{words_in}
use Rattle.phase_legal.proofs.Stamping.{opens_on, stretch_opens}
use Rattle.table_shared.specs.Opening.{TableOpening}
use Rattle.pipe_lock.specs.Calls.{HasStamped, IsSameStamp}
use Rattle.pipe_lock.specs.Doors.{MayPass}

module _ {J : Type 0} (verdict : J → Net → Route → Verdict) (done : List Key) (key : LaneTerms) (a : PipeLane J) (table : TableId × Terms TableOpening) (signal : Signal) (s : TableId × Seat ℕ)
    (o : IsLane verdict done key a) (reads : key.exports.table ≡ table) (start : key.exports.marks.1.start ≡ 0) (may : MayPass key signal s) where
  items_long : (es : List Entry) → length (items_in es) ≡ length es
  items_long es = length-reverse (map (λ (e : Entry). item_in e.words) es) ∙ length-map es (λ (e : Entry). item_in e.words)

  end_is : items_in (front a.state.marks.1) ≡ items_of_stamp s → head_of a.state.marks.1 + 1 < 2 ^ 63
  end_is all =
      let e = ap length all in
      let f = items_long (front a.state.marks.1) in
      let few = may.few in
      let first : a.state.marks.1.seen.terms.start ≡ 0 = ap (λ z. z.1.start) o.direction.exporting.marks ∙ start in
      omega (arith, e, f, few, first)

  up_is : items_in (front a.state.marks.1) ≡ items_of_stamp s → is_open a.state.exporter.log ≡ opens (opens false (without_sends key.exports.log)) (items_of_stamp s)
  up_is all =
      stretch_opens (reverse a.state.exporter.log)
      ∙ ap (opens false) o.direction.exporting.marked
      ∙ opens_on false (items_in (front a.state.marks.1)) (without_sends key.exports.log)
      ∙ ap (opens (opens false (without_sends key.exports.log))) all

  pub may_mark : MayMark verdict true table signal s a.state
  may_mark = record {
    held = record { key = key.exports; exporting = o.direction.exporting };
    table_is = o.direction.exporting.here ∙ reads;
    here = may.here ∙ sym o.direction.exporting.marks;
    number = may.number;
    end = end_is;
    fits = λ all. subst (Fits signal) (sym (up_is all)) may.fits;
  }

-- an up stands where the cursor has seen its table, in the phase
module _ {J : Type 0} (verdict : J → Net → Route → Verdict) (table : TableId × Terms TableOpening) (signal : Signal) (s t : TableId × Seat ℕ) (a b : ExportState J) (may : MayMark verdict true table signal s a) (goes : GoesOn verdict a b) where
  pub marked_there : words_in (own t.1) ≡ words_in (own s.1) ++ map mark_words (items_of signal (head_of b.cursor.0.1)) → HasStamped table signal s t
  marked_there said = record {
    head = head_of b.cursor.0.1;
    least =
        let first : b.cursor.0.1.seen.terms.start ≡ table.1.start = ap (λ z. z.1.start) ((goes true may.held.key may.held.exporting).here ∙ sym may.held.exporting.here ∙ may.table_is) in
        omega (arith, first);
    said = said;
  }

-- as long as the stamp has marked nothing more
pub pass_on : (key : LaneTerms) (signal : Signal) (s t : TableId × Seat ℕ) → IsSameStamp s t → own t.1 ≡ own s.1 → MayPass key signal s → MayPass key signal t
pass_on key signal s t same receipts may =
    let items : items_of_stamp t ≡ items_of_stamp s = ap (λ z. reverse (map item_in (words_in z))) receipts in
    record {
      here = same.here ∙ may.here;
      number = same.number ∙ may.number;
      few = (let e = ap length items in let few = may.few in omega (arith, e, few));
      fits = subst (λ z. Fits signal (opens (opens false (without_sends key.exports.log)) z)) (sym items) may.fits;
    }

-- ---- what a turn leaves to the lock

module _ {J : Type 0} (verdict : J → Net → Route → Verdict) (a b : PipeLane J) where
  pub mark_keeps : {A E : Type 0} (r : Result A E) (signal : Signal) (U V : Type 0) → IfOk r (λ _. (key : LaneTerms) (done : List Key) → IsLane verdict done key a → IsLane verdict (withdrawn_behind signal done) key b)
      → OnErr r (U × V × ((key : LaneTerms) (done : List Key) → IsLane verdict done key a → IsLane verdict done key b)) → (key : LaneTerms) (done : List Key) → IsLane verdict done key a → IsSomeLane verdict key b
  mark_keeps (Ok x) signal U V kept refused = λ key done o. (withdrawn_behind signal done, kept key done o)
  mark_keeps (Err e) signal U V kept refused = λ key done o. (done, refused.2 key done o)

  pub flush_keeps : (sources : List Src) (done : List Key) (key : LaneTerms) (r : Result Pushed PushFault) → FlushesLane verdict sources done key a b r → IsSomeLane verdict key b
  flush_keeps sources done key (Ok Sent) f = (done ++ f.sending.key ∷ [], f.lane_is)
  flush_keeps sources done key (Ok Quiet) f = absurd f
  flush_keeps sources done key (Ok Nothing) f = (done, f.lane_is)
  flush_keeps sources done key (Err fault) f = (done, f.1)

  -- once nothing is left to withdraw the direction may go down
  pub flushed_may : (done : List Key) (key : LaneTerms) (table : TableId × Terms TableOpening) (s : TableId × Seat ℕ) → IsFlushed verdict done key a b → key.exports.table ≡ table → key.exports.marks.1.start ≡ 0 → MayPass key Fall s → MayMarkLane verdict table Fall s b
  flushed_may done key table s f reads start pass = record {
    may = may_mark verdict done key b table Fall s f.lane_is reads start pass;
    withdrawn = λ _. f.withdrawn;
    running = λ e. absurd (let bad : Fall ≡ Renew = e in cc);
  }
