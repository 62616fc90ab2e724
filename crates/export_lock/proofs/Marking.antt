-- What a mark, or a look alone, leaves of what an export lock keeps.
use Rattle.std.proofs.Common.{◌≡◌, ℕ, suc, ◌≤◌, arith, List, [], ◌∷◌, ◌++◌, Bool, true, false, cond, inl, inr, length, map, reverse, refl, sym, ap, subst, ◌∙◌, append-nil}
use Rattle.std.proofs.lemmas.Bool.Decides.{eqb_tells}
use Rattle.std.proofs.lemmas.List.{map-append, reverse-append}
use mathlib.Core.List.{IsPrefix}
use Rattle.atomic_table.specs.Seated.{TableId}
use Rattle.attrs.specs.declared.journal.JEntry.{JEntry}
use Rattle.attrs.specs.declared.judge.Verdict.{Verdict}
use Rattle.attrs.specs.declared.route.Route.{Route}
use Rattle.bits_ip.specs.Prefix.{Net}
use Rattle.export_core.specs.Histories.{course_of}
use Rattle.export_core.specs.Standing.{is_open}
use Rattle.export_core.specs.States.{StandsFor}
use Rattle.export_core.specs.declared.log.LogItem.{LogItem}
use Rattle.jour_rule.specs.Journal.{receipts}
use Rattle.jour_rule.specs.Laws.{AreOfMakers}
use Rattle.jour_rule.specs.Moves.{entry, position_of}
use Rattle.jour_rule.specs.declared.views.Entry.{Entry}
use Rattle.jour_rule.specs.declared.views.Terms.{Terms}
use Rattle.jour_rule.specs.declared.views.View.{View as Seat}
use Rattle.jour.specs.Seats.{front, journal, number_of, own}
use Rattle.core_machine.specs.Rules.{Fits, Signal, Rise}
use Rattle.core_machine.specs.Signals.{without_sends}
use Rattle.table_shared.specs.Opening.{TableOpening}
use Rattle.phase_legal.specs.Stamps.{item_in, items_in, mark_words}
use Rattle.phase_legal.specs.Turns.{words_in}
use Rattle.import_lock.specs.Kept.{items_of_stamp}
use Rattle.export_lock.specs.Kept.{IsExporting, IsReady, MayMark}
use Rattle.export_lock.specs.MarkTurns.{HasStarted, Starts}
use Rattle.export_lock.specs.Terms.{BeginsWith, ExportTerms}
use Rattle.export_lock.specs.declared.state.ExportState.{ExportState}
use Rattle.export_lock.proofs.Histories.{begins_shorter}

-- where all entries are of the first maker, its receipts are the list
all_said : (n : ℕ) (es : List Entry) → AreOfMakers 1 es → map item_in (words_in (receipts n 0 es)) ≡ map (λ e. item_in e.words) es
all_said n [] are = refl
all_said n (e ∷ es) are = elim (eqb_tells e.maker 0) [
  | inl w ↦
      ap (λ b. map item_in (words_in (cond b ((suc n, e.words) ∷ receipts (suc n) 0 es) (receipts (suc n) 0 es)))) w.0
      ∙ ap (λ z. item_in e.words ∷ z) (all_said (suc n) es are.1)
  | inr w ↦ absurd (w.1 (let few = are.0 in omega (arith, few)))
]

-- a stamp that was told the list has marked just what stands there
pub told_list : (s t : TableId × Seat ℕ) (es : List Entry) (makers : ℕ) → front t.1 ≡ es → number_of t.1.role ≡ 0 → own t.1 ≡ own s.1 → makers ≡ 1 → AreOfMakers makers es → items_in es ≡ items_of_stamp s
told_list s t es makers told number same one are =
    ap reverse
    (sym (all_said t.1.seen.terms.start es (subst (λ z. AreOfMakers z es) one are))
    ∙ ap (λ z. map item_in (words_in (receipts t.1.seen.terms.start z es))) (sym number)
    ∙ ap (λ z. map item_in (words_in (receipts t.1.seen.terms.start (number_of t.1.role) z))) (sym told)
    ∙ ap (λ z. map item_in (words_in z)) same)

items_next : (es : List Entry) (words : List ℕ) → items_in (es ++ entry 0 words ∷ []) ≡ item_in words ∷ items_in es
items_next es words = ap reverse (map-append (λ (e : Entry). item_in e.words) es (entry 0 words ∷ [])) ∙ reverse-append (map (λ (e : Entry). item_in e.words) es) (item_in words ∷ [])

module _ {J : Type 0} (verdict : J → Net → Route → Verdict) {every : Bool} (key : ExportTerms) where
  -- the exporter is as it was
  pub still_on : (a b : ExportState J) → b.exporter ≡ a.exporter → journal b.cursor.0 ≡ journal a.cursor.0 → IsPrefix (front a.cursor.0.1) (front b.cursor.0.1) → b.cursor.1 ≡ a.cursor.1
      → (is_open a.exporter.log ≡ true → position_of b.cursor.0.1.role ≡ position_of a.cursor.0.1.role) → journal b.marks ≡ journal a.marks → front b.marks.1 ≡ front a.marks.1 → IsExporting verdict every key a → IsExporting verdict every key b
  still_on a b same here prefix mode position marks list o = record {
    spec = ap (λ z. z.spec) same ∙ o.spec;
    filter = ap (λ z. verdict z.judge) same ∙ o.filter;
    kind = o.kind;
    stays = λ e. ap (λ z. z.flushing) same ∙ o.stays e;
    here = here ∙ o.here;
    start = o.start;
    family = o.family;
    begun = o.begun;
    marks = marks ∙ o.marks;
    makers = o.makers;
    cursors = o.cursors;
    marked = ap (λ z. without_sends (reverse z.log)) same ∙ o.marked ∙ ap (λ z. items_in z ++ without_sends key.log) (sym list);
    log = (o.log.0, o.log.1 ∙ ap (λ z. reverse z.log) (sym same));
    mode = mode ∙ o.mode ∙ ap (λ z. is_open z.log) (sym same);
    position = λ is. let was = ap (λ z. is_open z.log) (sym same) ∙ is in ap (λ z. z.position) same ∙ o.position was ∙ sym (position was);
    least = λ is. subst (λ z. key.table.1.start ≤ z.position) (sym same) (o.least (ap (λ z. is_open z.log) (sym same) ∙ is));
    stands = λ history b'. subst (StandsFor verdict (course_of key.exports.spec history)) (sym same) (o.stands history (begins_shorter key (front a.cursor.0.1) (front b.cursor.0.1) history prefix b'));
  }

  -- it has one mark more
  pub marks_on : (a b : ExportState J) (x : LogItem) → without_sends (x ∷ reverse a.exporter.log) ≡ x ∷ without_sends (reverse a.exporter.log) → item_in (mark_words x) ≡ x
      → b.exporter.spec ≡ a.exporter.spec → b.exporter.judge ≡ a.exporter.judge → b.exporter.flushing ≡ false → b.exporter.log ≡ a.exporter.log ++ x ∷ []
      → journal b.cursor.0 ≡ journal a.cursor.0 → journal b.marks ≡ journal a.marks → front b.marks.1 ≡ front a.marks.1 ++ entry 0 (mark_words x) ∷ [] → b.cursor.1 ≡ is_open b.exporter.log
      → (is_open b.exporter.log ≡ true → b.exporter.position ≡ position_of b.cursor.0.1.role) → (is_open b.exporter.log ≡ true → key.table.1.start ≤ b.exporter.position)
      → ((history : List JEntry) → BeginsWith key (front b.cursor.0.1) history → StandsFor verdict (course_of key.exports.spec history) b.exporter)
      → IsExporting verdict every key a → IsExporting verdict every key b
  marks_on a b x is_mark back spec judge stays log here marks list mode position least stands o = record {
    spec = spec ∙ o.spec;
    filter = ap verdict judge ∙ o.filter;
    kind = o.kind;
    stays = λ _. stays;
    here = here ∙ o.here;
    start = o.start;
    family = o.family;
    begun = o.begun;
    marks = marks ∙ o.marks;
    makers = o.makers;
    cursors = o.cursors;
    marked =
        ap (λ z. without_sends (reverse z)) log ∙ ap without_sends (reverse-append a.exporter.log (x ∷ [])) ∙ is_mark
        ∙ ap (λ z. x ∷ z) o.marked
        ∙ ap (λ z. z ∷ (items_in (front a.marks.1) ++ without_sends key.log)) (sym back)
        ∙ ap (λ z. z ++ without_sends key.log) (sym (items_next (front a.marks.1) (mark_words x)))
        ∙ ap (λ z. items_in z ++ without_sends key.log) (sym list);
    log = (x ∷ o.log.0, ap (λ z. x ∷ z) o.log.1 ∙ sym (reverse-append a.exporter.log (x ∷ [])) ∙ ap (λ z. reverse z) (sym log));
    mode = mode;
    position = position;
    least = least;
    stands = stands;
  }

-- the marks of a log, where a stamp has seen them all
pub stamps_marks : {J : Type 0} (verdict : J → Net → Route → Verdict) {every : Bool} (key : ExportTerms) (a : ExportState J) (s : TableId × Seat ℕ) → IsExporting verdict every key a → number_of s.1.role ≡ 0 → front s.1 ≡ front a.marks.1
    → AreOfMakers key.marks.1.opening (front a.marks.1) → without_sends (reverse a.exporter.log) ≡ items_of_stamp s ++ without_sends key.log
stamps_marks verdict key a s o number told are = o.marked ∙ ap (λ z. z ++ without_sends key.log) (told_list s s (front a.marks.1) key.marks.1.opening told number refl o.makers are)

-- once the stamp was told all marks
module _ {J : Type 0} (verdict : J → Net → Route → Verdict) (every : Bool) (table : TableId × Terms TableOpening) (signal : Signal) (s t m : TableId × Seat ℕ) (a : ExportState J) (may : MayMark verdict every table signal s a)
    (lawful : AreOfMakers a.marks.1.seen.terms.opening (front a.marks.1)) (marks : journal m ≡ journal a.marks) (here : journal t ≡ journal s) (list : front m.1 ≡ front a.marks.1) (told : front t.1 ≡ front m.1)
    (number : number_of t.1.role ≡ number_of s.1.role) (same : own t.1 ≡ own s.1) where
  are_all : items_in (front a.marks.1) ≡ items_of_stamp s
  are_all =
      let o = may.held.exporting in
      told_list s t (front a.marks.1) a.marks.1.seen.terms.opening (told ∙ list) (number ∙ may.number) same (ap (λ z. z.1.opening) o.marks ∙ o.makers) lawful

  pub fits_now : Fits signal (is_open a.exporter.log)
  fits_now = may.fits are_all

  -- the same value with the marks as they are then
  abbrev pub told_now : ExportState J
  told_now = record { exporter = a.exporter; cursor = a.cursor; marks = m }

  pub told_on : {kind : Bool} (key : ExportTerms) → IsExporting verdict kind key a → IsExporting verdict kind key told_now
  told_on key o = still_on verdict key a told_now refl refl ([], append-nil (front a.cursor.0.1)) refl (λ _. refl) marks list o

  pub ready_now : IsReady verdict t told_now
  ready_now =
      record {
        held = record { every = every; key = may.held.key; exporting = told_on may.held.key may.held.exporting };
        here = here ∙ may.here ∙ sym marks;
        number = number ∙ may.number;
        told = told;
        end =
            let end = may.end are_all in
            let start = ap (λ z. z.1.start) marks in
            let long = ap length list in
            omega (arith, end, start, long);
      }

  -- the channel is down, and its cursor was started
  pub started_now : (head : ℕ) (reader : (TableId × Seat TableOpening) × Bool) → signal ≡ Rise → Starts head a.cursor reader → HasStarted verdict head t (record { exporter = a.exporter; cursor = reader; marks = m })
  started_now head reader rise starts = record {
    before = a.cursor;
    ready = ready_now;
    down = subst (λ z. Fits z (is_open a.exporter.log)) rise fits_now;
    starts = starts;
  }
