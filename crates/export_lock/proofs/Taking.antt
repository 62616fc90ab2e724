-- An entry that a cursor reads is the history's at its position.
use Rattle.std.proofs.Common.{◌≡◌, ℕ, zero, suc, ◌+◌, ◌-◌, ◌≤◌, arith, List, [], ◌∷◌, ◌++◌, length, Bool, true, refl, sym, ap, subst, ◌∙◌, append_assoc, length-append}
use Rattle.std.specs.Prelude.{reverse}
use mathlib.Core.List.{IsPrefix}
use mathlib.Core.Option.{some, none}
use lib.ListN.{get_elem?}
use Rattle.attrs.specs.History.{Content, after}
use Rattle.attrs.specs.declared.journal.JEntry.{JEntry}
use Rattle.attrs.specs.declared.judge.Verdict.{Verdict}
use Rattle.attrs.specs.declared.route.Route.{Route}
use Rattle.bits_ip.specs.Prefix.{Net}
use Rattle.atomic_table.specs.Seated.{TableId}
use Rattle.export_core.specs.Calls.{Takes}
use Rattle.export_core.specs.Histories.{course_of}
use Rattle.export_core.specs.Logs.{Course}
use Rattle.export_core.specs.Standing.{is_open}
use Rattle.export_core.specs.States.{IsEntryAt, StandsFor, State}
use Rattle.export_core.specs.declared.passing.ExportSpec.{ExportSpec}
use Rattle.jour_rule.specs.Moves.{entry, position_of}
use Rattle.jour_rule.specs.declared.views.Entry.{Entry}
use Rattle.jour_rule.specs.declared.views.View.{View as Seat}
use Rattle.jour.specs.Seats.{front, journal}
use Rattle.core_machine.specs.Signals.{without_sends}
use Rattle.rec_words.specs.Entries.{Spells}
use Rattle.table_shared.specs.Opening.{TableOpening}
use Rattle.table_shared.specs.Records.{AreRecords, at_first, change_of}
use Rattle.export_lock.specs.Kept.{IsExporting}
use Rattle.export_lock.specs.Terms.{BeginsWith, ExportTerms}
use Rattle.export_lock.specs.declared.state.ExportState.{ExportState}
use Rattle.export_lock.proofs.Histories.{begins_shorter}

-- the record at a place of a list
record IsPlaced (said : List JEntry) (i : ℕ) (words : List ℕ) : Type 0 where
  pub before : List JEntry
  pub this : JEntry
  pub behind : List JEntry
  pub is : said ≡ before ++ this ∷ behind
  pub place : length before ≡ i
  pub spelled : Spells this words

placed : (opening : TableOpening) (content : Content) (es : List Entry) (said : List JEntry) (i : ℕ) (e : Entry) → AreRecords opening content es said → get_elem? es i ≡ some e → IsPlaced said i e.words
placed opening content [] said i e are at = absurd (let no : none ≡ some e = at in cc)
placed opening content (x ∷ es) [] i e are at = absurd are
placed opening content (x ∷ es) (s ∷ said) zero e are at =
    let same : x ≡ e = (let is : some x ≡ some e = at in cc) in
    record { before = []; this = s; behind = said; is = refl; place = refl; spelled = subst (λ z. Spells s z.words) same are.0.words }
placed opening content (x ∷ es) (s ∷ said) (suc i) e are at =
    let r = placed opening (after content (change_of s ∷ [])) es said i e are.1 at in
    record { before = s ∷ r.before; this = r.this; behind = r.behind; is = ap (λ z. s ∷ z) r.is; place = ap suc r.place; spelled = r.spelled }

module _ (told : (spec : ExportSpec) (front : List JEntry) (e : JEntry) (back : List JEntry) → IsEntryAt spec (course_of spec (front ++ e ∷ back)) (length front + 1) e)
    (one : (words : List ℕ) (a b : JEntry) → Spells a words → Spells b words → a ≡ b) where
  is_entry : (key : ExportTerms) (es : List Entry) (history : List JEntry) (p k : ℕ) (words : List ℕ) (said : JEntry) → key.table.1.start ≡ length key.before → key.table.1.start ≤ p
      → get_elem? es (p - key.table.1.start) ≡ some (entry k words) → Spells said words → BeginsWith key es history → IsEntryAt key.exports.spec (course_of key.exports.spec history) (p + 1) said
  is_entry key es history p k words said start least at spelled b =
      let r : IsPlaced b.said (p - key.table.1.start) words = placed key.table.1.opening (at_first key.table.1.opening) es b.said (p - key.table.1.start) (entry k words) b.records at in
      let F : List JEntry = key.before ++ r.before in
      let whole : F ++ said ∷ (r.behind ++ b.begins.0) ≡ history =
      ap (λ z. F ++ z ∷ (r.behind ++ b.begins.0)) (one words said r.this spelled r.spelled)
      ∙ sym (append_assoc F (r.this ∷ r.behind) b.begins.0)
      ∙ ap (λ z. z ++ b.begins.0) (append_assoc key.before r.before (r.this ∷ r.behind) ∙ ap (λ z. key.before ++ z) (sym r.is))
      ∙ b.begins.1 in
      let long : length F + 1 ≡ p + 1 = (let n = length-append key.before r.before in let place = r.place in omega (arith, n, place, start, least)) in
      subst (λ z. IsEntryAt key.exports.spec (course_of key.exports.spec z) (p + 1) said) whole
      (subst (λ n. IsEntryAt key.exports.spec (course_of key.exports.spec (F ++ said ∷ (r.behind ++ b.begins.0))) n said) long (told key.exports.spec F said (r.behind ++ b.begins.0)))

  module _ {J : Type 0} (verdict : J → Net → Route → Verdict) {every : Bool} (key : ExportTerms) (a : ExportState J) (e : State J) (cursor : (TableId × Seat TableOpening) × Bool) (k : ℕ) (words : List ℕ) (said : JEntry) where
    pub taken_on : is_open a.exporter.log ≡ true → (p : ℕ) → p ≡ position_of a.cursor.0.1.role → Takes (p + 1) said a.exporter e
        → ((c : Course) → IsEntryAt a.exporter.spec c (p + 1) said → StandsFor verdict c a.exporter → StandsFor verdict c e)
        → journal cursor.0 ≡ journal a.cursor.0 → cursor.1 ≡ a.cursor.1 → position_of cursor.0.1.role ≡ p + 1 → IsPrefix (front a.cursor.0.1) (front cursor.0.1)
        → get_elem? (front cursor.0.1) (p - a.cursor.0.1.seen.terms.start) ≡ some (entry k words) → Spells said words
        → IsExporting verdict every key a → IsExporting verdict every key (record { exporter = e; cursor = cursor; marks = a.marks })
    taken_on up p here t stands same started position prefix at spelled o =
        let least : key.table.1.start ≤ p = subst (λ z. key.table.1.start ≤ z) (o.position up ∙ sym here) (o.least up) in
        record {
          spec = t.spec ∙ o.spec;
          filter = ap verdict t.judge ∙ o.filter;
          kind = o.kind;
          stays = λ e. t.flushing ∙ o.stays e;
          here = same ∙ o.here;
          start = o.start;
          family = o.family;
          begun = o.begun;
          marks = o.marks;
          makers = o.makers;
          cursors = o.cursors;
          marked = ap (λ z. without_sends (reverse z)) t.log ∙ o.marked;
          log = (o.log.0, o.log.1 ∙ ap (λ z. reverse z) (sym t.log));
          mode = started ∙ o.mode ∙ ap is_open (sym t.log);
          position = λ is. t.position ∙ sym position;
          least = λ is. (let now = t.position in omega (arith, least, now));
          stands = λ history b. stands (course_of key.exports.spec history)
              (subst (λ z. IsEntryAt z (course_of key.exports.spec history) (p + 1) said) (sym o.spec)
              (is_entry key (front cursor.0.1) history p k words said o.start least (subst (λ z. get_elem? (front cursor.0.1) (p - z) ≡ some (entry k words)) (ap (λ z. z.1.start) o.here) at) spelled b))
              (o.stands history (begins_shorter key (front a.cursor.0.1) (front cursor.0.1) history prefix b));
        }
