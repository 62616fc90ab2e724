-- Histories that begin with what is known.
use Rattle.std.proofs.Common.{◌≡◌, Bool, ℕ, ◌+◌, ◌≤◌, arith, List, [], ◌++◌, length, drop, sym, ap, subst, ◌∙◌, append-nil, append_assoc, length-append}
use Rattle.std.specs.Prelude.{Option, take, reverse}
use Rattle.std.proofs.lemmas.List.{take-append-drop}
use mathlib.Core.List.{IsPrefix}
use Rattle.atomic_table.specs.Seated.{TableId}
use Rattle.attrs.specs.declared.attributes.Attrs.{Attrs}
use Rattle.attrs.specs.declared.journal.JEntry.{JEntry}
use Rattle.attrs.specs.declared.judge.Verdict.{Verdict}
use Rattle.attrs.specs.declared.route.Route.{Route}
use Rattle.bits_ip.specs.Prefix.{Net}
use Rattle.export_core.specs.Histories.{course_of}
use Rattle.export_core.specs.Logs.{Course, Follows, highest}
use Rattle.export_core.specs.States.{value_for}
use Rattle.export_core.specs.declared.log.Key.{Key}
use Rattle.export_core.specs.declared.log.LogItem.{LogItem}
use Rattle.jour_rule.specs.declared.views.Entry.{Entry}
use Rattle.jour_rule.specs.declared.views.Terms.{Terms}
use Rattle.jour_rule.specs.declared.views.View.{View as Seat}
use Rattle.jour.specs.Seats.{front}
use Rattle.table_shared.specs.Opening.{TableOpening}
use Rattle.table_shared.specs.Records.{AreRecords, IsLawful, at_first, records_front}
use Rattle.table_shared.proofs.Records.{as_many}
use Rattle.export_lock.specs.Kept.{IsExporting}
use Rattle.export_lock.specs.MarkTurns.{Starts}
use Rattle.export_lock.specs.Terms.{BeginsWith, ExportTerms}
use Rattle.export_lock.specs.declared.state.ExportState.{ExportState}

-- what begins with more begins with less
pub begins_shorter : (key : ExportTerms) (es more : List Entry) (history : List JEntry) → IsPrefix es more → BeginsWith key more history → BeginsWith key es history
begins_shorter key es more history p b =
    let n : ℕ = length es in
    let opening : TableOpening = key.table.1.opening in
    record {
      said = take n b.said;
      records = records_front opening (at_first opening) es p.0 b.said (subst (λ z. AreRecords opening (at_first opening) z b.said) (sym p.1) b.records);
      begins = (
        drop n b.said ++ b.begins.0,
        append_assoc key.before (take n b.said) (drop n b.said ++ b.begins.0)
            ∙ ap (λ z. key.before ++ z) (sym (append_assoc (take n b.said) (drop n b.said) b.begins.0))
            ∙ ap (λ z. key.before ++ (z ++ b.begins.0)) (take-append-drop n b.said)
            ∙ sym (append_assoc key.before b.said b.begins.0)
            ∙ b.begins.1,
      );
    }

-- such a history is no shorter
pub begins_within : (key : ExportTerms) (es : List Entry) (history : List JEntry) → key.table.1.start ≡ length key.before → BeginsWith key es history → key.table.1.start + length es ≤ length history
begins_within key es history start b =
    let count = as_many key.table.1.opening (at_first key.table.1.opening) es b.said b.records in
    let whole = ap length b.begins.1 in
    let outer = length-append (key.before ++ b.said) b.begins.0 in
    let inner = length-append key.before b.said in
    omega (arith, start, count, whole, outer, inner)

module _ {J : Type 0} (verdict : J → Net → Route → Verdict) where
  -- no position of the log is above the head at which its cursor is started
  pub low : ((value : Key → Route → Option Attrs) (c : Course) (log : List LogItem) → Follows value c log → highest log ≤ c.len)
      → {every : Bool} (key : ExportTerms) (a : ExportState J) (head : ℕ) (reader : (TableId × Seat TableOpening) × Bool) → Starts head a.cursor reader → IsExporting verdict every key a
      → IsLawful reader.0.1.seen.terms.opening (front reader.0.1) → highest (reverse a.exporter.log) ≤ head
  low law {every} key a head reader starts o known =
      let lawful : IsLawful key.table.1.opening (front reader.0.1) = subst (λ (j : TableId × Terms TableOpening). IsLawful j.1.opening (front reader.0.1)) (starts.here ∙ o.here) known in
      let history : List JEntry = key.before ++ lawful.0 in
      let b : BeginsWith key (front reader.0.1) history = record { said = lawful.0; records = lawful.1; begins = ([], append-nil history) } in
      let below = law (value_for verdict a.exporter) (course_of key.exports.spec history) (reverse a.exporter.log) (o.stands history (begins_shorter key (front a.cursor.0.1) (front reader.0.1) history starts.prefix b)).follows in
      let count = as_many key.table.1.opening (at_first key.table.1.opening) (front reader.0.1) lawful.0 lawful.1 in
      let inner = length-append key.before lawful.0 in
      let start = o.start in
      let here = ap (λ (j : TableId × Terms TableOpening). j.1.start) (starts.here ∙ o.here) in
      let seen = starts.seen in
      omega (arith, below, count, inner, start, here, seen)
