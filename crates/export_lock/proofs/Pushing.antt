-- A push leaves what an export lock keeps.
use Rattle.std.proofs.Common.{◌≡◌, ◌≤◌, List, [], ◌∷◌, Bool, true, false, not, Option, reverse, refl, sym, ap, subst, ◌∙◌, ◌++◌, append_assoc}
use Rattle.std.specs.Prelude.{◌&&◌, IfOk, OnErr, OnOk, is_some}
use Rattle.std.specs.declared.result.Result.{Result}
use Rattle.std.specs.declared.result.Result.TheVariants.{Ok, Err}
use Rattle.std.proofs.lemmas.List.{reverse-append}
use Rattle.attrs.specs.declared.judge.Verdict.{Verdict}
use Rattle.attrs.specs.declared.route.Route.{Route}
use Rattle.bits_ip.specs.Prefix.{Net}
use Rattle.export_core.specs.Calls.{Pushes}
use Rattle.export_core.specs.Histories.{course_of}
use Rattle.export_core.specs.Logs.{Course, stretch}
use Rattle.export_core.specs.Standing.{is_open}
use Rattle.export_core.specs.States.{StandsFor, State}
use Rattle.export_core.specs.declared.exporter.Pushed.{Pushed}
use Rattle.export_core.specs.declared.exporter.Pushed.TheVariants.{Nothing, Quiet, Sent}
use Rattle.export_core.specs.declared.log.LogItem.{LogItem}
use Rattle.export_core.specs.declared.log.LogItem.TheVariants as item
use Rattle.export_core.specs.declared.log.Sending.{Sending}
use Rattle.export_core.specs.declared.outlet.PushFault.{PushFault}
use Rattle.core_machine.specs.Signals.{without_sends}
use Rattle.export_lock.specs.Kept.{IsExporting, LeavesFlush}
use Rattle.export_lock.specs.Terms.{ExportTerms}
use Rattle.export_lock.specs.declared.state.ExportState.{ExportState}

module _ {J : Type 0} (verdict : J → Net → Route → Verdict) {every : Bool} (key : ExportTerms) (a : ExportState J) (e : State J) where
  -- no mark was added
  pub unmarked_on : e.spec ≡ a.exporter.spec → e.judge ≡ a.exporter.judge → (every ≡ false → e.flushing ≡ false) → without_sends (reverse e.log) ≡ without_sends (reverse a.exporter.log) → is_open e.log ≡ is_open a.exporter.log → e.position ≡ a.exporter.position
      → (more : List LogItem) × (more ++ reverse a.exporter.log ≡ reverse e.log)
      → ((c : Course) → StandsFor verdict c a.exporter → StandsFor verdict c e) → IsExporting verdict every key a → IsExporting verdict every key (record { exporter = e; cursor = a.cursor; marks = a.marks })
  unmarked_on spec judge stays log open_is position grown stands o = record {
    spec = spec ∙ o.spec;
    filter = ap verdict judge ∙ o.filter;
    kind = o.kind;
    stays = stays;
    here = o.here;
    start = o.start;
    family = o.family;
    begun = o.begun;
    marks = o.marks;
    makers = o.makers;
    cursors = o.cursors;
    marked = log ∙ o.marked;
    log = (grown.0 ++ o.log.0, append_assoc grown.0 o.log.0 key.log ∙ ap (λ z. grown.0 ++ z) o.log.1 ∙ grown.1);
    mode = o.mode ∙ sym open_is;
    position = λ is. position ∙ o.position (sym open_is ∙ is);
    least = λ is. subst (λ z. key.table.1.start ≤ z) (sym position) (o.least (sym open_is ∙ is));
    stands = λ history b. stands (course_of key.exports.spec history) (o.stands history b);
  }

  unchanged : e ≡ a.exporter → IsExporting verdict every key a → IsExporting verdict every key (record { exporter = e; cursor = a.cursor; marks = a.marks })
  unchanged same o = unmarked_on (ap (λ z. z.spec) same) (ap (λ z. z.judge) same) (λ f. ap (λ z. z.flushing) same ∙ o.stays f) (ap (λ z. without_sends (reverse z.log)) same) (ap (λ z. is_open z.log) same) (ap (λ z. z.position) same)
      ([], ap (λ z. reverse z.log) (sym same)) (λ c s. subst (StandsFor verdict c) (sym same) s) o

  by_kind : (told more : Option (List Sending)) (p : Pushed) → Pushes verdict a.exporter e told more p → e.flushing ≡ false → ((c : Course) → StandsFor verdict c a.exporter → StandsFor verdict c e) → IsExporting verdict every key a
      → IsExporting verdict every key (record { exporter = e; cursor = a.cursor; marks = a.marks })
  by_kind told more Nothing did stays stands o = unchanged did.1 o
  by_kind told more Quiet did stays stands o =
      let q = did.2 in
      unmarked_on q.pops.spec q.pops.judge (λ _. stays) (ap (λ z. without_sends (reverse z)) q.log) (ap is_open q.log) q.pops.position ([], ap (λ z. reverse z) (sym q.log)) stands o
  by_kind told more Sent did stays stands o =
      let q = did.2 in
      let x : Sending = did.1 in
      unmarked_on q.pops.spec q.pops.judge (λ _. stays)
      (ap (λ z. without_sends (reverse z)) q.log ∙ ap without_sends (reverse-append a.exporter.log (item.Sent x ∷ [])))
      (ap is_open q.log ∙ ap (λ z. is_some (stretch z)) (reverse-append a.exporter.log (item.Sent x ∷ [])))
      q.pops.position (item.Sent x ∷ [], sym (reverse-append a.exporter.log (item.Sent x ∷ [])) ∙ ap (λ z. reverse z) (sym q.log)) stands o

  pub pushed : (told more : Option (List Sending)) (r : Result Pushed PushFault) → IfOk r (Pushes verdict a.exporter e told more) → OnErr r ((e ≡ a.exporter) × (more ≡ told)) → OnOk r (e.flushing ≡ false)
      → OnOk r ((c : Course) → StandsFor verdict c a.exporter → StandsFor verdict c e) → IsExporting verdict every key a → IsExporting verdict every key (record { exporter = e; cursor = a.cursor; marks = a.marks })
  pushed told more (Ok p) did refused stays stands o = by_kind told more p did stays stands o
  pushed told more (Err f) did refused stays stands o = unchanged refused.0 o

-- a feed goes on from where it did
pub feed_stays : {J : Type 0} (verdict : J → Net → Route → Verdict) (a e : State J) (told more : Option (List Sending)) (r : Result Pushed PushFault) → IfOk r (Pushes verdict a e told more) → OnErr r ((e ≡ a) × (more ≡ told)) → e.feed ≡ a.feed
feed_stays verdict a e told more (Ok p) did refused = by_push p did where
  by_push : (p : Pushed) → Pushes verdict a e told more p → e.feed ≡ a.feed
  by_push Nothing did = ap (λ z. z.feed) did.1
  by_push Quiet did = did.2.pops.feed
  by_push Sent did = did.2.pops.feed
feed_stays verdict a e told more (Err f) did refused = ap (λ z. z.feed) refused.0

-- nothing is withdrawn, before and then
pub pushed_rests : {J : Type 0} (r : Result Pushed PushFault) (a : ExportState J) (e : State J) (told more : Option (List Sending)) → OnErr r ((e ≡ a.exporter) × (more ≡ told)) → OnOk r (e.flushing ≡ false) → a.exporter.flushing ≡ false
    → LeavesFlush a (record { exporter = e; cursor = a.cursor; marks = a.marks })
pushed_rests (Ok p) a e told more refused stays rest = record { flushing = stays ∙ sym rest; stays = λ f. absurd (let bad : true ≡ false = sym f ∙ rest in cc) }
pushed_rests (Err f) a e told more refused stays rest = record { flushing = ap (λ z. z.flushing) refused.0; stays = λ _. (ap (λ z. z.log) refused.0, ap (λ z. z.left) refused.0) }

-- what runs is up, and withdraws nothing
pub running : (up flushing : Bool) → (up && not flushing) ≡ true → (up ≡ true) × (flushing ≡ false)
running true true e = absurd (let bad : false ≡ true = e in cc)
running true false e = (refl, refl)
running false flushing e = absurd (let bad : false ≡ true = e in cc)

-- a refusal leaves the value as it was
pub as_was : {J : Type 0} (r : Result Pushed PushFault) (a : ExportState J) (e : State J) (told more : Option (List Sending)) → OnErr r ((e ≡ a.exporter) × (more ≡ told))
    → OnErr r ((record { exporter = e; cursor = a.cursor; marks = a.marks } ≡ a) × (more ≡ told))
as_was (Ok p) a e told more refused = tt
as_was {J} (Err f) a e told more refused = (ap (λ (z : State J). record { exporter = z; cursor = a.cursor; marks = a.marks }) refused.0, refused.1)
