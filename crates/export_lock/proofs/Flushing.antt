-- A turn of a flush leaves what an export lock of a direction keeps, with one key more withdrawn.
use Rattle.std.proofs.Common.{◌≡◌, inl, inr, true, false, List, [], ◌∷◌, ◌++◌, Option, sym, ap, subst, ◌∙◌, append-nil, append_assoc}
use Rattle.std.specs.Prelude.{IfOk, OnErr, OnOk, reverse}
use Rattle.std.specs.declared.result.Result.{Result}
use Rattle.std.specs.declared.result.Result.TheVariants.{Ok, Err}
use Rattle.std.proofs.lemmas.Bool.{cases_Bool}
use Rattle.attrs.specs.declared.judge.Verdict.{Verdict}
use Rattle.attrs.specs.declared.route.Route.{Route}
use Rattle.bits_ip.specs.Prefix.{Net}
use Rattle.core_machine.specs.Signals.{without_sends}
use Rattle.export_core.specs.Calls.{AreStanding, Flushes, FlushesBy}
use Rattle.export_core.specs.Logs.{Course}
use Rattle.export_core.specs.Standing.{is_open}
use Rattle.export_core.specs.States.{StandsFor, State}
use Rattle.export_core.specs.declared.exporter.Pushed.{Pushed}
use Rattle.export_core.specs.declared.exporter.Pushed.TheVariants.{Nothing, Quiet, Sent}
use Rattle.export_core.specs.declared.log.Key.{Key}
use Rattle.export_core.specs.declared.log.Sending.{Sending}
use Rattle.export_core.specs.declared.outlet.PushFault.{PushFault}
use Rattle.export_lock.specs.Flushes.{FlushesOn, IsDirection}
use Rattle.export_lock.specs.Kept.{GoesOn, LeavesFlush}
use Rattle.export_lock.specs.Terms.{ExportTerms}
use Rattle.export_lock.specs.declared.state.ExportState.{ExportState}
use Rattle.export_lock.proofs.Pushing.{unmarked_on}

module _ {J : Type 0} (verdict : J → Net → Route → Verdict) (done : List Key) (key : ExportTerms) (a : ExportState J) (d : IsDirection verdict done key a) where
  -- what was withdrawn and what is left is what stood
  stood_now : (a.exporter.flushing ≡ false → AreStanding a.exporter.log a.exporter.left) → AreStanding a.exporter.log (done ++ a.exporter.left)
  stood_now first = elim (cases_Bool a.exporter.flushing) [
    | inl w ↦ d.stood w
    | inr w ↦ subst (λ (ks : List Key). AreStanding a.exporter.log (ks ++ a.exporter.left)) (sym (d.none w)) (first w)
  ]

  module _ (e : State J) (told more : Option (List Sending)) (first : a.exporter.flushing ≡ false → AreStanding a.exporter.log a.exporter.left) where
    one_more : (x : Sending) → Flushes x a.exporter e → ((c : Course) → StandsFor verdict c a.exporter → StandsFor verdict c e) → IsDirection verdict (done ++ x.key ∷ []) key (record { exporter = e; cursor = a.cursor; marks = a.marks })
    one_more x f stands = record {
      exporting = unmarked_on verdict key a e f.spec f.judge (λ no. absurd (let bad : true ≡ false = no in cc)) (ap (λ z. without_sends (reverse z)) f.log) (ap is_open f.log) f.position ([], ap (λ z. reverse z) (sym f.log)) stands d.exporting;
      none = λ no. absurd (let bad : true ≡ false = sym f.flushing ∙ no in cc);
      stood = λ _.
          subst (λ log. AreStanding log ((done ++ x.key ∷ []) ++ e.left)) (sym f.log)
          (subst (AreStanding a.exporter.log) (ap (λ ks. done ++ ks) f.left ∙ sym (append_assoc done (x.key ∷ []) e.left)) (stood_now first));
    }

    by_kind : (p : Pushed) → FlushesBy a.exporter e told more p → ((c : Course) → StandsFor verdict c a.exporter → StandsFor verdict c e) → FlushesOn verdict done key a (record { exporter = e; cursor = a.cursor; marks = a.marks }) told more (Ok p)
    by_kind Nothing did stands = record {
      same = ap (λ (z : State J). record { exporter = z; cursor = a.cursor; marks = a.marks }) did.1;
      left = ap (λ z. z.left) did.1 ∙ did.0;
      stood =
          subst (λ (z : State J). AreStanding z.log done) (sym did.1)
          (subst (AreStanding a.exporter.log) (ap (λ ks. done ++ ks) did.0 ∙ append-nil done) (stood_now first));
      given = did.2;
    }
    by_kind Quiet did stands = absurd did
    by_kind Sent did stands = record { sending = did.0; flushes = did.1; direction = one_more did.0 did.1 stands; given = did.2 }

    pub flushed : (r : Result Pushed PushFault) → IfOk r (FlushesBy a.exporter e told more) → OnErr r ((e ≡ a.exporter) × (more ≡ told)) → OnOk r ((c : Course) → StandsFor verdict c a.exporter → StandsFor verdict c e)
        → FlushesOn verdict done key a (record { exporter = e; cursor = a.cursor; marks = a.marks }) told more r
    flushed (Ok p) did refused stands = by_kind p did stands
    flushed (Err f) did refused stands = (ap (λ (z : State J). record { exporter = z; cursor = a.cursor; marks = a.marks }) refused.0, refused.1)

-- what a turn that isn't a flush's leaves
pub goes_on : {J : Type 0} (verdict : J → Net → Route → Verdict) (done : List Key) (key : ExportTerms) (old new : ExportState J) → GoesOn verdict old new → LeavesFlush old new → IsDirection verdict done key old → IsDirection verdict done key new
goes_on verdict done key old new keeps leaves d = record {
  exporting = keeps true key d.exporting;
  none = λ no. d.none (sym leaves.flushing ∙ no);
  stood = λ yes.
      let was = sym leaves.flushing ∙ yes in
      let same = leaves.stays was in
      subst (λ log. AreStanding log (done ++ new.exporter.left)) (sym same.0) (subst (λ left. AreStanding old.exporter.log (done ++ left)) (sym same.1) (d.stood was));
}
