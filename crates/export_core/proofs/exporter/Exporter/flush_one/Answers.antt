use Rattle.std.proofs.Common.{◌≡◌, ◌∙◌, ◌∷◌, false, None, refl, sym, ap, subst}
use Rattle.export_core.specs.declared.log.Sending.{Sending}
use Rattle.export_core.proofs.Stretches.{flushes_from}
use Rattle.export_core.specs.Calls.{AreStanding}
use Rattle.export_core.proofs.Left.{are_standing}
use Rattle.export_core.proofs.Kept.{head_drop, kept_flush}
use Rattle.export_core.proofs.Families.{families_less}
use Rattle.export_core.proofs.exporter.Exporter.flush_one.Goals as goal

pub invariant_of-self-2 : goal.invariant_of-self-2
invariant_of-self-2 g c = (
  kept_flush _ _ _ _ _ c.self.invariant.0 (λ k n e. sym (c.skip_places.ensures.same k) ∙ c.pop.ensures.fewer k n e),
  families_less _ _ _ _ c.self.invariant.1 (λ k n e. sym (c.skip_places.ensures.same k) ∙ c.pop.ensures.fewer k n e),
)

pub returns-clause-flushes : goal.returns-clause-flushes
returns-clause-flushes g c =
    let x : Sending = record { at = c.self.inside.position; key = c.in-Some.key; value = None; again = false } in (
      x,
      flushes_from x _ _ _ c.self.view_is (record {
        left = sym c.skip_places.ensures.held ∙ head_drop _ _ (sym c.in-Some.ensures.first) ∙ ap (λ l. c.in-Some.key ∷ l) (sym c.pop.ensures.held);
        value = refl;
        at = refl;
        again = refl;
        flushing = refl;
        spec = refl;
        judge = refl;
        position = refl;
        floors = refl;
        feed = refl;
        refreshing = refl;
        marks = refl;
        log = refl;
      }),
      c.in_ok-put.ensures.told,
    )

pub returns-in_default-clause-first : goal.returns-in_default-clause-first
returns-in_default-clause-first g c = subst (λ e. e.flushing ≡ false → AreStanding e.log e.left) c.self.view_is (λ steady. are_standing c.self.inside.flushing c.self.inside.up c.self.inside.sent c.self.inside.log.items steady c.self.invariant.0 c.ascend.ensures)

pub returns-in_err-put-clause-first : goal.returns-in_err-put-clause-first
returns-in_err-put-clause-first g c = subst (λ e. e.flushing ≡ false → AreStanding e.log e.left) c.self.view_is (λ steady. are_standing c.self.inside.flushing c.self.inside.up c.self.inside.sent c.self.inside.log.items steady c.self.invariant.0 c.ascend.ensures)

pub returns-clause-first : goal.returns-clause-first
returns-clause-first g c = subst (λ e. e.flushing ≡ false → AreStanding e.log e.left) c.self.view_is (λ steady. are_standing c.self.inside.flushing c.self.inside.up c.self.inside.sent c.self.inside.log.items steady c.self.invariant.0 c.ascend.ensures)
