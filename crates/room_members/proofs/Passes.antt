-- A pass among passes of each table: all are grown once one was used.
use Rattle.std.proofs.Common.{◌≡◌, ℕ, inl, inr, List, [], set, Some, refl, sym, ap, subst, ◌∙◌, append-nil}
use Rattle.std.specs.Prelude.{slice_get}
use Rattle.core_setup.proofs.PairLemmas.{cases_same, get-set, get-set_other, get_one, get_within, length-set_at}
use Rattle.jour.specs.Seats.{front}
use Rattle.phase_legal.specs.Shown.{AreGrown, IsGrown, PassView}

grown_self : (a : PassView) → IsGrown a a
grown_self a = (refl, ([], append-nil (front a.1)))

module _ (xs : List PassView) (i : ℕ) (x y : PassView) (at : slice_get xs i ≡ Some x) where
  pub one_there : (z : PassView) → slice_get (set xs i y) i ≡ Some z → z ≡ y
  one_there z e = get_one (set xs i y) i z y e (get-set xs i y (get_within xs i x at))

  pub one_grown : IsGrown x y → AreGrown xs (set xs i y)
  one_grown p = record {
    count = length-set_at xs i y;
    each = λ j u v a b. elim (cases_same j i) [
      | inl e ↦
          subst (λ z. IsGrown z v) (get_one xs i x u at (ap (slice_get xs) (sym e) ∙ a))
          (subst (λ z. IsGrown x z) (sym (one_there v (ap (slice_get (set xs i y)) (sym e) ∙ b))) p)
      | inr n ↦ subst (λ z. IsGrown u z) (get_one xs j u v a (sym (get-set_other xs i j y n) ∙ b)) (grown_self u)
    ];
  }
