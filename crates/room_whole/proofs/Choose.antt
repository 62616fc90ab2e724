-- A function of numbers, made of what is known of each item of a list by its number.
use Rattle.std.proofs.Common.{◌≡◌, ℕ, List, Option, Some, None, refl, sym, subst}
use Rattle.std.specs.Prelude.{slice_get}
use Rattle.core_setup.proofs.Numbered.{none_some, some_same}

module _ {X Y : Type 0} (R : X → Y → Type 0) (none : Y) where
  -- what an item is given, or none
  abbrev pub given_by : (found : Option X) → ((x : X) → found ≡ Some x → (y : Y) × R x y) → Y
  given_by None each = none
  given_by (Some x) each = (each x refl).0

  pub given_is : (found : Option X) (each : (x : X) → found ≡ Some x → (y : Y) × R x y) (x : X) → found ≡ Some x → R x (given_by found each)
  given_is None each x is = none_some is
  given_is (Some z) each x is = subst (λ (q : X). R q (each z refl).0) (some_same is) (each z refl).1

  pub given_none : (found : Option X) (each : (x : X) → found ≡ Some x → (y : Y) × R x y) → found ≡ None → given_by found each ≡ none
  given_none None each is = refl
  given_none (Some x) each is = none_some (sym is)

module _ {X Y : Type 0} (xs : List X) (R : ℕ → X → Y → Type 0) (none : Y) (each : (i : ℕ) (x : X) → slice_get xs i ≡ Some x → (y : Y) × R i x y) where
  abbrev pub chosen : ℕ → Y
  chosen i = given_by (R i) none (slice_get xs i) (each i)

  pub chosen_at : (i : ℕ) (x : X) → slice_get xs i ≡ Some x → R i x (chosen i)
  chosen_at i x at = given_is (R i) none (slice_get xs i) (each i) x at

  pub chosen_none : (i : ℕ) → slice_get xs i ≡ None → chosen i ≡ none
  chosen_none i at = given_none (R i) none (slice_get xs i) (each i) at
