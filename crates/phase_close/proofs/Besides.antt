-- Two lists, each item beside its partner, that have one item more.
use Rattle.std.proofs.Common.{◌≡◌, ℕ, zero, suc, List, [], ◌∷◌, ◌++◌, length, Some, refl, subst, arith, length-append}
use Rattle.std.specs.Prelude.{slice_get}
use Rattle.core_setup.proofs.Numbered.{none_some, some_same}
use Rattle.phase_legal.specs.Shown.{AreBeside}

module _ {X Y : Type 0} where
  -- by number
  pub each_more : (P : ℕ → X → Y → Type 0) (xs : List X) (ys : List Y) (x : X) (y : Y) → length ys ≡ length xs → ((i : ℕ) (a : X) (b : Y) → slice_get xs i ≡ Some a → slice_get ys i ≡ Some b → P i a b) → P (length xs) x y
      → (i : ℕ) (a : X) (b : Y) → slice_get (xs ++ x ∷ []) i ≡ Some a → slice_get (ys ++ y ∷ []) i ≡ Some b → P i a b
  each_more P [] [] x y many each p zero a b at there = subst (λ z. P zero z b) (some_same at) (subst (P zero x) (some_same there) p)
  each_more P [] [] x y many each p (suc i) a b at there = none_some at
  each_more P [] (d ∷ ys) x y many each p i a b at there = absurd (omega (arith, many))
  each_more P (c ∷ xs) [] x y many each p i a b at there = absurd (omega (arith, many))
  each_more P (c ∷ xs) (d ∷ ys) x y many each p zero a b at there = each zero a b at there
  each_more P (c ∷ xs) (d ∷ ys) x y many each p (suc i) a b at there =
      each_more (λ j. P (suc j)) xs ys x y (omega (arith, many)) (λ j. each (suc j)) p i a b at there

  pub one_more : (xs : List X) (ys : List Y) (x : X) (y : Y) → length ys ≡ length xs → length (ys ++ y ∷ []) ≡ length (xs ++ x ∷ [])
  one_more xs ys x y many = let left = length-append xs (x ∷ []) in let right = length-append ys (y ∷ []) in omega (arith, many, left, right)

  module _ (P : X → Y → Type 0) where
    pub beside_none : AreBeside P [] []
    beside_none = record { count = refl; each = λ i a b at there. none_some at }

    pub beside_more : (xs : List X) (ys : List Y) (x : X) (y : Y) → AreBeside P xs ys → P x y → AreBeside P (xs ++ x ∷ []) (ys ++ y ∷ [])
    beside_more xs ys x y are p = record { count = one_more xs ys x y are.count; each = each_more (λ i. P) xs ys x y are.count are.each p }
