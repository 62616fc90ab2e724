-- Places of lists, and lists of which each item stands beside its partner.
use Rattle.std.proofs.Common.{◌≡◌, ℕ, zero, suc, ◌+◌, ◌<◌, ◌≤◌, ◌⊎◌, inl, inr, List, [], ◌∷◌, ◌++◌, length, set, take, map, Some, refl, sym, ap, subst, ◌∙◌, arith}
use Rattle.std.specs.Prelude.{slice_get}
use Rattle.std.specs.List.{All}
use Rattle.std.proofs.lemmas.List.{length-set}
use Rattle.std.proofs.lemmas.List.Elements.{All-append, All-cons, All-nil}
use Rattle.std.proofs.lemmas.Option.{none-some, same_Some, slice_get_within}
use Rattle.phase_legal.specs.Shown.{AreBeside}

module _ {X : Type 0} where
  pub here : (xs : List X) (i : ℕ) → i < length xs → (x : X) × (slice_get xs i ≡ Some x)
  here [] i w = absurd (omega (arith, w))
  here (x ∷ xs) zero w = (x, refl)
  here (x ∷ xs) (suc i) w = here xs i (omega (arith, w))

  pub one : (xs : List X) (i : ℕ) (x y : X) → slice_get xs i ≡ Some x → slice_get xs i ≡ Some y → x ≡ y
  one xs i x y a b = same_Some x y (sym a ∙ b)

  pub get_set : (xs : List X) (i : ℕ) (x : X) → i < length xs → slice_get (set xs i x) i ≡ Some x
  get_set [] i x w = absurd (omega (arith, w))
  get_set (y ∷ xs) zero x w = refl
  get_set (y ∷ xs) (suc i) x w = get_set xs i x (omega (arith, w))

  pub get_other : (xs : List X) (i j : ℕ) (x : X) → (j ≡ i → ⊥) → slice_get (set xs i x) j ≡ slice_get xs j
  get_other [] i j x n = refl
  get_other (y ∷ xs) zero zero x n = absurd (n refl)
  get_other (y ∷ xs) zero (suc j) x n = refl
  get_other (y ∷ xs) (suc i) zero x n = refl
  get_other (y ∷ xs) (suc i) (suc j) x n = get_other xs i j x (λ e. n (ap suc e))

  pub take_more : (xs : List X) (i : ℕ) (x : X) → slice_get xs i ≡ Some x → take (i + 1) xs ≡ take i xs ++ x ∷ []
  take_more [] i x e = absurd (none-some x e)
  take_more (y ∷ xs) zero x e = ap (λ z. z ∷ []) (same_Some y x e)
  take_more (y ∷ xs) (suc i) x e =
      let more : suc i + 1 ≡ suc (i + 1) = omega arith in
      ap (λ n. take n (y ∷ xs)) more ∙ ap (λ zs. y ∷ zs) (take_more xs i x e)

  pub length_take : (xs : List X) (i : ℕ) → i ≤ length xs → length (take i xs) ≡ i
  length_take xs zero w = refl
  length_take [] (suc i) w = absurd (omega (arith, w))
  length_take (x ∷ xs) (suc i) w = ap suc (length_take xs i (omega (arith, w)))

pub get_map : {X Y : Type 0} (f : X → Y) (xs : List X) (i : ℕ) (x : X) → slice_get xs i ≡ Some x → slice_get (map f xs) i ≡ Some (f x)
get_map f [] i x e = absurd (none-some x e)
get_map f (y ∷ xs) zero x e = ap (λ z. Some (f z)) (same_Some y x e)
get_map f (y ∷ xs) (suc i) x e = get_map f xs i x e

pub same_or_not : (i j : ℕ) → (i ≡ j) ⊎ (i ≡ j → ⊥)
same_or_not zero zero = inl refl
same_or_not zero (suc j) = inr (λ e. omega (arith, e))
same_or_not (suc i) zero = inr (λ e. omega (arith, e))
same_or_not (suc i) (suc j) = elim (same_or_not i j) [ inl e ↦ inl (ap suc e) | inr n ↦ inr (λ e. n (omega (arith, e))) ]

module _ {X : Type 0} (P : X → Type 0) where
  pub all_last : (xs : List X) (x : X) → All P xs → P x → All P (xs ++ x ∷ [])
  all_last xs x all p = All-append P xs (x ∷ []) all (All-cons P x [] p (All-nil P))

module _ {X : Type 0} (P Q : X → Type 0) (f : (x : X) → P x → Q x) where
  pub all_weaker : (xs : List X) → All P xs → All Q xs
  all_weaker [] all = All-nil Q
  all_weaker (x ∷ xs) all = All-cons Q x xs (f x (all 0 x (omega arith))) (all_weaker xs (λ k d less. all (suc k) d (omega (arith, less))))

module _ {X Y : Type 0} (P : X → Y → Type 0) where
  pub partner : (xs : List X) (ys : List Y) (i : ℕ) (x : X) → AreBeside P xs ys → slice_get xs i ≡ Some x → (y : Y) × (slice_get ys i ≡ Some y)
  partner xs ys i x are at = here ys i (let w = slice_get_within xs i x at in let c = are.count in omega (arith, w, c))

  pub partner_back : (xs : List X) (ys : List Y) (i : ℕ) (y : Y) → AreBeside P xs ys → slice_get ys i ≡ Some y → (x : X) × (slice_get xs i ≡ Some x)
  partner_back xs ys i y are at = here xs i (let w = slice_get_within ys i y at in let c = are.count in omega (arith, w, c))

module _ {X : Type 0} (P : X → X → Type 0) where
  pub beside_self : (xs : List X) → ((x : X) → P x x) → AreBeside P xs xs
  beside_self xs self = record { count = refl; each = λ i x y a b. subst (P x) (one xs i x y a b) (self x) }

  -- one item was changed
  pub beside_set : (xs : List X) (i : ℕ) (x y : X) → slice_get xs i ≡ Some x → ((z : X) → P z z) → P x y → AreBeside P xs (set xs i y)
  beside_set xs i x y at self p = record {
    count = length-set xs i y;
    each = λ j u v a b. elim (same_or_not j i) [
      | inl e ↦
          subst (λ z. P z v) (one xs i x u at (ap (slice_get xs) (sym e) ∙ a))
          (subst (P x) (one (set xs i y) i y v (get_set xs i y (slice_get_within xs i x at)) (ap (slice_get (set xs i y)) (sym e) ∙ b)) p)
      | inr n ↦ subst (P u) (one xs j u v a (sym (get_other xs i j y n) ∙ b)) (self u)
    ];
  }

module _ {X Y Z : Type 0} (P : X → Y → Type 0) (Q : Y → Z → Type 0) (R : X → Z → Type 0) where
  pub beside_then : (xs : List X) (ys : List Y) (zs : List Z) → ((x : X) (y : Y) (z : Z) → P x y → Q y z → R x z) → AreBeside P xs ys → AreBeside Q ys zs → AreBeside R xs zs
  beside_then xs ys zs f p q = record {
    count = q.count ∙ p.count;
    each = λ i x z a b. let y = partner P xs ys i x p a in f x y.0 z (p.each i x y.0 a y.1) (q.each i y.0 z y.1 b);
  }
