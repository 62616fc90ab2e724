-- Two lists, item by item: what holds of each two is what holds at each place.
use Rattle.std.proofs.Common.{◌≡◌, ℕ, zero, suc, ◌+◌, ◌<◌, ◌≤◌, ◌⊎◌, inl, inr, List, [], ◌∷◌, ◌++◌, length, set, take, map, Some, refl, sym, ap, subst, ◌∙◌, arith, zero-add}
use Rattle.std.specs.Prelude.{slice_get}
use Rattle.std.proofs.lemmas.List.{take_all}
use Rattle.std.proofs.lemmas.Option.{none-some, same_Some}
use Rattle.core_setup.specs.Pairs.{Pairs}

-- ---- places of a list

module _ {X : Type 0} where
  pub get_here : (xs : List X) (j : ℕ) → j < length xs → (x : X) × (slice_get xs j ≡ Some x)
  get_here [] j w = absurd (omega arith)
  get_here (x ∷ xs) zero w = (x, refl)
  get_here (x ∷ xs) (suc j) w = get_here xs j (omega arith)

  pub get_within : (xs : List X) (j : ℕ) (x : X) → slice_get xs j ≡ Some x → j < length xs
  get_within [] j x e = absurd (none-some x e)
  get_within (y ∷ xs) zero x e = omega arith
  get_within (y ∷ xs) (suc j) x e = let h = get_within xs j x e in omega (arith, h)

  pub get_one : (xs : List X) (j : ℕ) (x y : X) → slice_get xs j ≡ Some x → slice_get xs j ≡ Some y → x ≡ y
  get_one xs j x y a b = same_Some x y (sym a ∙ b)

  pub get-set : (xs : List X) (k : ℕ) (x : X) → k < length xs → slice_get (set xs k x) k ≡ Some x
  get-set [] k x w = absurd (omega arith)
  get-set (y ∷ xs) zero x w = refl
  get-set (y ∷ xs) (suc k) x w = get-set xs k x (omega arith)

  pub get-set_other : (xs : List X) (k j : ℕ) (x : X) → (j ≡ k → ⊥) → slice_get (set xs k x) j ≡ slice_get xs j
  get-set_other [] k j x n = refl
  get-set_other (y ∷ xs) zero zero x n = absurd (n refl)
  get-set_other (y ∷ xs) zero (suc j) x n = refl
  get-set_other (y ∷ xs) (suc k) zero x n = refl
  get-set_other (y ∷ xs) (suc k) (suc j) x n = get-set_other xs k j x (λ e. n (ap suc e))

  pub length-set_at : (xs : List X) (k : ℕ) (x : X) → length (set xs k x) ≡ length xs
  length-set_at [] k x = refl
  length-set_at (y ∷ xs) zero x = refl
  length-set_at (y ∷ xs) (suc k) x = ap suc (length-set_at xs k x)

  pub take_one_more : (xs : List X) (k : ℕ) (x : X) → slice_get xs k ≡ Some x → take (k + 1) xs ≡ take k xs ++ x ∷ []
  take_one_more [] k x e = absurd (none-some x e)
  take_one_more (y ∷ xs) zero x e = ap (λ z. z ∷ []) (same_Some y x e)
  take_one_more (y ∷ xs) (suc k) x e =
      let more : suc k + 1 ≡ suc (k + 1) = omega arith in
      ap (λ n. take n (y ∷ xs)) more ∙ ap (λ zs. y ∷ zs) (take_one_more xs k x e)

  pub length_front : (xs : List X) (k : ℕ) (x : X) → slice_get xs k ≡ Some x → 0 + length (take k xs) ≡ k
  length_front [] k x e = absurd (none-some x e)
  length_front (y ∷ xs) zero x e = refl
  length_front (y ∷ xs) (suc k) x e = let h = length_front xs k x e in omega (arith, h)

pub cases_same : (j k : ℕ) → (j ≡ k) ⊎ (j ≡ k → ⊥)
cases_same zero zero = inl refl
cases_same zero (suc k) = inr (λ e. omega (arith, e))
cases_same (suc j) zero = inr (λ e. omega (arith, e))
cases_same (suc j) (suc k) = elim (cases_same j k) [ inl e ↦ inl (ap suc e) | inr n ↦ inr (λ e. n (omega (arith, e))) ]

module _ {X Y : Type 0} where
  -- ---- both ways

  pub pairs_length : (P : ℕ → X → Y → Type 0) (n : ℕ) (xs : List X) (ys : List Y) → Pairs P n xs ys → length xs ≡ length ys
  pairs_length P n [] [] ps = refl
  pairs_length P n [] (y ∷ ys) ps = absurd ps
  pairs_length P n (x ∷ xs) [] ps = absurd ps
  pairs_length P n (x ∷ xs) (y ∷ ys) ps = ap suc (pairs_length P (n + 1) xs ys ps.1)

  moved : (P : ℕ → X → Y → Type 0) (n m : ℕ) (x a : X) (y b : Y) → n ≡ m → x ≡ a → y ≡ b → P n x y → P m a b
  moved P n m x a y b en ea eb p = subst (λ z. P m a z) eb (subst (λ z. P m z y) ea (subst (λ z. P z x y) en p))

  pub pairs_at : (P : ℕ → X → Y → Type 0) (n : ℕ) (xs : List X) (ys : List Y) → Pairs P n xs ys
      → (j : ℕ) (x : X) (y : Y) → slice_get xs j ≡ Some x → slice_get ys j ≡ Some y → P (n + j) x y
  pairs_at P n [] ys ps j x y ex ey = absurd (none-some x ex)
  pairs_at P n (a ∷ xs) [] ps j x y ex ey = absurd ps
  pairs_at P n (a ∷ xs) (b ∷ ys) ps zero x y ex ey = moved P n (n + zero) a x b y (omega arith) (same_Some a x ex) (same_Some b y ey) ps.0
  pairs_at P n (a ∷ xs) (b ∷ ys) ps (suc j) x y ex ey = subst (λ m. P m x y) (omega arith) (pairs_at P (n + 1) xs ys ps.1 j x y ex ey)

  pub pairs_from : (P : ℕ → X → Y → Type 0) (n : ℕ) (xs : List X) (ys : List Y) → length xs ≡ length ys
      → ((j : ℕ) (x : X) (y : Y) → slice_get xs j ≡ Some x → slice_get ys j ≡ Some y → P (n + j) x y) → Pairs P n xs ys
  pairs_from P n [] [] e f = tt
  pairs_from P n [] (y ∷ ys) e f = absurd (omega (arith, e))
  pairs_from P n (x ∷ xs) [] e f = absurd (omega (arith, e))
  pairs_from P n (x ∷ xs) (y ∷ ys) e f =
      (subst (λ m. P m x y) (omega arith) (f zero x y refl refl), pairs_from P (n + 1) xs ys (omega (arith, e)) (λ j a b ea eb. subst (λ m. P m a b) (omega arith) (f (suc j) a b ea eb)))

  -- the other of two
  pub pair_of : (P : ℕ → X → Y → Type 0) (n : ℕ) (xs : List X) (ys : List Y) → Pairs P n xs ys → (j : ℕ) (x : X) → slice_get xs j ≡ Some x
      → (y : Y) × (slice_get ys j ≡ Some y) × P (n + j) x y
  pair_of P n xs ys ps j x e =
      let w = get_within xs j x e in
      let h = get_here ys j (omega (arith, w, pairs_length P n xs ys ps)) in
      (h.0, h.1, pairs_at P n xs ys ps j x h.0 e h.1)

  pub pair_with : (P : ℕ → X → Y → Type 0) (n : ℕ) (xs : List X) (ys : List Y) → Pairs P n xs ys → (j : ℕ) (y : Y) → slice_get ys j ≡ Some y
      → (x : X) × (slice_get xs j ≡ Some x) × P (n + j) x y
  pair_with P n xs ys ps j y e =
      let w = get_within ys j y e in
      let h = get_here xs j (omega (arith, w, pairs_length P n xs ys ps)) in
      (h.0, h.1, pairs_at P n xs ys ps j h.0 y h.1 e)

  -- ---- weakening, a change at a place, one more

  pub pairs_weaker : (P Q : ℕ → X → Y → Type 0) (n : ℕ) (xs : List X) (ys : List Y)
      → ((j : ℕ) (x : X) (y : Y) → slice_get xs j ≡ Some x → slice_get ys j ≡ Some y → P (n + j) x y → Q (n + j) x y)
      → Pairs P n xs ys → Pairs Q n xs ys
  pairs_weaker P Q n xs ys f ps = pairs_from Q n xs ys (pairs_length P n xs ys ps) (λ j x y ex ey. f j x y ex ey (pairs_at P n xs ys ps j x y ex ey))

  pub pairs_set : (P Q : ℕ → X → Y → Type 0) (n : ℕ) (xs : List X) (ys : List Y) (k : ℕ) (new : Y)
      → ((j : ℕ) (x : X) (y : Y) → (j ≡ k → ⊥) → slice_get xs j ≡ Some x → slice_get ys j ≡ Some y → P (n + j) x y → Q (n + j) x y)
      → ((x : X) (y : Y) → slice_get xs k ≡ Some x → slice_get ys k ≡ Some y → P (n + k) x y → Q (n + k) x new)
      → Pairs P n xs ys → Pairs Q n xs (set ys k new)
  pairs_set P Q n xs ys k new others here ps =
      pairs_from Q n xs (set ys k new) (pairs_length P n xs ys ps ∙ sym (length-set_at ys k new)) (λ j x y ex ey. at j x y ex ey (cases_same j k))
    where
      at : (j : ℕ) (x : X) (y : Y) → slice_get xs j ≡ Some x → slice_get (set ys k new) j ≡ Some y → ((j ≡ k) ⊎ (j ≡ k → ⊥)) → Q (n + j) x y
      at j x y ex ey (inl e) =
          let ex' : slice_get xs k ≡ Some x = ap (slice_get xs) (sym e) ∙ ex in
          let there = pair_of P n xs ys ps k x ex' in
          let w = get_within ys k there.0 there.1 in
          let same : new ≡ y = same_Some new y (sym (get-set ys k new w) ∙ ap (slice_get (set ys k new)) (sym e) ∙ ey) in
          subst (λ m. Q (n + m) x y) (sym e) (subst (λ z. Q (n + k) x z) same (here x there.0 ex' there.1 there.2))
      at j x y ex ey (inr apart) =
          let ey' : slice_get ys j ≡ Some y = sym (get-set_other ys k j new apart) ∙ ey in
          others j x y apart ex ey' (pairs_at P n xs ys ps j x y ex ey')

  pub pairs_push : (P : ℕ → X → Y → Type 0) (n : ℕ) (xs : List X) (ys : List Y) (x : X) (y : Y) → Pairs P n xs ys → P (n + length xs) x y → Pairs P n (xs ++ x ∷ []) (ys ++ y ∷ [])
  pairs_push P n [] [] x y ps p = (subst (λ m. P m x y) (omega arith) p, tt)
  pairs_push P n [] (b ∷ ys) x y ps p = absurd ps
  pairs_push P n (a ∷ xs) [] x y ps p = absurd ps
  pairs_push P n (a ∷ xs) (b ∷ ys) x y ps p = (ps.0, pairs_push P (n + 1) xs ys x y ps.1 (subst (λ m. P m x y) (omega arith) p))

  -- ---- counted from 0

  pub pairs_here : (P : ℕ → X → Y → Type 0) (xs : List X) (ys : List Y) → Pairs P 0 xs ys
      → (j : ℕ) (x : X) (y : Y) → slice_get xs j ≡ Some x → slice_get ys j ≡ Some y → P j x y
  pairs_here P xs ys ps j x y ex ey = subst (λ m. P m x y) (zero-add j) (pairs_at P 0 xs ys ps j x y ex ey)

  pub pairs_all : (P : ℕ → X → Y → Type 0) (xs : List X) (ys : List Y) → length xs ≡ length ys
      → ((j : ℕ) (x : X) (y : Y) → slice_get xs j ≡ Some x → slice_get ys j ≡ Some y → P j x y) → Pairs P 0 xs ys
  pairs_all P xs ys e f = pairs_from P 0 xs ys e (λ j x y ex ey. subst (λ m. P m x y) (sym (zero-add j)) (f j x y ex ey))

  pub other_here : (P : ℕ → X → Y → Type 0) (xs : List X) (ys : List Y) → Pairs P 0 xs ys → (j : ℕ) (x : X) → slice_get xs j ≡ Some x
      → (y : Y) × (slice_get ys j ≡ Some y) × P j x y
  other_here P xs ys ps j x e = let h = pair_of P 0 xs ys ps j x e in (h.0, h.1, subst (λ m. P m x h.0) (zero-add j) h.2)

  pub one_here : (P : ℕ → X → Y → Type 0) (xs : List X) (ys : List Y) → Pairs P 0 xs ys → (j : ℕ) (y : Y) → slice_get ys j ≡ Some y
      → (x : X) × (slice_get xs j ≡ Some x) × P j x y
  one_here P xs ys ps j y e = let h = pair_with P 0 xs ys ps j y e in (h.0, h.1, subst (λ m. P m h.0 y) (zero-add j) h.2)

  pub weaker_here : (P Q : ℕ → X → Y → Type 0) (xs : List X) (ys : List Y)
      → ((j : ℕ) (x : X) (y : Y) → slice_get xs j ≡ Some x → slice_get ys j ≡ Some y → P j x y → Q j x y)
      → Pairs P 0 xs ys → Pairs Q 0 xs ys
  weaker_here P Q xs ys f ps = pairs_all Q xs ys (pairs_length P 0 xs ys ps) (λ j x y ex ey. f j x y ex ey (pairs_here P xs ys ps j x y ex ey))

  pub set_here : (P Q : ℕ → X → Y → Type 0) (xs : List X) (ys : List Y) (k : ℕ) (new : Y)
      → ((j : ℕ) (x : X) (y : Y) → (j ≡ k → ⊥) → slice_get xs j ≡ Some x → slice_get ys j ≡ Some y → P j x y → Q j x y)
      → ((x : X) (y : Y) → slice_get xs k ≡ Some x → slice_get ys k ≡ Some y → P k x y → Q k x new)
      → Pairs P 0 xs ys → Pairs Q 0 xs (set ys k new)
  set_here P Q xs ys k new others here ps = pairs_set P Q 0 xs ys k new
      (λ j x y apart ex ey p. subst (λ m. Q m x y) (sym (zero-add j)) (others j x y apart ex ey (subst (λ m. P m x y) (zero-add j) p)))
      (λ x y ex ey p. subst (λ m. Q m x new) (sym (zero-add k)) (here x y ex ey (subst (λ m. P m x y) (zero-add k) p))) ps

  -- the pairs of a loop's list, as far as it has come
  pub pairs_more : (P : ℕ → X → Y → Type 0) (xs : List X) (ys : List Y) (k : ℕ) (x : X) (y : Y) → slice_get xs k ≡ Some x
      → Pairs P 0 (take k xs) ys → P k x y → Pairs P 0 (take (k + 1) xs) (ys ++ y ∷ [])
  pairs_more P xs ys k x y e ps p =
      subst (λ (front : List X). Pairs P 0 front (ys ++ y ∷ [])) (sym (take_one_more xs k x e))
      (pairs_push P 0 (take k xs) ys x y ps (subst (λ m. P m x y) (sym (length_front xs k x e)) p))

  -- ---- lists that end to end are longer, and mapped ones

  pub pairs_append : (P : X → Y → Type 0) (n m k : ℕ) (xs more : List X) (ys bs : List Y) → Pairs (λ _ x y. P x y) n xs ys → Pairs (λ _ x y. P x y) m more bs → Pairs (λ _ x y. P x y) k (xs ++ more) (ys ++ bs)
  pairs_append P n m k [] more [] bs ps qs = pairs_from (λ _ x y. P x y) k more bs (pairs_length (λ _ x y. P x y) m more bs qs) (λ j x y ex ey. pairs_at (λ _ x y. P x y) m more bs qs j x y ex ey)
  pairs_append P n m k [] more (y ∷ ys) bs ps qs = absurd ps
  pairs_append P n m k (x ∷ xs) more [] bs ps qs = absurd ps
  pairs_append P n m k (x ∷ xs) more (y ∷ ys) bs ps qs = (ps.0, pairs_append P (n + 1) m (k + 1) xs more ys bs ps.1 qs)

  pub pairs_mapped : {A B : Type 0} (P : X → Y → Type 0) (Q : A → B → Type 0) (f : X → B) (g : Y → A) (n m : ℕ) (xs : List X) (ys : List Y)
      → ((x : X) (y : Y) → P x y → Q (g y) (f x)) → Pairs (λ _ x y. P x y) n xs ys → Pairs (λ _ a b. Q a b) m (map g ys) (map f xs)
  pairs_mapped P Q f g n m [] [] each ps = tt
  pairs_mapped P Q f g n m [] (y ∷ ys) each ps = absurd ps
  pairs_mapped P Q f g n m (x ∷ xs) [] each ps = absurd ps
  pairs_mapped P Q f g n m (x ∷ xs) (y ∷ ys) each ps = (each x y ps.0, pairs_mapped P Q f g (n + 1) (m + 1) xs ys each ps.1)

-- through a list between the two
pub pairs_through : {X Y Z : Type 0} (P : ℕ → X → Y → Type 0) (Q : ℕ → Y → Z → Type 0) (R : ℕ → X → Z → Type 0) (xs : List X) (ys : List Y) (zs : List Z)
    → ((j : ℕ) (x : X) (y : Y) (z : Z) → slice_get xs j ≡ Some x → slice_get ys j ≡ Some y → slice_get zs j ≡ Some z → P j x y → Q j y z → R j x z)
    → Pairs P 0 xs ys → Pairs Q 0 ys zs → Pairs R 0 xs zs
pairs_through P Q R xs ys zs each ps qs =
    pairs_all R xs zs (pairs_length P 0 xs ys ps ∙ pairs_length Q 0 ys zs qs) (λ j x z ex ez.
    let h = other_here P xs ys ps j x ex in
    each j x h.0 z ex h.1 ez h.2 (pairs_here Q ys zs qs j h.0 z h.1 ez))

-- a turn of a loop over the first list, and its end
pub pairs_turn : {X Y : Type 0} (P : ℕ → X → Y → Type 0) (xs : List X) (ys zs : List Y) (k : ℕ) (x : X) (y : Y) → slice_get xs k ≡ Some x → zs ≡ ys ++ y ∷ []
    → Pairs P 0 (take k xs) ys → P k x y → Pairs P 0 (take (k + 1) xs) zs
pairs_turn {Y} P xs ys zs k x y e ez ps p = subst (λ (l : List Y). Pairs P 0 (take (k + 1) xs) l) (sym ez) (pairs_more P xs ys k x y e ps p)

pub pairs_end : {X Y : Type 0} (P : ℕ → X → Y → Type 0) (xs : List X) (ys : List Y) (k : ℕ) → length xs ≤ k → Pairs P 0 (take k xs) ys → Pairs P 0 xs ys
pairs_end {X} P xs ys k w ps = subst (λ (l : List X). Pairs P 0 l ys) (take_all k xs w) ps
