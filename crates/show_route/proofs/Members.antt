-- What stands in a list, by recursion.
use Rattle.std.proofs.Common.{◌≡◌, ◌++◌, suc, Bool, true, false, cond, ◌⊎◌, inl, inr, List, [], ◌∷◌, refl, sym, subst, arith}
use Rattle.std.specs.Prelude.{Contains, ◌||◌}
use Rattle.std.specs.List.{filter, flat_map, list_any}
use Rattle.std.proofs.lemmas.Bool.{cond-true, false≢true}
use Rattle.attrs.proofs.Rows.{Contains-cons_cases, Contains-nothing}

abbrev pub Has : {X : Type 0} → List X → X → Type 0
Has [] y = ⊥
Has (x ∷ xs) y = (x ≡ y) ⊎ Has xs y

pub has-contains : {X : Type 0} → (xs : List X) (y : X) → Has xs y → Contains xs y
has-contains [] y h = absurd h
has-contains (x ∷ xs) y (inl e) = (0, omega arith, e)
has-contains (x ∷ xs) y (inr h) = let c = has-contains xs y h in (suc c.0, omega (arith, c.1), c.2)

pub contains-has : {X : Type 0} → (xs : List X) (y : X) → Contains xs y → Has xs y
contains-has [] y c = Contains-nothing y c
contains-has (x ∷ xs) y c = elim (Contains-cons_cases x xs y c) [ inl e ↦ inl e | inr h ↦ inr (contains-has xs y h) ]

pub has-left : {X : Type 0} → (xs ys : List X) (y : X) → Has xs y → Has (xs ++ ys) y
has-left [] ys y h = absurd h
has-left (x ∷ xs) ys y (inl e) = inl e
has-left (x ∷ xs) ys y (inr h) = inr (has-left xs ys y h)

pub has-right : {X : Type 0} → (xs ys : List X) (y : X) → Has ys y → Has (xs ++ ys) y
has-right [] ys y h = h
has-right (x ∷ xs) ys y h = inr (has-right xs ys y h)

pub has-cases : {X : Type 0} → (xs ys : List X) (y : X) → Has (xs ++ ys) y → Has xs y ⊎ Has ys y
has-cases [] ys y h = inr h
has-cases (x ∷ xs) ys y (inl e) = inl (inl e)
has-cases (x ∷ xs) ys y (inr h) = elim (has-cases xs ys y h) [ inl k ↦ inl (inr k) | inr k ↦ inr k ]

pub has-mapped : {X A : Type 0} → (f : X → List A) (xs : List X) (y : A) → Has (flat_map f xs) y → (x : X) × Has xs x × Has (f x) y
has-mapped f [] y h = absurd h
has-mapped f (x ∷ xs) y h = elim (has-cases (f x) (flat_map f xs) y h) [
  | inl k ↦ (x, inl refl, k)
  | inr k ↦ let found = has-mapped f xs y k in (found.0, inr found.1, found.2)
]

pub mapped-has : {X A : Type 0} → (f : X → List A) (xs : List X) (x : X) (y : A) → Has xs x → Has (f x) y → Has (flat_map f xs) y
mapped-has f [] x y h k = absurd h
mapped-has f (z ∷ xs) x y (inl e) k = has-left (f z) (flat_map f xs) y (subst (λ w. Has (f w) y) (sym e) k)
mapped-has f (z ∷ xs) x y (inr h) k = has-right (f z) (flat_map f xs) y (mapped-has f xs x y h k)

pub has-passed : {X : Type 0} → (test : X → Bool) (xs : List X) (y : X) → Has (filter test xs) y → Has xs y × (test y ≡ true)
has-passed test [] y h = absurd h
has-passed test (x ∷ xs) y h = on (test x) refl (has-passed test xs y) h where
  on : (b : Bool) → test x ≡ b → (Has (filter test xs) y → Has xs y × (test y ≡ true)) → Has (cond b (x ∷ filter test xs) (filter test xs)) y → Has (x ∷ xs) y × (test y ≡ true)
  on true e behind (inl same) = (inl same, subst (λ w. test w ≡ true) same e)
  on true e behind (inr k) = let p = behind k in (inr p.0, p.1)
  on false e behind k = let p = behind k in (inr p.0, p.1)

pub passed-has : {X : Type 0} → (test : X → Bool) (xs : List X) (y : X) → Has xs y → test y ≡ true → Has (filter test xs) y
passed-has test [] y h e = absurd h
passed-has test (x ∷ xs) y (inl same) e = subst (λ (l : List _). Has l y) (sym (cond-true _ _ _ (subst (λ w. test w ≡ true) (sym same) e))) (inl same)
passed-has test (x ∷ xs) y (inr h) e = on (test x) (passed-has test xs y h e) where
  on : (b : Bool) → Has (filter test xs) y → Has (cond b (x ∷ filter test xs) (filter test xs)) y
  on true k = inr k
  on false k = k

pub any-has : {X : Type 0} → (test : X → Bool) (xs : List X) → list_any test xs ≡ true → (x : X) × Has xs x × (test x ≡ true)
any-has test [] e = absurd (false≢true e)
any-has {X} test (x ∷ xs) e = on (test x) refl (any-has test xs) e where
  on : (b : Bool) → test x ≡ b → (list_any test xs ≡ true → (y : X) × Has xs y × (test y ≡ true)) → (b || list_any test xs) ≡ true → (y : X) × Has (x ∷ xs) y × (test y ≡ true)
  on true is behind e = (x, inl refl, is)
  on false is behind e = let found = behind e in (found.0, inr found.1, found.2)

pub any-none : {X : Type 0} → (test : X → Bool) (xs : List X) → list_any test xs ≡ false → (x : X) → Has xs x → test x ≡ false
any-none test [] e x h = absurd h
any-none test (y ∷ xs) e x h = on (test y) refl (λ f. any-none test xs f x) e h where
  on : (b : Bool) → test y ≡ b → (list_any test xs ≡ false → Has xs x → test x ≡ false) → (b || list_any test xs) ≡ false → Has (y ∷ xs) x → test x ≡ false
  on true is behind e k = absurd (false≢true (sym e))
  on false is behind e (inl same) = subst (λ w. test w ≡ false) same is
  on false is behind e (inr k) = behind e k
