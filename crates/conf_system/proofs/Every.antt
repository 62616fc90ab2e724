-- What holds of each of a list.
use Rattle.std.proofs.Common.{ℕ, zero, suc, ◌<◌, arith, All, Contains, get_or, length, List, [], ◌∷◌, ◌++◌, refl, subst}
use Rattle.std.specs.Bool.{⊤}

abbrev pub Every : {X : Type 0} → (X → Type 0) → List X → Type 0
Every P [] = ⊤
Every P (x ∷ xs) = P x × Every P xs

pub join : {X : Type 0} (P : X → Type 0) (xs ys : List X) → Every P xs → Every P ys
    → Every P (xs ++ ys)
join P [] ys p q = q
join P (x ∷ xs) ys p q = (p.0, join P xs ys p.1 q)

pub weaker : {X : Type 0} (P Q : X → Type 0) → ((x : X) → P x → Q x) → (xs : List X) → Every P xs
    → Every Q xs
weaker P Q f [] p = tt
weaker P Q f (x ∷ xs) p = (f x p.0, weaker P Q f xs p.1)

at_place : {X : Type 0} (P : X → Type 0) (xs : List X) (k : ℕ) (d : X) → k < length xs
    → Every P xs → P (get_or xs k d)
at_place P [] k d lt p = absurd (omega (arith, lt))
at_place P (x ∷ xs) zero d lt p = p.0
at_place P (x ∷ xs) (suc k) d lt p = at_place P xs k d (omega (arith, lt)) p.1

-- what holds of each holds of one of them
pub of_one : {X : Type 0} (P : X → Type 0) (xs : List X) (x : X) → Every P xs → Contains xs x → P x
of_one P xs x p c = subst P c.2 (at_place P xs c.0 x c.1 p)

pub all_of : {X : Type 0} (P : X → Type 0) (xs : List X) → Every P xs → All P xs
all_of P xs p = λ k d lt. at_place P xs k d lt p

pub left : {X : Type 0} (P : X → Type 0) (xs ys : List X) → Every P (xs ++ ys) → Every P xs
left P [] ys p = tt
left P (x ∷ xs) ys p = (p.0, left P xs ys p.1)

pub right : {X : Type 0} (P : X → Type 0) (xs ys : List X) → Every P (xs ++ ys) → Every P ys
right P [] ys p = p
right P (x ∷ xs) ys p = right P xs ys p.1

contains_more : {X : Type 0} (x : X) (xs : List X) (y : X) → Contains xs y → Contains (x ∷ xs) y
contains_more x xs y c = (suc c.0, omega (arith, c.1), c.2)

pub members : {X : Type 0} (xs : List X) → Every (λ x. Contains xs x) xs
members [] = tt
members (x ∷ xs) = (
  (0, omega arith, refl),
  weaker (λ y. Contains xs y) (λ y. Contains (x ∷ xs) y) (contains_more x xs) xs (members xs),
)
