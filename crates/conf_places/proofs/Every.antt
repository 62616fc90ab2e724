-- What holds of each of a list.
use Rattle.std.proofs.Common.{zero, suc, arith, All, Contains, List, [], ◌∷◌, ◌++◌, refl, subst}
use Rattle.std.specs.Bool.{⊤}

abbrev pub Every : {X : Type 0} → (X → Type 0) → List X → Type 0
Every P [] = ⊤
Every P (x ∷ xs) = P x × Every P xs

pub join : {X : Type 0} (P : X → Type 0) (xs ys : List X) → Every P xs → Every P ys → Every P (xs ++ ys)
join P [] ys p q = q
join P (x ∷ xs) ys p q = (p.0, join P xs ys p.1 q)

pub left : {X : Type 0} (P : X → Type 0) (xs ys : List X) → Every P (xs ++ ys) → Every P xs
left P [] ys p = tt
left P (x ∷ xs) ys p = (p.0, left P xs ys p.1)

pub right : {X : Type 0} (P : X → Type 0) (xs ys : List X) → Every P (xs ++ ys) → Every P ys
right P [] ys p = p
right P (x ∷ xs) ys p = right P xs ys p.1

pub weaker : {X : Type 0} (P Q : X → Type 0) → ((x : X) → P x → Q x) → (xs : List X) → Every P xs → Every Q xs
weaker P Q f [] p = tt
weaker P Q f (x ∷ xs) p = (f x p.0, weaker P Q f xs p.1)

pub all_of : {X : Type 0} (P : X → Type 0) (xs : List X) → Every P xs → All P xs
all_of P [] p k d lt = absurd (omega (arith, lt))
all_of P (x ∷ xs) p zero d lt = p.0
all_of P (x ∷ xs) p (suc k) d lt = all_of P xs p.1 k d (omega (arith, lt))

pub contains_more : {X : Type 0} (x : X) (xs : List X) (y : X) → Contains xs y → Contains (x ∷ xs) y
contains_more x xs y c = (suc c.0, omega (arith, c.1), c.2)

pub members : {X : Type 0} (xs : List X) → Every (λ x. Contains xs x) xs
members [] = tt
members (x ∷ xs) = ((0, omega arith, refl), weaker (λ y. Contains xs y) (λ y. Contains (x ∷ xs) y) (contains_more x xs) xs (members xs))

-- what holds of all holds of one of them
pub of_one_among : {X : Type 0} (P : X → Type 0) (xs : List X) (x : X) → All P xs → Contains xs x → P x
of_one_among P xs x each c = subst P c.2 (each c.0 x c.1)

-- what holds of each place of each of a list
pub all_of_all : {X Y : Type 0} (P : Y → Type 0) (f : X → List Y) (xs : List X) → Every (λ x. Every P (f x)) xs → All (λ x. All P (f x)) xs
all_of_all P f xs h = all_of (λ x. All P (f x)) xs (weaker (λ x. Every P (f x)) (λ x. All P (f x)) (λ x e. all_of P (f x) e) xs h)
