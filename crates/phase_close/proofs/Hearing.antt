-- What each of an actor's passes has seen, one after another.
use Rattle.std.proofs.Common.{◌≡◌, ℕ, List, [], ◌∷◌, ◌++◌, length, Some, refl}
use Rattle.std.specs.Prelude.{slice_get}
use Rattle.phase_room.proofs.Dealing.{last_or_before}

pub mid_at : {A : Type 0} (xs : List A) (x : A) (rest : List A) → slice_get (xs ++ x ∷ rest) (length xs) ≡ Some x
mid_at [] x rest = refl
mid_at (y ∷ xs) x rest = mid_at xs x rest

-- of the first of two lists each item is one that this holds of, beside its partner in the second
abbrev pub AreFirst : {X Y : Type 0} → (Y → X → Type 0) → List X → List Y → Type 0
AreFirst {X} {Y} P xs ys = (i : ℕ) (x : X) → slice_get xs i ≡ Some x → (y : Y) → slice_get ys i ≡ Some y → P y x

pub first_more : {X Y : Type 0} (P : Y → X → Type 0) (xs : List X) (ys : List Y) (x : X) → AreFirst P xs ys → ((y : Y) → slice_get ys (length xs) ≡ Some y → P y x) → AreFirst P (xs ++ x ∷ []) ys
first_more {X} {Y} P xs ys x are p i z at = last_or_before (λ j (u : X). (y : Y) → slice_get ys j ≡ Some y → P y u) xs x z i are p at
