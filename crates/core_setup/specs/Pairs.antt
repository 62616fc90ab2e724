-- Two lists, item by item, with the number of each (`Pairs`).
-- From: own.
-- Example: lists of different lengths are no pairs.
use Rattle.std.specs.Prelude.{ℕ, ◌+◌, List, [], ◌∷◌, ⊤}

-- The lists are of one length, and this holds of each two items at one place, counted from a number
-- on.
abbrev pub Pairs : {X Y : Type 0} → (ℕ → X → Y → Type 0) → ℕ → List X → List Y → Type 0
Pairs P number [] [] = ⊤
Pairs P number [] (y ∷ ys) = ⊥
Pairs P number (x ∷ xs) [] = ⊥
Pairs P number (x ∷ xs) (y ∷ ys) = P number x y × Pairs P (number + 1) xs ys
