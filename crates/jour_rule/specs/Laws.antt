-- The law of a journal that is no table's. Not modelled: what the words of its entries say.
-- From: own.
use Rattle.std.specs.Prelude.{ℕ, ◌<◌, List, [], ◌∷◌, ◌++◌}
use Rattle.jour_rule.specs.declared.views.Entry.{Entry}

-- the maker of each entry has a number below this one
abbrev pub AreOfMakers : ℕ → List Entry → Type 0
AreOfMakers makers [] = Unit {0}
AreOfMakers makers (e ∷ es) = (e.maker < makers) × AreOfMakers makers es

-- it holds of each front
pub are_of_makers_in_front : (makers : ℕ) (xs ys : List Entry) →
    AreOfMakers makers (xs ++ ys) → AreOfMakers makers xs
are_of_makers_in_front makers [] ys h = tt
are_of_makers_in_front makers (x ∷ xs) ys h = (h.0, are_of_makers_in_front makers xs ys h.1)
