-- The law of a journal that is no table's.
use Rattle.std.proofs.Common.{ℕ, ◌<◌, List, [], ◌∷◌, ◌++◌}
use Rattle.jour_rule.specs.declared.views.Entry.{Entry}
use Rattle.jour_rule.specs.Laws.{AreOfMakers}

-- it holds with one entry more that is of one of the makers
pub are_of_makers_with : (makers : ℕ) (xs : List Entry) (e : Entry) → AreOfMakers makers xs → e.maker < makers → AreOfMakers makers (xs ++ e ∷ [])
are_of_makers_with makers [] e h below = (below, tt)
are_of_makers_with makers (x ∷ xs) e h below = (h.0, are_of_makers_with makers xs e h.1 below)
