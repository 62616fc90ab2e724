-- An entry of a maker of the journal's.
use Rattle.std.proofs.Common.{ℕ, ◌<◌, List, [], ◌∷◌, ◌++◌}
use Rattle.jour_rule.specs.Laws.{AreOfMakers}
use Rattle.jour_rule.specs.declared.views.Entry.{Entry}

pub of_makers_more : (makers : ℕ) (es : List Entry) (e : Entry) → AreOfMakers makers es → e.maker < makers → AreOfMakers makers (es ++ e ∷ [])
of_makers_more makers [] e are few = (few, tt)
of_makers_more makers (x ∷ es) e are few = (are.0, of_makers_more makers es e are.1 few)
