-- The one item of a list that it is taken from.
use Rattle.std.proofs.Common.{◌≡◌, arith, length-append, List, [], ◌∷◌, ◌++◌, length, Some, ap}
use Rattle.std.specs.Prelude.{slice_get}

pub only_one : {A : Type 0} (old rest : List A) (x : A) → old ≡ rest ++ x ∷ [] → length old ≡ 1 → slice_get old 0 ≡ Some x
only_one old [] x e one = ap (λ l. slice_get l 0) e
only_one old (y ∷ rest) x e one = absurd (let long = ap length e in let both = length-append rest (x ∷ []) in omega (arith, one, long, both))
