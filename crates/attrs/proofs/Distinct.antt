-- One more community behind different ones.
use Rattle.std.proofs.Common.{◌≡◌, ℕ, ◌++◌, ◌∷◌, List, [], true, false, ⊎_elim, ◌<◌, length, arith}
use Rattle.std.proofs.lemmas.Bool.{cases_Bool}
use Rattle.std.proofs.lemmas.List.{length_push}
use Rattle.std.specs.List.{AllByRecursion, IsDistinct}
use Rattle.attrs.specs.Clist.{same_pair, has_pair, IsClist}

others_push :
    (first pair : ℕ × ℕ) (rest : List (ℕ × ℕ)) → AllByRecursion (λ p. same_pair first p ≡ false) rest → same_pair first pair ≡ false → AllByRecursion (λ p. same_pair first p ≡ false) (rest ++ pair ∷ [])
others_push first pair [] others other = (other, tt)
others_push first pair (next ∷ rest) others other = (others.0, others_push first pair rest others.1 other)

-- a community that isn't there is put behind the others, and all are different
pub distinct_push : (pairs : List (ℕ × ℕ)) (pair : ℕ × ℕ) → IsDistinct same_pair pairs → has_pair pairs pair ≡ false → IsDistinct same_pair (pairs ++ pair ∷ [])
unfolding IsDistinct
distinct_push [] pair different new = (tt, tt)
distinct_push (first ∷ rest) pair different new =
    ⊎_elim
    (λ t. let no : true ≡ false = rw t at new in cc)
    (λ f. (others_push first pair rest different.0 f, distinct_push rest pair different.1 (rw f at new)))
    (cases_Bool (same_pair first pair))

pub IsClist_push :
    (pairs items : List (ℕ × ℕ)) (pair : ℕ × ℕ) → items ≡ pairs ++ pair ∷ [] → IsClist pairs → has_pair pairs pair ≡ false → length pairs < 64 → IsClist items
IsClist_push pairs items pair put is new room =
    rw put (record { short = omega (arith, length_push pairs pair); distinct = distinct_push pairs pair is.distinct new })
