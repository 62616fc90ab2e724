-- A set has the same elements, in whatever order its items stand.
use Rattle.std.proofs.Common.{◌↔◌, List}
use Rattle.std.specs.Prelude.{Any}
use Rattle.std.specs.List.Sorted.{IsPermutation}
use Rattle.std.proofs.lemmas.List.Sorted.{Contains-permutation, IsPermutation-sym}

any_moved : {X : Type 0} (P : X → Type 0) (xs ys : List X) → IsPermutation xs ys → Any P xs → Any P ys
any_moved P xs ys moved any =
    let (k, x, within, is, holds) = any in
    let (j, inside, there) = Contains-permutation xs ys x moved (k, within, is) in
    (j, x, inside, there, holds)

pub any_given : {X : Type 0} (P : X → Type 0) (given items : List X) {A : Type 0} → IsPermutation given items → A ↔ Any P items → A ↔ Any P given
any_given P given items moved found =
    (λ a. any_moved P items given (IsPermutation-sym given items moved) (found.0 a), λ any. found.1 (any_moved P given items moved any))
