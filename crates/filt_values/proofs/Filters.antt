-- A part of a short list without repetitions is one.
use Rattle.std.proofs.Common.{◌≡◌, ℕ, ◌≤◌, Bool, false, List, [], ◌∷◌, length, arith, ap, ◌∙◌, ⊎_elim}
use Rattle.std.specs.List.{AllByRecursion, IsDistinct, filter}
use Rattle.std.proofs.lemmas.Bool.{cases_Bool}
use Rattle.attrs.specs.Clist.{same_pair, IsClist}

pub shorter : {X : Type 0} (test : X → Bool) (xs : List X) → length (filter test xs) ≤ length xs
shorter test [] = omega arith
shorter test (x ∷ xs) =
    let rest = shorter test xs in
    ⊎_elim (λ t. rw t (omega arith)) (λ f. rw f (omega arith)) (cases_Bool (test x))

others_left :
    (test : ℕ × ℕ → Bool) (first : ℕ × ℕ) (rest : List (ℕ × ℕ)) → AllByRecursion (λ p. same_pair first p ≡ false) rest
    → AllByRecursion (λ p. same_pair first p ≡ false) (filter test rest)
others_left test first [] others = tt
others_left test first (next ∷ rest) others =
    let left = others_left test first rest others.1 in
    ⊎_elim (λ t. rw t (others.0, left)) (λ f. rw f left) (cases_Bool (test next))

distinct_left : (test : ℕ × ℕ → Bool) (pairs : List (ℕ × ℕ)) → IsDistinct same_pair pairs → IsDistinct same_pair (filter test pairs)
unfolding IsDistinct
distinct_left test [] different = tt
distinct_left test (first ∷ rest) different =
    let left = distinct_left test rest different.1 in
    ⊎_elim (λ t. rw t (others_left test first rest different.0, left)) (λ f. rw f left) (cases_Bool (test first))

pub short_left : (test : ℕ → Bool) (path left : List ℕ) → left ≡ filter test path → length path ≤ 120 → length left ≤ 120
short_left test path left is short = rw is (omega (arith, shorter test path))

pub clist_left : (test : ℕ × ℕ → Bool) (pairs left : List (ℕ × ℕ)) → left ≡ filter test pairs → IsClist pairs → IsClist left
clist_left test pairs left is clist = rw is (record { short = omega (arith, shorter test pairs, clist.short); distinct = distinct_left test pairs clist.distinct })

pub kept_is : {X : Type 0} (test : X → Bool) (result items old held : List X) → result ≡ items → items ≡ filter test old → old ≡ held → result ≡ filter test held
kept_is test result items old held a b e = a ∙ b ∙ ap (λ xs. filter test xs) e
