-- What has reached a sink, a block at a time.
use Rattle.std.proofs.Common.{◌≡◌, ℕ, ◌+◌, ◌≤◌, List, ◌++◌, length, take, drop, Option, true, false, sym, ◌∙◌, ap, subst, arith, append_assoc, take-append-drop}
use Rattle.std.specs.Prelude.{OnOk, OnErr, Result, Ok, Err, is_err}
use Rattle.std.specs.Io.KnownBytes.{Appends}
use Rattle.std.proofs.Math.Seq.{take-append-add, take-append_seam}
use Rattle.outside_io.specs.Faults.{Rose}
use Rattle.outside_io.specs.Reached.{Reached}
use Rattle.outside_io.specs.Whole.{WritesFront}
use Rattle.outside_io.proofs.Blocks.{appends_more}

rose_since : (before between now : ℕ) → before ≤ between → Rose between now → Rose before now
rose_since before between now later rose = grind (arith, later, rose)

-- a front of a text is a front of a longer one
front_stays : (a b : Option (List ℕ)) (xs ys : List ℕ) → WritesFront a b xs → WritesFront a b (xs ++ ys)
front_stays a b xs ys front =
    let n = length (take front.0 xs) in
    let same : take n (xs ++ ys) ≡ take front.0 xs =
    ap (λ (l : List ℕ). take n (l ++ ys)) (sym (take-append-drop front.0 xs))
    ∙ ap (λ (l : List ℕ). take n l) (append_assoc (take front.0 xs) (drop front.0 xs) ys)
    ∙ take-append_seam (take front.0 xs) (drop front.0 xs ++ ys) in
    (n, subst (λ (l : List ℕ). Appends a b l) (sym same) front.1)

-- behind a whole text a front of the next
front_more : (a b c : Option (List ℕ)) (xs ys : List ℕ) → Appends a b xs → WritesFront b c ys → WritesFront a c (xs ++ ys)
front_more a b c xs ys whole front =
    (length xs + front.0, subst (λ (l : List ℕ). Appends a c l) (sym (take-append-add xs ys front.0)) (appends_more a b c xs (take front.0 ys) whole front.1))

-- a block is written to a sink that hasn't failed
pub sent : {T E : Type 0} (result : Result T E) (first old new : Option (List ℕ)) (before held now : ℕ) (gone block : List ℕ)
    → OnOk result (Appends old new block) → OnErr result (WritesFront old new block) → OnErr result (Rose held now)
    → before ≤ held → Reached first old before held false gone → Reached first new before now (is_err result) (gone ++ block)
sent (Ok u) first old new before held now gone block whole front cause later reached = appends_more first old new gone block reached whole
sent (Err e) first old new before held now gone block whole front cause later reached = (front_more first old new gone block reached front, rose_since before held now later cause)

-- none is written to one that has
pub kept_back : (first old : Option (List ℕ)) (before held : ℕ) (gone block : List ℕ) → Reached first old before held true gone → Reached first old before held true (gone ++ block)
kept_back first old before held gone block reached = (front_stays first old gone block reached.0, reached.1)
