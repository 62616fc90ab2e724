-- The test of a path decides whether it can be cut.
use Rattle.std.proofs.Common.{◌≡◌, ℕ, ◌<◌, Bool, true, false, ◌&&◌, ◌||◌, ◌↔◌, ◌⊎◌, inl, inr, ⊎_elim, IsTrue, List, [], ◌∷◌, ◌++◌, length, All, refl, sym, ap, ◌∙◌, arith, append-nil}
use Rattle.std.specs.List.{concat}
use Rattle.std.proofs.lemmas.Bool.{and_parts, and_from, cases_Bool, cond-true, cond-false, leb-true, le-leb, or_cases, or_left, or_right}
use Rattle.std.proofs.lemmas.List.Elements.{All-cons, All-head, All-nil, All-tail}
use Rattle.filt_sets.specs.declared.mask.Atom.{Atom}
use Rattle.filt_sets.specs.declared.mask.Atom.TheVariants.{Range, One, Any}
use Rattle.filt_sets.specs.declared.mask.MaskItem.{MaskItem}
use Rattle.filt_sets.specs.Mask.{IsElement, AreElements, IsPieceOf, IsCut}
use Rattle.filt_sets.specs.Search.{accepts, before, cuts, is_empty, is_run}

pub elements_one : (atom : Atom) (piece : List ℕ) → IsElement atom piece → AreElements atom piece
elements_one atom piece is = record {
  elements = piece ∷ [];
  some = omega arith;
  each = All-cons (IsElement atom) piece [] is (All-nil (IsElement atom));
  joined = sym (append-nil piece);
}

pub elements_more : (atom : Atom) (first rest : List ℕ) → IsElement atom first → AreElements atom rest → AreElements atom (first ++ rest)
elements_more atom first rest is are = record {
  elements = first ∷ are.elements;
  some = omega arith;
  each = All-cons (IsElement atom) first are.elements is are.each;
  joined = ap (λ r. first ++ r) are.joined;
}

-- `*` takes each piece, and so does `*+`
run_piece : (atom : Atom) (many : Bool) (piece : List ℕ) → is_run atom ≡ true → IsPieceOf many atom piece
run_piece (Range lo hi) many piece e = absurd (cc)
run_piece One many piece e = absurd (cc)
run_piece Any false piece e = tt
run_piece Any true piece e = elements_one Any piece tt

-- an element that is no run is one AS
element_is : (atom : Atom) (piece : List ℕ) → is_run atom ≡ false → IsElement atom piece → (n : ℕ) × (piece ≡ n ∷ []) × (accepts atom n ≡ true)
element_is (Range lo hi) piece e (n, is, low, high) = (n, is, and_from _ _ (le-leb lo n low) (le-leb n hi high))
element_is One piece e (n, is) = (n, is, refl)
element_is Any piece e is = absurd (cc)

element_from : (atom : Atom) (n : ℕ) → is_run atom ≡ false → accepts atom n ≡ true → IsElement atom (n ∷ [])
element_from (Range lo hi) n e h = let both = and_parts _ _ h in (n, refl, leb-true lo n both.0, leb-true n hi both.1)
element_from One n e h = (n, refl)
element_from Any n e h = tt

-- elements that are no runs begin with one AS, and are done with it or go on
elements_first :
    (atom : Atom) (elements : List (List ℕ)) (piece : List ℕ) → is_run atom ≡ false → 0 < length elements → All (IsElement atom) elements → piece ≡ concat elements
    → (n : ℕ) × (rest : List ℕ) × (piece ≡ n ∷ rest) × (accepts atom n ≡ true) × ((rest ≡ []) ⊎ AreElements atom rest)
elements_first atom [] piece e some each joined = absurd (omega arith)
elements_first atom (first ∷ []) piece e some each joined =
    let (n, is, takes) = element_is atom first e (All-head (IsElement atom) first [] each) in
    (n, [], joined ∙ append-nil first ∙ is, takes, inl refl)
elements_first atom (first ∷ second ∷ others) piece e some each joined =
    let (n, is, takes) = element_is atom first e (All-head (IsElement atom) first (second ∷ others) each) in
    let rest = concat (second ∷ others) in
    (n, rest, joined ∙ ap (λ f. f ++ rest) is, takes, inr (record { elements = second ∷ others; some = omega arith; each = All-tail (IsElement atom) first (second ∷ others) each; joined = refl }))

piece_first :
    (atom : Atom) (many : Bool) (piece : List ℕ) → is_run atom ≡ false → IsPieceOf many atom piece
    → (n : ℕ) × (rest : List ℕ) × (piece ≡ n ∷ rest) × (accepts atom n ≡ true) × ((rest ≡ []) ⊎ ((many ≡ true) × IsPieceOf many atom rest))
piece_first atom false piece e is = let (n, same, takes) = element_is atom piece e is in (n, [], same, takes, inl refl)
piece_first atom true piece e is =
    let (n, rest, same, takes, more) = elements_first atom is.elements piece e is.some is.each is.joined in
    (n, rest, same, takes, ⊎_elim (λ d. inl d) (λ m. inr (refl, m)) more)

piece_one : (atom : Atom) (many : Bool) (n : ℕ) → is_run atom ≡ false → accepts atom n ≡ true → IsPieceOf many atom (n ∷ [])
piece_one atom false n e h = element_from atom n e h
piece_one atom true n e h = elements_one atom (n ∷ []) (element_from atom n e h)

piece_more : (atom : Atom) (many : Bool) (n : ℕ) (rest : List ℕ) → is_run atom ≡ false → accepts atom n ≡ true → many ≡ true → IsPieceOf many atom rest → IsPieceOf many atom (n ∷ rest)
piece_more atom false n rest e h m is = absurd (cc)
piece_more atom true n rest e h m is = elements_more atom (n ∷ []) rest (element_from atom n e h) is

-- the first piece and what the later items match
abbrev IsSplit : Atom → Bool → (List ℕ → Type 0) → List ℕ → Type 0
IsSplit atom many Later path = (piece rest : List ℕ) × (path ≡ piece ++ rest) × IsPieceOf many atom piece × Later rest

abbrev made : Atom → Bool → MaskItem
made atom many = record { atom = atom; many = many }

-- what the test of a longer path computes
before_run : (atom : Atom) (many : Bool) (later : List ℕ → Bool) (n : ℕ) (path : List ℕ) → is_run atom ≡ true
    → before (made atom many) later (n ∷ path) ≡ (later (n ∷ path) || before (made atom many) later path)
before_run atom many later n path e = cond-true (is_run atom) _ _ e

before_one : (atom : Atom) (many : Bool) (later : List ℕ → Bool) (n : ℕ) (path : List ℕ) → is_run atom ≡ false
    → before (made atom many) later (n ∷ path) ≡ (accepts atom n && (later path || (many && before (made atom many) later path)))
before_one atom many later n path e = cond-false (is_run atom) _ _ e

split_from :
    (atom : Atom) (many : Bool) (later : List ℕ → Bool) (Later : List ℕ → Type 0) → ((rest : List ℕ) → later rest ≡ true → Later rest)
    → (path : List ℕ) → before (made atom many) later path ≡ true → IsSplit atom many Later path
split_from atom many later Later sound [] h =
    let both = and_parts (is_run atom) (later []) h in
    ([], [], refl, run_piece atom many [] both.0, sound [] both.1)
split_from atom many later Later sound (n ∷ path) h =
    ⊎_elim
    (λ run.
    ⊎_elim
    (λ here. ([], n ∷ path, refl, run_piece atom many [] run, sound (n ∷ path) here))
    (λ again. let (piece, rest, same, is, ends) = split_from atom many later Later sound path again in (n ∷ piece, rest, ap (λ p. n ∷ p) same, run_piece atom many (n ∷ piece) run, ends))
    (or_cases _ _ (sym (before_run atom many later n path run) ∙ h)))
    (λ one.
    let both = and_parts (accepts atom n) _ (sym (before_one atom many later n path one) ∙ h) in
    ⊎_elim
    (λ behind. (n ∷ [], path, refl, piece_one atom many n one both.0, sound path behind))
    (λ more.
    let parts = and_parts many _ more in
    let (piece, rest, same, is, ends) = split_from atom many later Later sound path parts.1 in
    (n ∷ piece, rest, ap (λ p. n ∷ p) same, piece_more atom many n piece one both.0 parts.0 is, ends))
    (or_cases _ _ both.1))
    (cases_Bool (is_run atom))

-- a path that is split at each place of a run
run_test :
    (atom : Atom) (many : Bool) (later : List ℕ → Bool) → is_run atom ≡ true
    → (piece rest : List ℕ) → later rest ≡ true → before (made atom many) later (piece ++ rest) ≡ true
run_test atom many later run [] [] h = and_from (is_run atom) (later []) run h
run_test atom many later run [] (n ∷ rest) h = before_run atom many later n rest run ∙ or_left _ _ h
run_test atom many later run (n ∷ piece) rest h = before_run atom many later n (piece ++ rest) run ∙ or_right _ _ (run_test atom many later run piece rest h)

one_test :
    (atom : Atom) (many : Bool) (later : List ℕ → Bool) → is_run atom ≡ false
    → (path piece rest : List ℕ) → path ≡ piece ++ rest → IsPieceOf many atom piece → later rest ≡ true → before (made atom many) later path ≡ true
one_test atom many later one [] piece rest same is h =
    let (n, more, at, takes, goes) = piece_first atom many piece one is in
    let wrong : [] ≡ n ∷ more ++ rest = same ∙ ap (λ p. p ++ rest) at in absurd (cc)
one_test atom many later one (m ∷ path) piece rest same is h =
    let (n, more, at, takes, goes) = piece_first atom many piece one is in
    let whole : m ∷ path ≡ n ∷ (more ++ rest) = same ∙ ap (λ p. p ++ rest) at in
    let first : m ≡ n = cc in
    let left : path ≡ more ++ rest = cc in
    before_one atom many later m path one
    ∙ and_from (accepts atom m) _ (ap (accepts atom) first ∙ takes)
    (⊎_elim
    (λ done. or_left _ _ (ap later (left ∙ ap (λ p. p ++ rest) done) ∙ h))
    (λ go. or_right _ _ (and_from many _ go.0 (one_test atom many later one path more rest left go.1 h)))
    goes)

test_from :
    (atom : Atom) (many : Bool) (later : List ℕ → Bool) (Later : List ℕ → Type 0) → ((rest : List ℕ) → Later rest → later rest ≡ true)
    → (path : List ℕ) → IsSplit atom many Later path → before (made atom many) later path ≡ true
test_from atom many later Later complete path (piece, rest, same, is, ends) =
    ⊎_elim
    (λ run. ap (before (made atom many) later) same ∙ run_test atom many later run piece rest (complete rest ends))
    (λ one. one_test atom many later one path piece rest same is (complete rest ends))
    (cases_Bool (is_run atom))

cut_from : (items : List MaskItem) (path : List ℕ) → cuts items path ≡ true → IsCut items path
cut_from [] [] h = refl
cut_from [] (n ∷ path) h = absurd (cc)
cut_from (item ∷ items) path h = split_from item.atom item.many (cuts items) (IsCut items) (cut_from items) path h

cut_test : (items : List MaskItem) (path : List ℕ) → IsCut items path → cuts items path ≡ true
cut_test [] path h = ap is_empty h
cut_test (item ∷ items) path h = test_from item.atom item.many (cuts items) (IsCut items) (cut_test items) path h

pub cuts_decide : (items held : List MaskItem) (path : List ℕ) (answer : Bool) → answer ≡ cuts held path → held ≡ items → IsTrue answer ↔ IsCut items path
cuts_decide items held path answer is same =
    let e : answer ≡ cuts items path = is ∙ ap (λ l. cuts l path) same in
    (λ t. cut_from items path (sym e ∙ t), λ cut. e ∙ cut_test items path cut)
