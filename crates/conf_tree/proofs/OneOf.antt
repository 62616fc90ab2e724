-- A walk over several words finds what their list says.
use Rattle.std.proofs.Common.{◌≡◌, ℕ, suc, ◌+◌, ◌<◌, ◌≤◌, Bool, true, false, ◌||◌, List, ◌∷◌, length, drop, map, get_or, nat_eq, sym, ◌∙◌, ap, arith, drop-cons, Bor}
use Rattle.std.specs.Cmp.Lexicographic.{pointwise}
use Rattle.std.proofs.lemmas.List.{drop_all}
use Rattle.conf_tree.specs.Sentence.{is_one_of}

abbrev pub texts : List (Bor (List ℕ)) → List (List ℕ)
texts several = map (λ other. other.now) several

cut : (several : List (Bor (List ℕ))) (i : ℕ) (d : Bor (List ℕ)) → i < length several → texts (drop i several) ≡ (get_or several i d).now ∷ texts (drop (i + 1) several)
cut several i d within =
    let next : suc i ≡ i + 1 = omega arith in
    ap texts (drop-cons several i d within ∙ ap (λ (n : ℕ). get_or several i d ∷ drop n several) next)

pub one_here : (several : List (Bor (List ℕ))) (i : ℕ) (d : Bor (List ℕ)) (word : List ℕ) → i < length several → true ≡ pointwise nat_eq (get_or several i d).now word
    → is_one_of (texts several) word ≡ is_one_of (texts (drop i several)) word → true ≡ is_one_of (texts several) word
one_here several i d word within same before =
    sym (before ∙ ap (λ (l : List (List ℕ)). is_one_of l word) (cut several i d within) ∙ ap (λ (t : Bool). t || is_one_of (texts (drop (i + 1) several)) word) (sym same))

pub one_next : (several : List (Bor (List ℕ))) (i : ℕ) (d : Bor (List ℕ)) (word : List ℕ) → i < length several → false ≡ pointwise nat_eq (get_or several i d).now word
    → is_one_of (texts several) word ≡ is_one_of (texts (drop i several)) word → is_one_of (texts several) word ≡ is_one_of (texts (drop (i + 1) several)) word
one_next several i d word within other before =
    before ∙ ap (λ (l : List (List ℕ)). is_one_of l word) (cut several i d within) ∙ ap (λ (t : Bool). t || is_one_of (texts (drop (i + 1) several)) word) (sym other)

pub one_none : (several : List (Bor (List ℕ))) (i : ℕ) (word : List ℕ) → length several ≤ i → is_one_of (texts several) word ≡ is_one_of (texts (drop i several)) word → false ≡ is_one_of (texts several) word
one_none several i word done before = sym (before ∙ ap (λ (l : List (Bor (List ℕ))). is_one_of (texts l) word) (drop_all i several done))
