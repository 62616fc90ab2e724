-- A list of turns of which none is by another hand: its last one is what its hand recorded last.
use Rattle.std.proofs.Common.{◌≡◌, ◌≢◌, ◌⊎◌, ℕ, suc, ◌+◌, ◌<◌, inl, inr, Bool, true, false, List, [], ◌∷◌, ◌++◌, length, map, cond, refl, sym, ap, subst, ◌∙◌, arith, lt_of_not-le}
use Rattle.std.specs.Prelude.{◌==◌, slice_index}
use Rattle.std.proofs.lemmas.List.{append_cancel_left, map-append}
use mathlib.Core.List.{IsPrefix}
use mathlib.Core.Logic.{dite}
use native.Mathlib.Decide.{dec_le}
use Rattle.core_machine.proofs.Contents.{eqb_no, eqb_yes}
use Rattle.jour_rule.specs.Journal.{receipts}
use Rattle.jour_rule.specs.Laws.{AreOfMakers}
use Rattle.jour_rule.specs.declared.views.Entry.{Entry}
use Rattle.phase_legal.specs.Turns.{place_of, turn_words, words_in}
use Rattle.room_run.specs.Inside.{AreOfOthers}

-- ---- no turn of a hand

not_cons : {A : Type 0} (x : A) (xs : List A) → x ∷ xs ≡ [] → ⊥
not_cons x xs e = let bad : suc (length xs) ≡ 0 = ap length e in omega (arith, bad)

none_first : (n k : ℕ) (e : Entry) (es : List Entry) → receipts n k (e ∷ es) ≡ [] → e.maker ≢ k
none_first n k e es none same =
    not_cons (suc n, e.words) (receipts (suc n) k es)
    (ap (λ (b : Bool). cond b ((suc n, e.words) ∷ receipts (suc n) k es) (receipts (suc n) k es)) (sym (eqb_yes e.maker k same)) ∙ none)

none_rest : (n k : ℕ) (e : Entry) (es : List Entry) → receipts n k (e ∷ es) ≡ [] → receipts (suc n) k es ≡ []
none_rest n k e es none =
    ap (λ (b : Bool). cond b ((suc n, e.words) ∷ receipts (suc n) k es) (receipts (suc n) k es)) (sym (eqb_no e.maker k (none_first n k e es none))) ∙ none

others_in : (n k : ℕ) (es : List Entry) → receipts n k es ≡ [] → AreOfOthers k es
others_in n k [] none = tt
others_in n k (e ∷ es) none = (none_first n k e es none, others_in (suc n) k es (none_rest n k e es none))

others_front : (k : ℕ) (xs ys : List Entry) → AreOfOthers k (xs ++ ys) → AreOfOthers k xs
others_front k [] ys are = tt
others_front k (x ∷ xs) ys are = (are.0, others_front k xs ys are.1)

-- where a hand has recorded none of what it has seen, none of a front of that is its own
pub others_before : (n k : ℕ) (xs ys : List Entry) → IsPrefix xs ys → receipts n k ys ≡ [] → AreOfOthers k xs
others_before n k xs ys p none = others_front k xs p.0 (subst (AreOfOthers k) (sym p.1) (others_in n k ys none))

below_or_same : (a b : ℕ) → a < b + 1 → (a < b) ⊎ (a ≡ b)
below_or_same a b below = dite (dec_le b a) (λ le. inr (omega (arith, below, le))) (λ not_le. inl (lt_of_not-le not_le))

-- none is by one more hand
pub others_more : (hands : ℕ) (es : List Entry) → ((hand : ℕ) → hand < hands → AreOfOthers hand es) → AreOfOthers hands es → (hand : ℕ) → hand < hands + 1 → AreOfOthers hand es
others_more hands es are last hand below = elim (below_or_same hand hands below) [ inl less ↦ are hand less | inr same ↦ subst (λ k. AreOfOthers k es) (sym same) last ]

-- ---- all turns of one hand

abbrev pub AreAlone : (hand : ℕ) → List Entry → Type 0
AreAlone hand es = AreOfMakers (hand + 1) es × ((other : ℕ) → other < hand → AreOfOthers other es)

alone_first : (hand : ℕ) (e : Entry) (es : List Entry) → AreAlone hand (e ∷ es) → e.maker ≡ hand
alone_first hand e es alone = elim (below_or_same e.maker hand alone.0.0) [ inl below ↦ absurd ((alone.1 e.maker below).0 refl) | inr same ↦ same ]

alone_rest : (hand : ℕ) (e : Entry) (es : List Entry) → AreAlone hand (e ∷ es) → AreAlone hand es
alone_rest hand e es alone = (alone.0.1, λ other below. (alone.1 other below).1)

abbrev words_of : Entry → List ℕ
words_of e = e.words

-- its hand's receipts are all of them
alone_words : (n hand : ℕ) (es : List Entry) → AreAlone hand es → words_in (receipts n hand es) ≡ map words_of es
alone_words n hand [] alone = refl
alone_words n hand (e ∷ es) alone =
    ap (λ (b : Bool). words_in (cond b ((suc n, e.words) ∷ receipts (suc n) hand es) (receipts (suc n) hand es))) (eqb_yes e.maker hand (alone_first hand e es alone))
    ∙ ap (λ (z : List (List ℕ)). e.words ∷ z) (alone_words (suc n) hand es (alone_rest hand e es alone))

alone_front : (hand : ℕ) (xs ys : List Entry) → AreAlone hand (xs ++ ys) → AreAlone hand xs
alone_front hand xs ys alone = (makers xs alone.0, λ other below. others_front other xs ys (alone.1 other below))
  where
    makers : (zs : List Entry) → AreOfMakers (hand + 1) (zs ++ ys) → AreOfMakers (hand + 1) zs
    makers [] are = tt
    makers (z ∷ zs) are = (are.0, makers zs are.1)

-- one entry of these words is left
one_left : (words : List ℕ) (es : List Entry) → map words_of es ≡ words ∷ [] → (e : Entry) × (es ≡ e ∷ []) × (e.words ≡ words)
one_left words [] same = absurd (not_cons words [] (sym same))
one_left words (e ∷ []) same = let is : e.words ∷ [] ≡ words ∷ [] = same in (e, refl, cc is)
one_left words (e ∷ f ∷ more) same = let bad : suc (suc (length (map words_of more))) ≡ 1 = ap length same in absurd (omega (arith, bad))

-- behind one more of its receipts there is one more turn, which has these words
pub turn_more : (n hand : ℕ) (before after : List Entry) (words : List ℕ) → AreAlone hand after → IsPrefix before after → words_in (receipts n hand after) ≡ words_in (receipts n hand before) ++ words ∷ []
    → (e : Entry) × (after ≡ before ++ e ∷ []) × (e.words ≡ words)
turn_more n hand before after words alone p said =
    let rest = p.0 in
    let alone_all = subst (AreAlone hand) (sym p.1) alone in
    let all : map words_of (before ++ rest) ≡ map words_of before ++ words ∷ [] =
    sym (alone_words n hand (before ++ rest) alone_all) ∙ ap (λ (z : List Entry). words_in (receipts n hand z)) p.1 ∙ said
    ∙ ap (λ (z : List (List ℕ)). z ++ words ∷ []) (alone_words n hand before (alone_front hand before rest alone_all)) in
    let left : map words_of rest ≡ words ∷ [] = append_cancel_left (map words_of before) (map words_of rest) (words ∷ []) (sym (map-append words_of before rest) ∙ all) in
    let one = one_left words rest left in
    (one.0, sym p.1 ∙ ap (λ (z : List Entry). before ++ z) one.1, one.2)

pub place_zero : (e : Entry) → e.words ≡ turn_words 0 → place_of e ≡ 0
place_zero e is = ap (λ w. slice_index w 1) is
