-- The words of a list of tokens, one after another.
use Rattle.std.proofs.Common.{◌≡◌, ℕ, suc, zero, ◌+◌, ◌-◌, ◌≤◌, Bool, true, false, cond, ◌&&◌, List, [], ◌∷◌, ◌++◌, length, map, drop, Option, Some, None, refl, sym, ◌∙◌, ap, subst, arith, append_assoc}
use Rattle.std.proofs.lemmas.List.{length-drop, drop-drop}
use Rattle.conf_scan.specs.declared.token.Token.{Token}
use Rattle.conf_lex.specs.declared.word.Word.{Word}
use Rattle.conf_lex.specs.Symbols.{is_else, is_colon, is_slash}
use Rattle.conf_lex.specs.Words.{token_symbol, word_of, or_alone, slashed, first_word, words_from}

-- of how many tokens a word is made

abbrev IsSize : ℕ → ℕ → Type 0
IsSize most n = (1 ≤ n) × (n ≤ most)

size_if : (most : ℕ) (b : Bool) (x y : Word × ℕ) → IsSize most x.1 → IsSize most y.1 → IsSize most (cond b x y).1
size_if most true x y one other = one
size_if most false x y one other = other

size_or : (most : ℕ) (o : Option Word) (alone : Word) → 3 ≤ most → IsSize most (or_alone o alone).1
size_or most None alone three = (omega arith, omega (arith, three))
size_or most (Some folded) alone three = (omega arith, three)

pub first_size : (text : List ℕ) (t : Token) (ts : List Token) → (1 ≤ (first_word text t ts).1) × ((first_word text t ts).1 ≤ 1 + length ts)
first_size text t [] = (omega arith, omega arith)
first_size text t (u ∷ []) = size_if (1 + length (u ∷ [])) (is_else (token_symbol text t) && is_colon (token_symbol text u)) _ _ (omega arith, omega arith) (omega arith, omega arith)
first_size text t (u ∷ v ∷ ts) =
    size_if (1 + length (u ∷ v ∷ ts)) (is_else (token_symbol text t) && is_colon (token_symbol text u)) _ _ (omega arith, omega arith)
    (size_or (1 + length (u ∷ v ∷ ts)) (slashed t.at t.kind (is_slash (token_symbol text u)) v.kind) (word_of text t) (omega arith))

-- tokens that belong to the word before are passed over
pub words_behind : (text : List ℕ) (i k : ℕ) (ts : List Token) → words_from text i k ts ≡ words_from text (i + k) 0 (drop k ts)
words_behind text i zero [] = refl
words_behind text i (suc k) [] = refl
words_behind text i zero (t ∷ ts) = let same : i ≡ i + zero = omega arith in ap (λ (n : ℕ). words_from text n 0 (t ∷ ts)) same
words_behind text i (suc k) (t ∷ ts) = let same : i + 1 + k ≡ i + suc k = omega arith in words_behind text (i + 1) k ts ∙ ap (λ (n : ℕ). words_from text n 0 (drop k ts)) same

pub drop_one : (n : ℕ) (t : Token) (ts : List Token) → 1 ≤ n → drop (n - 1) ts ≡ drop n (t ∷ ts)
drop_one n t ts some = let next : n ≡ suc (n - 1) = omega arith in sym (ap (λ (m : ℕ). drop m (t ∷ ts)) next)

-- one word more
pub next_words : (text : List ℕ) (tokens : List Token) (at : ℕ) (t : Token) (behind : List Token) (word : Word × ℕ) → drop at tokens ≡ t ∷ behind → word ≡ first_word text t behind
    → words_from text at 0 (drop at tokens) ≡ (at, word.0) ∷ words_from text (at + word.1) 0 (drop (at + word.1) tokens)
next_words text tokens at t behind word cut is =
    let n = (first_word text t behind).1 in
    let size = first_size text t behind in
    let place : at + 1 + ((first_word text t behind).1 - 1) ≡ at + (first_word text t behind).1 = omega (arith, size.0) in
    let ahead : drop ((first_word text t behind).1 - 1) behind ≡ drop (at + (first_word text t behind).1) tokens =
    drop_one (first_word text t behind).1 t behind size.0 ∙ ap (λ (l : List Token). drop (first_word text t behind).1 l) (sym cut) ∙ drop-drop (first_word text t behind).1 at tokens in
    let P : Word × ℕ → Type 0 = λ w. words_from text at 0 (drop at tokens) ≡ (at, w.0) ∷ words_from text (at + w.1) 0 (drop (at + w.1) tokens) in
    subst P (sym is) (ap (λ (l : List Token). words_from text at 0 l) cut
    ∙ ap (λ (ws : List (ℕ × Word)). (at, (first_word text t behind).0) ∷ ws)
    (words_behind text (at + 1) ((first_word text t behind).1 - 1) behind ∙ ap (λ (m : ℕ). words_from text m 0 (drop ((first_word text t behind).1 - 1) behind)) place
    ∙ ap (λ (l : List Token). words_from text (at + (first_word text t behind).1) 0 l) ahead))

-- what the loop keeps, for either part of a word and its place
pub words_more : {A : Type 0} (part : ℕ × Word → A) (all pairs : List (ℕ × Word)) (next : ℕ × Word) (rest : List (ℕ × Word)) (found : List A) → pairs ≡ next ∷ rest
    → map part all ≡ found ++ map part pairs
    → map part all ≡ (found ++ part next ∷ []) ++ map part rest
words_more {A} part all pairs next rest found cut before =
    before ∙ ap (λ (ws : List (ℕ × Word)). found ++ map part ws) cut ∙ sym (append_assoc found (part next ∷ []) (map part rest))

pub words_reach : (text : List ℕ) (tokens : List Token) (at : ℕ) (t : Token) (behind : List Token) (word : Word × ℕ) → at ≤ length tokens → drop at tokens ≡ t ∷ behind → word ≡ first_word text t behind → (1 ≤ word.1) × (at + word.1 ≤ length tokens)
words_reach text tokens at t behind word within cut is =
    let size = first_size text t behind in
    let n : word.1 ≡ (first_word text t behind).1 = ap (λ (w : Word × ℕ). w.1) is in
    (omega (arith, size.0, n), omega (arith, size.1, n, ap (λ (l : List Token). length l) cut, length-drop at tokens, within))
