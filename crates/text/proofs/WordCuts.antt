-- The first word of a line.
use Rattle.std.proofs.Common.{◌≡◌, ℕ, Bool, true, false, ◌||◌, cond, List, [], ◌∷◌, ◌++◌, length, ◌<◌, ◌≤◌, length-drop, refl, sym, ◌∙◌, ap, arith}
use Rattle.std.specs.List.{list_all, take_while, prefix_len}
use Rattle.std.proofs.lemmas.Bool.{and_parts, not-true, not_from_false}
use Rattle.text.specs.Cut.{first_passes}
use Rattle.text.specs.Lines.{words_of, behind_word, begins_word, is_blank, onto}
use Rattle.text.specs.Cut.{is_word_byte, behind}
use Rattle.text.proofs.Runs.{run_whole, run_passes, run_stops, run_yes, behind_yes}

pub words_behind_blanks : (gap rest : List ℕ) → list_all is_blank gap ≡ true → words_of (gap ++ rest) ≡ words_of rest
words_behind_blanks [] rest all = refl
words_behind_blanks (b ∷ gap) rest all =
    let parts = and_parts (is_blank b) (list_all is_blank gap) all in
    ap (λ (t : Bool). cond t (words_of (gap ++ rest)) (cond (begins_word (gap ++ rest)) (onto b (words_of (gap ++ rest))) ((b ∷ []) ∷ words_of (gap ++ rest)))) parts.0
    ∙ words_behind_blanks gap rest parts.1

same_test : (bytes : List ℕ) → begins_word bytes ≡ first_passes is_word_byte bytes
same_test [] = refl
same_test (b ∷ bytes) = refl

words_at : (b : ℕ) (bytes : List ℕ) → is_word_byte b ≡ true → words_of (b ∷ bytes) ≡ cond (begins_word bytes) (onto b (words_of bytes)) ((b ∷ []) ∷ words_of bytes)
words_at b bytes part = ap (λ (t : Bool). cond t (words_of bytes) (cond (begins_word bytes) (onto b (words_of bytes)) ((b ∷ []) ∷ words_of bytes))) (not-true (is_blank b) part)

pub word_first : (b : ℕ) (word rest : List ℕ) → list_all is_word_byte (b ∷ word) ≡ true → first_passes is_word_byte rest ≡ false
    → words_of (b ∷ word ++ rest) ≡ (b ∷ word) ∷ words_of rest
word_first b [] rest all stops =
    words_at b rest (and_parts (is_word_byte b) true all).0
    ∙ ap (λ (t : Bool). cond t (onto b (words_of rest)) ((b ∷ []) ∷ words_of rest)) (same_test rest ∙ stops)
word_first b (c ∷ word) rest all stops =
    let parts = and_parts (is_word_byte b) (list_all is_word_byte (c ∷ word)) all in
    let next = and_parts (is_word_byte c) (list_all is_word_byte word) parts.1 in
    words_at b (c ∷ word ++ rest) parts.0
    ∙ ap (λ (t : Bool). cond t (onto b (words_of (c ∷ word ++ rest))) ((b ∷ []) ∷ words_of (c ∷ word ++ rest))) next.0
    ∙ ap (onto b) (word_first c word rest parts.1 stops)

pub words_cut_none : (rest text : List ℕ) → text ≡ behind is_blank rest → text ≡ [] → words_of rest ≡ []
words_cut_none rest text text_is none =
    ap words_of (run_whole is_blank rest) ∙ words_behind_blanks (take_while is_blank rest) (behind is_blank rest) (run_passes is_blank rest) ∙ ap words_of (sym text_is ∙ none)

word_at_front : (text : List ℕ) → first_passes is_blank text ≡ false → (text ≡ [] → ⊥) → words_of text ≡ take_while is_word_byte text ∷ words_of (behind is_word_byte text)
word_at_front [] no_blank filled = absurd (filled refl)
word_at_front (b ∷ bytes) no_blank filled =
    let part : is_word_byte b ≡ true = not_from_false (is_blank b) no_blank in
    let word : take_while is_word_byte (b ∷ bytes) ≡ b ∷ take_while is_word_byte bytes = run_yes is_word_byte b bytes part in
    let after = behind is_word_byte (b ∷ bytes) in
    let whole : b ∷ bytes ≡ b ∷ take_while is_word_byte bytes ++ after = run_whole is_word_byte (b ∷ bytes) ∙ ap (λ (l : List ℕ). l ++ after) word in
    let all : list_all is_word_byte (b ∷ take_while is_word_byte bytes) ≡ true = ap (list_all is_word_byte) (sym word) ∙ run_passes is_word_byte (b ∷ bytes) in
    ap words_of whole ∙ word_first b (take_while is_word_byte bytes) after all (run_stops is_word_byte (b ∷ bytes)) ∙ ap (λ (l : List ℕ). l ∷ words_of after) (sym word)

pub words_cut : (rest text word after : List ℕ) → text ≡ behind is_blank rest → (text ≡ [] → ⊥) → word ≡ take_while is_word_byte text → after ≡ behind is_word_byte text
    → words_of rest ≡ word ∷ words_of after
words_cut rest text word after text_is filled word_is after_is =
    let no_blank : first_passes is_blank text ≡ false = ap (first_passes is_blank) text_is ∙ run_stops is_blank rest in
    ap words_of (run_whole is_blank rest) ∙ words_behind_blanks (take_while is_blank rest) (behind is_blank rest) (run_passes is_blank rest) ∙ ap words_of (sym text_is)
    ∙ word_at_front text no_blank filled
    ∙ ap (λ (l : List ℕ). l ∷ words_of (behind is_word_byte text)) (sym word_is)
    ∙ ap (λ (l : List ℕ). word ∷ words_of l) (sym after_is)

shorter_at_front : (text : List ℕ) → first_passes is_blank text ≡ false → (text ≡ [] → ⊥) → length (behind is_word_byte text) < length text
shorter_at_front [] no_blank filled = absurd (filled refl)
shorter_at_front (b ∷ bytes) no_blank filled =
    let part : is_word_byte b ≡ true = not_from_false (is_blank b) no_blank in
    let same : behind is_word_byte (b ∷ bytes) ≡ behind is_word_byte bytes = behind_yes is_word_byte b bytes part in
    let less : length (behind is_word_byte bytes) ≤ length bytes = omega (arith, length-drop (prefix_len is_word_byte bytes) bytes) in
    omega (arith, ap length same)

pub words_cut_shorter : (rest text after : List ℕ) → text ≡ behind is_blank rest → (text ≡ [] → ⊥) → after ≡ behind is_word_byte text → length after < length rest
words_cut_shorter rest text after text_is filled after_is =
    let no_blank : first_passes is_blank text ≡ false = ap (first_passes is_blank) text_is ∙ run_stops is_blank rest in
    omega (arith, shorter_at_front text no_blank filled, ap length after_is, ap length text_is, length-drop (prefix_len is_blank rest) rest)

behind_blanks : (gap rest : List ℕ) → list_all is_blank gap ≡ true → behind_word (gap ++ rest) ≡ behind_word rest
behind_blanks [] rest all = refl
behind_blanks (b ∷ gap) rest all =
    let parts = and_parts (is_blank b) (list_all is_blank gap) all in
    ap (λ (t : Bool). cond (t || begins_word (gap ++ rest)) (behind_word (gap ++ rest)) (gap ++ rest)) parts.0 ∙ behind_blanks gap rest parts.1

behind_at : (b : ℕ) (bytes : List ℕ) → is_word_byte b ≡ true → behind_word (b ∷ bytes) ≡ cond (begins_word bytes) (behind_word bytes) bytes
behind_at b bytes part = ap (λ (t : Bool). cond (t || begins_word bytes) (behind_word bytes) bytes) (not-true (is_blank b) part)

behind_first : (b : ℕ) (word rest : List ℕ) → list_all is_word_byte (b ∷ word) ≡ true → first_passes is_word_byte rest ≡ false → behind_word (b ∷ word ++ rest) ≡ rest
behind_first b [] rest all stops =
    behind_at b rest (and_parts (is_word_byte b) true all).0 ∙ ap (λ (t : Bool). cond t (behind_word rest) rest) (same_test rest ∙ stops)
behind_first b (c ∷ word) rest all stops =
    let parts = and_parts (is_word_byte b) (list_all is_word_byte (c ∷ word)) all in
    let next = and_parts (is_word_byte c) (list_all is_word_byte word) parts.1 in
    behind_at b (c ∷ word ++ rest) parts.0
    ∙ ap (λ (t : Bool). cond t (behind_word (c ∷ word ++ rest)) (c ∷ word ++ rest)) next.0
    ∙ behind_first c word rest parts.1 stops

behind_at_front : (text : List ℕ) → first_passes is_blank text ≡ false → (text ≡ [] → ⊥) → behind_word text ≡ behind is_word_byte text
behind_at_front [] no_blank filled = absurd (filled refl)
behind_at_front (b ∷ bytes) no_blank filled =
    let part : is_word_byte b ≡ true = not_from_false (is_blank b) no_blank in
    let word : take_while is_word_byte (b ∷ bytes) ≡ b ∷ take_while is_word_byte bytes = run_yes is_word_byte b bytes part in
    let after = behind is_word_byte (b ∷ bytes) in
    let whole : b ∷ bytes ≡ b ∷ take_while is_word_byte bytes ++ after = run_whole is_word_byte (b ∷ bytes) ∙ ap (λ (l : List ℕ). l ++ after) word in
    let all : list_all is_word_byte (b ∷ take_while is_word_byte bytes) ≡ true = ap (list_all is_word_byte) (sym word) ∙ run_passes is_word_byte (b ∷ bytes) in
    ap behind_word whole ∙ behind_first b (take_while is_word_byte bytes) after all (run_stops is_word_byte (b ∷ bytes))

pub behind_cut : (rest text after : List ℕ) → text ≡ behind is_blank rest → (text ≡ [] → ⊥) → after ≡ behind is_word_byte text → after ≡ behind_word rest
behind_cut rest text after text_is filled after_is =
    let no_blank : first_passes is_blank text ≡ false = ap (first_passes is_blank) text_is ∙ run_stops is_blank rest in
    after_is ∙ sym (behind_at_front text no_blank filled) ∙ ap behind_word text_is
    ∙ sym (ap behind_word (run_whole is_blank rest) ∙ behind_blanks (take_while is_blank rest) (behind is_blank rest) (run_passes is_blank rest))
