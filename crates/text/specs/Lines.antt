-- The lines of a text (`lines_of`), the words of a line (`words_of`), and what stands behind the
-- first of them, byte for byte (`behind_word`, `behind_words`). A newline ends a line, a return
-- directly before it is dropped; spaces and tabs separate words. Texts are lists of bytes, all of
-- them, with the marks of ASCII.
-- Not modelled: any encoding, and characters.
-- From: own, this program's formats of scripts and reports.
-- Example: `a\r\nb` has two lines; ` a\tb ` has two words, behind the first stands `\tb `.
use Rattle.std.specs.Prelude.{ℕ, zero, suc, Bool, false, ◌&&◌, ◌||◌, not, ◌==◌, if◌then◌else◌, List, [], ◌∷◌}

-- a byte more at the front of the first of these pieces
abbrev pub onto : ℕ → List (List ℕ) → List (List ℕ)
onto byte [] = (byte ∷ []) ∷ []
onto byte (piece ∷ pieces) = (byte ∷ piece) ∷ pieces

abbrev pub begins_with : ℕ → List ℕ → Bool
begins_with byte [] = false
begins_with byte (b ∷ bytes) = b == byte

-- A newline ends a line; the last line may do without. A return directly before a newline is
-- dropped.
abbrev pub lines_of : List ℕ → List (List ℕ)
lines_of [] = []
lines_of (b ∷ bytes) =
    if b == 10 then [] ∷ lines_of bytes
    else if b == 13 && begins_with 10 bytes then lines_of bytes
    else onto b (lines_of bytes)

-- Spaces and tabs separate words.
abbrev pub is_blank : ℕ → Bool
is_blank b = (b == 32) || (b == 9)

abbrev pub begins_word : List ℕ → Bool
begins_word [] = false
begins_word (b ∷ bytes) = not (is_blank b)

-- the longest runs of bytes that aren't blank
abbrev pub words_of : List ℕ → List (List ℕ)
words_of [] = []
words_of (b ∷ bytes) =
    if is_blank b then words_of bytes
    else if begins_word bytes then onto b (words_of bytes)
    else (b ∷ []) ∷ words_of bytes

-- what stands behind the first word, with the blanks there, and nothing where there is no word
abbrev pub behind_word : List ℕ → List ℕ
behind_word [] = []
behind_word (b ∷ bytes) =
    if is_blank b || begins_word bytes then behind_word bytes
    else bytes

-- what stands behind so many words
abbrev pub behind_words : ℕ → List ℕ → List ℕ
behind_words zero text = text
behind_words (suc n) text = behind_words n (behind_word text)
