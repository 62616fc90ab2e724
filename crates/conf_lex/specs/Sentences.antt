-- What stands at the front of some words (`IsRead`), and the first word that can't stand there
-- (`IsBad`), or opens a level too many (`IsTooDeep`).
-- Not modelled: tokens, of which a word may be made, and how words are read.
-- From: own.
-- Example: `1 + )` is refused at `)`; of 65 times `!` the 65th is too deep.
use Rattle.std.specs.Prelude.{◌≡◌, ◌≢◌, ℕ, ◌≤◌, List, [], ◌∷◌, ◌++◌, length, Some, None}
use Rattle.conf_lex.specs.declared.word.Word.{Word}
use Rattle.conf_lex.specs.Grammar.{Form, ParseTree, yield, too_deep, DerivesLongest}

-- some sentence begins with these words
abbrev pub IsBegun : {L : Type 0} → (L → Form L) → Form L → List Word → Type 0
IsBegun rule f words =
    (t : ParseTree) × (more : List Word) × DerivesLongest rule t f × (yield t ≡ words ++ more)

-- Some sentence begins with these words, and the first word of it that opens a level over k comes
-- after them.
abbrev pub IsBegunWithin : {L : Type 0} → (L → Form L) → ℕ → Form L → List Word → Type 0
IsBegunWithin rule k f words =
    (t : ParseTree) × (more : List Word) × DerivesLongest rule t f × (yield t ≡ words ++ more)
    × ((deep : List Word) → too_deep t k ≡ Some deep → length deep ≤ length more)

-- no sentence begins with these words and the next one
abbrev pub IsLast : {L : Type 0} → (L → Form L) → Form L → List Word → List Word → Type 0
IsLast rule f words [] = Unit {0}
IsLast rule f words (w ∷ rest) = IsBegun rule f (words ++ w ∷ []) → ⊥

-- The words begin with a sentence, of this tree and within k levels, which can't go on with the
-- next word.
pub record IsRead {L : Type 0} (rule : L → Form L) (k : ℕ) (f : Form L)
    (words : List Word) (t : ParseTree) (rest : List Word) : Type 0 where
  pub fits : DerivesLongest rule t f
  pub front : words ≡ yield t ++ rest
  pub levels : too_deep t k ≡ None
  pub longest : IsLast rule f (yield t) rest

-- The words before the rest begin a sentence within k levels, and are none. With the next word they
-- begin none.
pub record IsBad {L : Type 0} (rule : L → Form L) (k : ℕ) (f : Form L)
    (words rest : List Word) : Type 0 where
  pub before : List Word
  pub front : words ≡ before ++ rest
  pub begun : IsBegunWithin rule k f before
  pub unfinished : (t : ParseTree) → DerivesLongest rule t f → yield t ≢ before
  pub last : IsLast rule f before rest

-- Some sentence begins with the words and the first of the rest, which is its first that opens a
-- level over k.
pub record IsTooDeep {L : Type 0} (rule : L → Form L) (k : ℕ) (f : Form L)
    (words rest : List Word) : Type 0 where
  pub before : List Word
  pub opener : Word
  pub behind : List Word
  pub tree : ParseTree
  pub more : List Word
  pub front : words ≡ before ++ rest
  pub opens : rest ≡ opener ∷ behind
  pub fits : DerivesLongest rule tree f
  pub begun : yield tree ≡ before ++ opener ∷ more
  pub levels : too_deep tree k ≡ Some (opener ∷ more)
