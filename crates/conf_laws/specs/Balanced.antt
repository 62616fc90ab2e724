-- For the laws of device blocks: words in which each brace is closed (`IsBalanced`), as they stand
-- within the braces of a device. Brackets and parentheses count for nothing there.
-- From: BIRD User's Guide, "Protocols", section "Device".
-- Example: `{ x } ( ;` is balanced, `} {` isn't.
use Rattle.std.specs.Prelude.{◌≡◌, true, false, List, [], ◌∷◌, ◌++◌}
use Rattle.conf_lex.specs.declared.symbol.Symbol.TheVariants as sym
use Rattle.conf_lex.specs.declared.word.Word.{Word}
use Rattle.conf_words.specs.Significant.{is}

-- words with braces in them, each closed
pub data Braces : Type 0 where
  Nothing : Braces
  Plain : Word → Braces → Braces
  Braced : Word → Braces → Word → Braces → Braces

abbrev pub words_in : Braces → List Word
words_in Nothing = []
words_in (Plain w more) = w ∷ words_in more
words_in (Braced first inside last more) = first ∷ (words_in inside ++ (last ∷ words_in more))

-- the plain words are no braces, and the others are
abbrev pub AreBraces : Braces → Type 0
AreBraces Nothing = Unit {0}
AreBraces (Plain w more) =
    (is sym.OpenBrace w ≡ false) × (is sym.CloseBrace w ≡ false) × AreBraces more
AreBraces (Braced first inside last more) = (is sym.OpenBrace first ≡ true) × AreBraces inside
    × (is sym.CloseBrace last ≡ true) × AreBraces more

abbrev pub IsBalanced : List Word → Type 0
IsBalanced ws = (b : Braces) × AreBraces b × (words_in b ≡ ws)
