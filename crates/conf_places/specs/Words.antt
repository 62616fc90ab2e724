-- For the laws: where words begin (`of_word`) and whether a token of a text begins at a byte
-- (`IsTokenPlace`).
-- From: own.
-- Example: in ` log;` at 1 and 4.
use Rattle.std.specs.Prelude.{◌≡◌, ℕ, List, [], ◌∷◌, ◌++◌}
use Rattle.conf_scan.specs.Lex.{Lexes}
use Rattle.conf_scan.specs.declared.token.Token.{Token}
use Rattle.conf_lex.specs.declared.word.Word.{Word}
use Rattle.conf_lex.specs.declared.word.Word.TheVariants as words
use Rattle.conf_places.specs.Configurations.{of_each}

abbrev pub of_word : Word → List ℕ
of_word (words.Name at start len) = at ∷ []
of_word (words.Number at value) = at ∷ []
of_word (words.Text at start len) = at ∷ []
of_word (words.Ip at addr) = at ∷ []
of_word (words.Prefix at net) = at ∷ []
of_word (words.BadPrefix at) = at ∷ []
of_word (words.Attribute at a) = at ∷ []
of_word (words.Constant at c) = at ∷ []
of_word (words.Symbol s) = []
of_word (words.Placed at s) = at ∷ []

abbrev pub of_words : List Word → List ℕ
of_words ws = of_each of_word ws

-- a token of the text begins at this byte
abbrev pub IsTokenPlace : (text : List ℕ) → (at : ℕ) → Type 0
IsTokenPlace text at =
    (front : List Token) × (back : List Token) × (t : Token) × Lexes 0 text (front ++ t ∷ back)
    × (t.at ≡ at)
