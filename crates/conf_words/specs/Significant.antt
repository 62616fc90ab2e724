-- What a log and a device block hold says nothing: the grammar reads the words without it
-- (`significant`): without a log to its semicolon, and without what stands within a device's
-- braces.
-- Not modelled: what logs and devices are told (nothing here writes a log or asks for interfaces),
-- and brackets and parentheses within a device.
-- From: BIRD User's Guide, "Configuration" (section "Global options", `log`) and "Protocols"
-- (section "Device").
-- Example: `log protocol device { ; router id 1.2.3.4;` has two statements, and so has `protocol
-- device { { x } ( ; } filter d { }`.
use Rattle.std.specs.Prelude.{◌≡◌, ℕ, Bool, true, false, cond, List, [], ◌∷◌, map}
use Rattle.std.specs.Prelude.{slice_index_or, length}
use Rattle.std.proofs.Common.{zero, suc}
use Rattle.conf_lex.specs.Words.{words_of}
use Rattle.conf_lex.specs.declared.symbol.Symbol.{Symbol}
use Rattle.conf_lex.specs.declared.symbol.Symbol.TheVariants as sym
use Rattle.conf_scan.specs.Lex.{Lexes}
use Rattle.conf_scan.specs.declared.token.Token.{Token}
use Rattle.conf_lex.specs.declared.word.Word.{Word}
use Rattle.conf_lex.specs.Kind.{kind_of, name, symbol}
use Rattle.conf_words.specs.declared.significant.Region.{Region}
use Rattle.conf_words.specs.declared.significant.Region.TheVariants as regions

-- whether a word is this symbol
abbrev pub is : Symbol → Word → Bool
is s w = symbol s (kind_of w)

-- where the word behind stands; the opening brace of a device has region 0 behind it
abbrev pub behind : Region → Word → Region
behind regions.Statements w =
    cond (is sym.Log w) regions.Log (cond (is sym.Protocol w) regions.Protocol regions.Statements)
behind regions.Log w = cond (is sym.Semicolon w) regions.Statements regions.Log
behind regions.Protocol w = cond (is sym.Device w) regions.Device regions.Statements
behind regions.Device w = cond (name (kind_of w)) regions.Named
    (cond (is sym.OpenBrace w) (regions.Inside 0) regions.Statements)
behind regions.Named w = cond (is sym.OpenBrace w) (regions.Inside 0) regions.Statements
behind (regions.Inside zero) w = cond (is sym.CloseBrace w) regions.Statements
    (cond (is sym.OpenBrace w) (regions.Inside 1) (regions.Inside 0))
behind (regions.Inside (suc n)) w = cond (is sym.CloseBrace w) (regions.Inside n)
    (cond (is sym.OpenBrace w) (regions.Inside (suc (suc n))) (regions.Inside (suc n)))

-- how many braces are open within those of a device
abbrev pub depth_of : Region → ℕ
depth_of (regions.Inside n) = n
depth_of _ = 0

-- whether a word says something: in a log the semicolon that ends it, within a device's braces the
-- one that closes them
abbrev pub is_significant : Region → Word → Bool
is_significant regions.Log w = is sym.Semicolon w
is_significant (regions.Inside zero) w = is sym.CloseBrace w
is_significant (regions.Inside (suc n)) w = false
is_significant _ w = true

-- the words that say something, each with the place of its first token
abbrev pub significant : Region → List (ℕ × Word) → List (ℕ × Word)
significant region [] = []
significant region (p ∷ ps) =
    cond (is_significant region p.1) (p ∷ significant (behind region p.1) ps)
    (significant (behind region p.1) ps)

abbrev pub significant_of : List ℕ → List Token → List (ℕ × Word)
significant_of text tokens = significant regions.Statements (words_of text tokens)

-- the words of a text that the grammar reads
abbrev pub significant_words : List ℕ → List Token → List Word
significant_words text tokens = map (λ p. p.1) (significant_of text tokens)

-- the first token of each
abbrev pub significant_starts : List ℕ → List Token → List ℕ
significant_starts text tokens = map (λ p. p.0) (significant_of text tokens)

-- the token with which the word in this place begins; behind the last word the end of the tokens
abbrev pub token_of : List ℕ → List Token → ℕ → ℕ
token_of text tokens place = slice_index_or (significant_starts text tokens) place (length tokens)

-- these are the words of the text that the grammar reads
abbrev pub AreWordsOf : List ℕ → List Word → Type 0
AreWordsOf text words =
    (tokens : List Token) × Lexes 0 text tokens × (words ≡ significant_words text tokens)
