-- For the laws of texts: bytes that are a token (`IsSpelling`), and a text written of tokens, with
-- a space before each (`spaced`).
-- Not modelled: other gaps and comments.
-- From: own.
-- Example: `router` and `id` are written ` router id `.
use Rattle.std.specs.Prelude.{ℕ, ⊤, List, [], ◌∷◌, ◌++◌, map}
use Rattle.conf_scan.specs.Shapes.{IsShape, IsValue}
use Rattle.conf_scan.specs.Spans.{slice_of}
use Rattle.conf_scan.specs.declared.scan.Lexeme.{Lexeme}
use Rattle.conf_scan.specs.declared.token.Token.{Token}
use Rattle.conf_scan.specs.declared.token.TokenKind.{TokenKind}

-- the bytes of a token, and what it is
abbrev pub Spelling : Type 0
Spelling = List ℕ × TokenKind

-- these bytes are a token that says so, where a space comes behind them
pub record IsSpelling (s : Spelling) : Type 0 where
  pub sort : Lexeme
  pub shape : IsShape sort s.0 (32 ∷ [])
  pub value : IsValue sort s.0 s.1

abbrev pub AreSpellings : List Spelling → Type 0
AreSpellings [] = ⊤
AreSpellings (s ∷ spellings) = IsSpelling s × AreSpellings spellings

-- the text with a space before each of them and one behind the last
abbrev pub spaced : List Spelling → List ℕ
spaced [] = 32 ∷ []
spaced (s ∷ spellings) = 32 ∷ (s.0 ++ spaced spellings)

-- the tokens of a text, each with its bytes
abbrev pub spellings_of : List ℕ → List Token → List Spelling
spellings_of text tokens = map (λ t. (slice_of text t, t.kind)) tokens
