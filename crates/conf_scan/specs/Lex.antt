-- The tokens of a text (`Lexes`): each is the longest that begins at its place, and a gap stands
-- before, between and behind them; or the one place where a text has none (`Stops`).
-- Not modelled: what tokens say together.
-- From: BIRD User's Guide, "Configuration"; the longest token and the place are own.
-- Example: `filter f { @ }` stops at byte 11.
use Rattle.std.specs.Prelude.{◌≡◌, ℕ, ◌+◌, ◌<◌, List, [], ◌∷◌, ◌++◌, length, ⊤}
use Rattle.conf_scan.specs.Shapes.{IsToken, IsValue, IsSeparator, IsGap}
use Rattle.conf_scan.specs.declared.scan.Lexeme.{Lexeme}
use Rattle.conf_scan.specs.declared.token.LexFault.{LexFault}
use Rattle.conf_scan.specs.declared.token.LexFault.TheVariants.{Bad, Memory}
use Rattle.conf_scan.specs.declared.token.Token.{Token}
use Rattle.conf_scan.specs.declared.token.TokenKind.{TokenKind}

-- Behind a gap stands this token, and the rest behind it. The text begins at a place of the source.
pub record IsNext (place : ℕ) (text : List ℕ) (t : Token) (rest : List ℕ) : Type 0 where
  pub sort : Lexeme
  pub gap : List ℕ
  pub slice : List ℕ
  pub whole : text ≡ gap ++ (slice ++ rest)
  pub separators : IsGap gap (slice ++ rest)
  pub token : IsToken (slice ++ rest) sort slice rest
  pub value : IsValue sort slice t.kind
  pub at : t.at ≡ place + length gap
  pub len : t.len ≡ length slice

-- the tokens of a text from a place of the source on, with a gap before, between and behind them
abbrev pub Lexes : ℕ → List ℕ → List Token → Type 0
Lexes place text [] = IsGap text []
Lexes place text (t ∷ ts) =
    (rest : List ℕ) × IsNext place text t rest × Lexes (t.at + t.len) rest ts

-- no separator begins the text
abbrev pub HasNoSeparator : List ℕ → Type 0
HasNoSeparator text = (piece rest : List ℕ) → text ≡ piece ++ rest → IsSeparator piece rest → ⊥

-- no token that says something begins the text
abbrev pub HasNoToken : List ℕ → Type 0
HasNoToken text = (sort : Lexeme) (slice rest : List ℕ) (kind : TokenKind)
    → IsToken text sort slice rest → IsValue sort slice kind → ⊥

-- Behind a gap stands something else, at this place of the source.
pub record IsStuck (start : ℕ) (text : List ℕ) (place : ℕ) : Type 0 where
  pub gap : List ℕ
  pub rest : List ℕ
  pub whole : text ≡ gap ++ rest
  pub separators : IsGap gap rest
  pub at : place ≡ start + length gap
  pub some : 0 < length rest
  pub no_separator : HasNoSeparator rest
  pub no_token : HasNoToken rest

-- behind these tokens and a gap stands, at this place, what is neither a separator nor a token
abbrev pub Stops : ℕ → List ℕ → List Token → ℕ → Type 0
Stops start text [] place = IsStuck start text place
Stops start text (t ∷ ts) place =
    (rest : List ℕ) × IsNext start text t rest × Stops (t.at + t.len) rest ts place

-- the fault names this place, or want of memory
abbrev pub IsBadAt : LexFault → ℕ → Type 0
IsBadAt (Bad at) place = at ≡ place
IsBadAt Memory place = ⊤

-- the fault is that of the text
abbrev pub IsLexFault : List ℕ → LexFault → Type 0
IsLexFault text (Bad at) = (ts : List Token) × Stops 0 text ts at
IsLexFault text Memory = ⊤
