-- For private contracts alone: what stands behind a word that may go on, an address or `else`.
use Rattle.std.specs.Prelude.{◌≡◌, ℕ, Bool, true, false, if◌then◌else◌, Option, Some, None, List}
use Rattle.std.specs.Prelude.{[], ◌∷◌}
use Rattle.conf_lex.specs.Symbols.{is_colon, is_slash}
use Rattle.conf_lex.specs.Words.{token_symbol}
use Rattle.conf_scan.specs.declared.lexer.Spot.{Spot}
use Rattle.conf_scan.specs.declared.token.Token.{Token}
use Rattle.conf_scan.specs.declared.token.TokenKind.{TokenKind}
use Rattle.conf_scan.specs.declared.token.TokenKind.TheVariants as kinds
use Rattle.conf_scan.specs.Spots.{IsStep}

-- a colon begins the tokens
abbrev pub begins_colon : List ℕ → List Token → Bool
begins_colon text [] = false
begins_colon text (t ∷ ts) = is_colon (token_symbol text t)

abbrev pub number_of : TokenKind → Option ℕ
number_of (kinds.Number n) = Some n
number_of _ = None

-- the number that begins the tokens
abbrev pub first_number : List Token → Option ℕ
first_number [] = None
first_number (t ∷ ts) = number_of t.kind

-- the number behind a slash that begins the tokens
abbrev pub first_length : List ℕ → List Token → Option ℕ
first_length text [] = None
first_length text (t ∷ ts) = if is_slash (token_symbol text t) then first_number ts else None

-- a colon stands next
pub record IsColonStep (text : List ℕ) (from to : Spot) : Type 0 where
  pub token : Token
  pub step : IsStep text from token to
  pub colon : is_colon (token_symbol text token) ≡ true

-- a number stands next
pub record IsNumberStep (text : List ℕ) (from : Spot) (n : ℕ) (to : Spot) : Type 0 where
  pub token : Token
  pub step : IsStep text from token to
  pub number : token.kind ≡ kinds.Number n

-- a slash stands next, and a number behind it
pub record IsLengthStep (text : List ℕ) (from : Spot) (n : ℕ) (to : Spot) : Type 0 where
  pub token : Token
  pub middle : Spot
  pub step : IsStep text from token middle
  pub slash : is_slash (token_symbol text token) ≡ true
  pub number : IsNumberStep text middle n to
