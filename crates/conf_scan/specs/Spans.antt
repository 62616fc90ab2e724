-- Where tokens stand in their text (`IsWithin`, `IsSpan`, `IsBetween`), and their bytes
-- (`slice_of`).
-- Not modelled: lines and columns (conf_tree).
-- From: own.
-- Example: in `a /* c */ b` the tokens stand at 0 to 1 and 10 to 11, and a gap between.
use Rattle.std.specs.Prelude.{⊤, ℕ, ◌+◌, ◌-◌, ◌<◌, ◌≤◌, List, [], ◌∷◌, length, take, drop}
use Rattle.conf_scan.specs.declared.scan.Lexeme.{Lexeme}
use Rattle.conf_scan.specs.declared.token.Token.{Token}
use Rattle.conf_scan.specs.declared.token.TokenKind.{TokenKind}
use Rattle.conf_scan.specs.declared.token.TokenKind.TheVariants as kinds
use Rattle.conf_scan.specs.Shapes.{IsToken, IsValue, IsGap}

-- the bytes of a token
abbrev pub slice_of : List ℕ → Token → List ℕ
slice_of text t = take t.len (drop t.at text)

-- The token stands within the text, and what is between quotes has two of them.
abbrev pub quotes_of : TokenKind → ℕ
quotes_of kinds.QuotedName = 2
quotes_of kinds.Text = 2
quotes_of _ = 0

pub record IsWithin (text : List ℕ) (t : Token) : Type 0 where
  pub ends : t.at + t.len ≤ length text
  pub quotes : quotes_of t.kind ≤ t.len

abbrev pub AreWithin : List ℕ → List Token → Type 0
AreWithin text [] = ⊤
AreWithin text (t ∷ ts) = IsWithin text t × AreWithin text ts

-- the token's bytes at its place are the longest token that begins there, and say what it says
pub record IsSpan (text : List ℕ) (t : Token) : Type 0 where
  pub sort : Lexeme
  pub some : 0 < t.len
  pub within : t.at + t.len ≤ length text
  pub token : IsToken (drop t.at text) sort (take t.len (drop t.at text)) (drop (t.at + t.len) text)
  pub value : IsValue sort (take t.len (drop t.at text)) t.kind

-- one place isn't before the other, and what stands between them is a gap
pub record IsBetween (text : List ℕ) (from upto : ℕ) : Type 0 where
  pub rises : from ≤ upto
  pub gap : IsGap (take (upto - from) (drop from text)) (drop upto text)
