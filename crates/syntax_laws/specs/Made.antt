-- For the laws of words: of which tokens words are made (`IsMadeOf`, `MakeUp`).
-- Not modelled: bytes.
-- From: own.
-- Example: the word `10.0.0.0/8` is made of an address, a slash and a number.
use Rattle.std.specs.Prelude.{◌≡◌, ℕ, ◌+◌, Some, List, [], ◌∷◌, ◌++◌, length}
use Rattle.bits_ip.specs.declared.address.Addr.{Addr}
use Rattle.conf_lex.specs.Words.{token_symbol, word_of, prefix_word}
use Rattle.conf_lex.specs.declared.symbol.Symbol.TheVariants as symbols
use Rattle.conf_scan.specs.declared.token.Token.{Token}
use Rattle.conf_scan.specs.declared.token.TokenKind.TheVariants as kinds
use Rattle.conf_lex.specs.declared.word.Word.{Word}
use Rattle.conf_lex.specs.declared.word.Word.TheVariants as words

-- A word is one token, or `else` and a colon, or an address, a slash and a number.
pub data IsMadeOf (text : List ℕ) (made : List Token) (word : Word) : Type 0 where
  Alone : (t : Token) → made ≡ t ∷ [] → word ≡ word_of text t → IsMadeOf text made word
  ElseColon : (t u : Token) → made ≡ t ∷ u ∷ [] → token_symbol text t ≡ Some symbols.Else
      → token_symbol text u ≡ Some symbols.Colon → word ≡ words.Symbol symbols.ElseColon
      → IsMadeOf text made word
  Slashed : (t u v : Token) (addr : Addr) (n : ℕ) → made ≡ t ∷ u ∷ v ∷ []
      → t.kind ≡ kinds.Ip addr → token_symbol text u ≡ Some symbols.Slash
      → v.kind ≡ kinds.Number n → word ≡ prefix_word t.at addr n → IsMadeOf text made word

-- These tokens, of which the first has this number, make up these words, each with the number of
-- its first token.
abbrev pub MakeUp : List ℕ → ℕ → List Token → List (ℕ × Word) → Type 0
MakeUp text i tokens [] = tokens ≡ []
MakeUp text i tokens (w ∷ ws) =
    (made : List Token) × (rest : List Token) × (tokens ≡ made ++ rest) × (w.0 ≡ i)
    × IsMadeOf text made w.1 × MakeUp text (i + length made) rest ws
