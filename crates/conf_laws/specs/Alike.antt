-- For the laws of refusals: tokens of two texts that say the same (`IsAlike`, `AreAlike`), what
-- beside a token decides whether it can stand (`DecideAlike`, `CanBePrefix`), and tokens that no
-- configuration has (`IsNoSentence`).
-- From: own.
-- Example: no configuration begins with `router id 10.0.0.0 /`.
use Rattle.std.specs.Prelude.{◌≡◌, ℕ, Bool, true, false, List, [], ◌∷◌, ◌++◌, length, take}
use Rattle.bits_ip.specs.declared.address.Addr.{Addr}
use Rattle.conf_lex.specs.Symbols.{is_colon, is_else, is_slash}
use Rattle.conf_lex.specs.Words.{token_symbol, is_prefix}
use Rattle.conf_scan.specs.Spans.{slice_of}
use Rattle.conf_scan.specs.declared.token.Token.{Token}
use Rattle.conf_scan.specs.declared.token.TokenKind.TheVariants as kinds
use Rattle.conf_lex.specs.Grammar.{ParseTree, yield, DerivesLongest}
use Rattle.expr_syntax.specs.Syntax.{rule}
use Rattle.filt_syntax.specs.RefusedToken.{CanFollow, some_prefix}
use Rattle.conf_syntax.specs.Syntax.{config}
use Rattle.conf_words.specs.Significant.{significant_words, token_of}

-- a token of one text and a token of another are of one kind and have the same bytes
pub record IsAlike (text : List ℕ) (t : Token) (other : List ℕ) (u : Token) : Type 0 where
  pub kind : t.kind ≡ u.kind
  pub bytes : slice_of text t ≡ slice_of other u

-- as many tokens of either, each like the one in its place
abbrev pub AreAlike : List ℕ → List Token → List ℕ → List Token → Type 0
AreAlike text [] other [] = Unit {0}
AreAlike text (t ∷ ts) other (u ∷ us) = IsAlike text t other u × AreAlike text ts other us
AreAlike text _ other _ = ⊥

-- a colon comes next
abbrev pub colon_next : List ℕ → List Token → Bool
colon_next text [] = false
colon_next text (t ∷ ts) = is_colon (token_symbol text t)

-- the token is an address, and makes no prefix with the slash and the number that come next
abbrev pub IsBadPrefix : List ℕ → Token → List Token → Type 0
IsBadPrefix text t (u ∷ v ∷ ts) =
    (addr : Addr) × (n : ℕ) × (t.kind ≡ kinds.Ip addr)
    × (is_slash (token_symbol text u) ≡ true) × (v.kind ≡ kinds.Number n)
    × (is_prefix addr n ≡ false)
IsBadPrefix text t _ = ⊥

-- a prefix can stand behind the words before this token
abbrev pub CanBePrefix : List ℕ → List Token → ℕ → Type 0
CanBePrefix text tokens token =
    (place : ℕ) × (token ≡ token_of text tokens place)
    × CanFollow config (take place (significant_words text tokens)) some_prefix

-- What comes behind two tokens that are alike decides alike: behind `else` whether a colon does,
-- since it is one sign with it, and where a prefix can stand the other two tokens of a bad one.
pub record DecideAlike (text : List ℕ) (front : List Token) (t : Token) (back : List Token)
    (other : List ℕ) (u : Token) (more : List Token) : Type 0 where
  pub else_sign : is_else (token_symbol text t) ≡ true
      → colon_next text back ≡ colon_next other more
  pub bad_prefix : IsBadPrefix text t back
      → CanBePrefix text (front ++ t ∷ back) (length front) → IsBadPrefix other u more

-- a text with these tokens is no configuration, whatever its levels
abbrev pub IsNoSentence : List ℕ → List Token → Type 0
IsNoSentence text tokens =
    (tree : ParseTree) → DerivesLongest rule tree config → yield tree
    ≡ significant_words text tokens → ⊥
