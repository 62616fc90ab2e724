-- The words that a text's tokens are to the grammars (`words_of`, by `first_word`): one for each
-- token, but one for an address, a slash and a number, and one for `else` and a colon next after
-- it.
-- Not modelled: which words can follow each other.
-- From: own; an `else` with a colon is of BIRD User's Guide, "Filters" (section "Control
-- structures").
-- Example: `10.0.0.0 / 8` is one word, `10.0.0.1 / x` three; `else /* c */ :` is one.
use Rattle.std.specs.Prelude.{ℕ, suc, zero, ◌+◌, ◌-◌, ◌%◌, ◌^◌, Bool, true, ◌&&◌, ◌==◌, nat_le}
use Rattle.std.specs.Prelude.{if◌then◌else◌, Option, Some, None, List, [], ◌∷◌}
use Rattle.bits_ip.specs.Address.{number_of, width_of}
use Rattle.bits_ip.specs.declared.address.Addr.{Addr}
use Rattle.conf_lex.specs.Attributes.{attribute_of, constant_of}
use Rattle.conf_lex.specs.Symbols.{symbol_of, is_placed, is_else, is_colon, is_slash}
use Rattle.conf_ast.specs.declared.attribute.Attribute.{Attribute}
use Rattle.conf_ast.specs.declared.attribute.Constant.{Constant}
use Rattle.conf_lex.specs.declared.symbol.Symbol.{Symbol}
use Rattle.conf_lex.specs.declared.symbol.Symbol.TheVariants as symbols
use Rattle.conf_scan.specs.Spans.{slice_of}
use Rattle.conf_scan.specs.declared.token.Token.{Token}
use Rattle.conf_scan.specs.declared.token.TokenKind.{TokenKind}
use Rattle.conf_scan.specs.declared.token.TokenKind.TheVariants as kinds
use Rattle.conf_lex.specs.declared.word.Word.{Word}
use Rattle.conf_lex.specs.declared.word.Word.TheVariants as words

-- the symbol that a word or sign is; what stands between quotes is none
abbrev pub kind_symbol : List ℕ → TokenKind → Option Symbol
kind_symbol slice kinds.Name = symbol_of slice
kind_symbol slice kinds.Punctuation = symbol_of slice
kind_symbol slice _ = None

abbrev pub token_symbol : List ℕ → Token → Option Symbol
token_symbol text t = kind_symbol (slice_of text t) t.kind

-- a symbol that begins at this byte
abbrev pub symbol_word : ℕ → Symbol → Word
symbol_word at symbol = if is_placed symbol then words.Placed at symbol else words.Symbol symbol

-- the word of a token that no grammar quotes, by the attribute or the constant that it is
abbrev pub constant_or_name : Token → Option Constant → Word
constant_or_name t None = words.Name t.at t.at t.len
constant_or_name t (Some constant) = words.Constant t.at constant

abbrev pub named_word : Token → List ℕ → Option Attribute → Word
named_word t slice None = constant_or_name t (constant_of slice)
named_word t slice (Some attribute) = words.Attribute t.at attribute

abbrev pub spelled_word : Token → List ℕ → Option Symbol → Word
spelled_word t slice None = named_word t slice (attribute_of slice)
spelled_word t slice (Some symbol) = symbol_word t.at symbol

-- the word that a token of this kind is alone
abbrev pub kind_word : List ℕ → Token → TokenKind → Word
kind_word text t kinds.QuotedName = words.Name t.at (t.at + 1) (t.len - 2)
kind_word text t kinds.Text = words.Text t.at (t.at + 1) (t.len - 2)
kind_word text t (kinds.Number n) = words.Number t.at n
kind_word text t (kinds.Ip addr) = words.Ip t.at addr
kind_word text t _ = spelled_word t (slice_of text t) (symbol_of (slice_of text t))

abbrev pub word_of : List ℕ → Token → Word
word_of text t = kind_word text t t.kind

-- an address and a length make a prefix
abbrev pub is_prefix : Addr → ℕ → Bool
is_prefix addr n = nat_le n (width_of addr) && (number_of addr % 2 ^ (width_of addr - n) == 0)

abbrev pub prefix_word : ℕ → Addr → ℕ → Word
prefix_word at addr n =
    if is_prefix addr n
    then words.Prefix at (record { addr = addr; len = n })
    else words.BadPrefix at

-- the word of an address, which begins at this byte, a slash and a number
abbrev pub slashed : ℕ → TokenKind → Bool → TokenKind → Option Word
slashed at (kinds.Ip addr) true (kinds.Number n) = Some (prefix_word at addr n)
slashed at _ _ _ = None

abbrev pub or_alone : Option Word → Word → Word × ℕ
or_alone None alone = (alone, 1)
or_alone (Some folded) alone = (folded, 3)

-- The word that begins with a token, by what follows it, and of how many tokens it is made.
abbrev pub first_word : List ℕ → Token → List Token → Word × ℕ
first_word text t [] = (word_of text t, 1)
first_word text t (u ∷ []) =
    if is_else (token_symbol text t) && is_colon (token_symbol text u)
    then (words.Symbol symbols.ElseColon, 2) else (word_of text t, 1)
first_word text t (u ∷ v ∷ ts) =
    if is_else (token_symbol text t) && is_colon (token_symbol text u)
    then (words.Symbol symbols.ElseColon, 2)
    else or_alone (slashed t.at t.kind (is_slash (token_symbol text u)) v.kind) (word_of text t)

-- The words from the token of this number on, each with the number of its first token. The first
-- `skip` tokens belong to the word before.
abbrev pub words_from : List ℕ → ℕ → ℕ → List Token → List (ℕ × Word)
words_from text i skip [] = []
words_from text i (suc skip) (t ∷ ts) = words_from text (i + 1) skip ts
words_from text i zero (t ∷ ts) =
    (i, (first_word text t ts).0) ∷ words_from text (i + 1) ((first_word text t ts).1 - 1) ts

-- the words of a text with these tokens, each with the number of its first token
abbrev pub words_of : List ℕ → List Token → List (ℕ × Word)
words_of text tokens = words_from text 0 0 tokens
