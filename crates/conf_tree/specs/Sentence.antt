-- Which words are a configuration (`IsSentence`), and the first word of others that is refused
-- (`IsStop`): the place and the token of the first refusal, and three reasons for it: no
-- configuration has the word there, the 65th level opens, or the word is known there and not
-- supported (`IsUnsupported`).
-- Not modelled: refusals behind the first, and words of BIRD's that are not in the lists below.
-- From: own; the words that are known are of BIRD User's Guide, "Configuration" (sections "Global
-- options", "Protocol options", "Channel options") and "Protocols" (sections "BGP", "Static").
-- Example: `filter f {` and a newline is refused at 2:1; `protocol ospf o { }` at 1:10, as
-- unsupported; `local path;` in a bgp protocol at `path`, as no sentence; `protocol else: x` at
-- 1:10, as no sentence, since `else:` is a sign.
use Rattle.std.specs.Prelude.{◌≡◌, ◌≢◌, ◌≤◌, ◌+◌, cond, ℕ, Bool, List, [], ◌∷◌, ◌++◌, length}
use Rattle.std.specs.Prelude.{take, drop, codes, IsTrue, Option, None, IsSomeAnd}
use Rattle.std.specs.List.{list_any}
use Rattle.std.specs.Bool.{nat_eq}
use Rattle.std.specs.Cmp.Lexicographic.{pointwise}
use Rattle.conf_lex.specs.declared.symbol.Symbol.{Symbol}
use Rattle.conf_lex.specs.declared.symbol.Symbol.TheVariants as sym
use Rattle.conf_scan.specs.declared.token.Token.{Token}
use Rattle.conf_lex.specs.declared.word.Word.{Word}
use Rattle.conf_lex.specs.declared.word.Word.TheVariants as words
use Rattle.conf_lex.specs.Grammar.{ParseTree, yield, DerivesLongest, begins, too_deep}
use Rattle.conf_lex.specs.Kind.{symbol}
use Rattle.conf_lex.specs.Sentences.{IsBegun, IsBegunWithin, IsLast, IsTooDeep}
use Rattle.expr_syntax.specs.Syntax.{rule}
use Rattle.filt_syntax.specs.RefusedToken.{IsPastAt}
use Rattle.filt_syntax.specs.declared.parse.SyntaxFault.{SyntaxFault}
use Rattle.filt_syntax.specs.declared.parse.SyntaxFault.TheVariants as faults
use Rattle.conf_syntax.specs.Syntax.{config}
use Rattle.conf_words.specs.Bytes.{first_bytes}
use Rattle.conf_words.specs.Significant.{significant_words, token_of}

-- the words are a configuration of this tree, with no more than 64 levels in a block or an
-- expression
pub record IsSentence (significant : List Word) (t : ParseTree) : Type 0 where
  pub fits : DerivesLongest rule t config
  pub whole : yield t ≡ significant
  pub levels : too_deep t 64 ≡ None

-- The words before the rest begin a configuration within 64 levels. With the first of the rest they
-- begin none; where there is no rest, they are none.
pub record IsStop (significant rest : List Word) : Type 0 where
  pub before : List Word
  pub front : significant ≡ before ++ rest
  pub begun : IsBegunWithin rule 64 config before
  pub last : IsLast rule config before rest
  pub unfinished : rest ≡ [] → (t : ParseTree) → DerivesLongest rule t config → yield t ≢ before

-- ---- words that are known and not supported

-- this symbol can stand behind these words
abbrev pub CanStand : Symbol → List Word → Type 0
CanStand s before = IsBegun rule config (before ++ words.Symbol s ∷ [])

-- these words end in this symbol, behind others of which this is said
abbrev pub EndsIn : Symbol → List Word → (List Word → Type 0) → Type 0
EndsIn s before P = (front : List Word) × (before ≡ front ++ words.Symbol s ∷ []) × P front

-- a word is one of several
abbrev pub is_one_of : List (List ℕ) → List ℕ → Bool
is_one_of several word = list_any (λ other. pointwise nat_eq other word) several

-- in place of a statement
abbrev pub statement_words : List (List ℕ)
statement_words = codes "template" ∷ codes "include" ∷ codes "roa4" ∷ codes "roa6" ∷ codes "vpn4"
    ∷ codes "vpn6" ∷ codes "mpls" ∷ codes "flow4" ∷ codes "flow6" ∷ []

-- in place of an option of a bgp protocol
abbrev pub bgp_words : List (List ℕ)
bgp_words = codes "deterministic" ∷ codes "rr" ∷ codes "confederation" ∷ codes "path"
    ∷ codes "allow" ∷ codes "add" ∷ []

-- in place of an option of a channel
abbrev pub channel_words : List (List ℕ)
channel_words = codes "receive" ∷ codes "keep" ∷ codes "add" ∷ []

-- behind a channel's "import"
abbrev pub import_words : List (List ℕ)
import_words = codes "table" ∷ codes "keep" ∷ []

-- The word, which can't stand behind these words, is known there and not supported: any word behind
-- "protocol", and words where others can stand. "define" can stand where a statement can,
-- "neighbor" where an option of a bgp protocol can, "next" where one of a channel can, "limit"
-- behind a channel's "import", "warn" behind "action", and "blackhole" behind the prefix of a
-- route.
pub data IsUnsupported (before : List Word) (word : List ℕ) : Type 0 where
  a_kind : EndsIn sym.Protocol before (λ front. Unit {0}) → IsUnsupported before word
  a_statement : IsTrue (is_one_of statement_words word) → CanStand sym.Define before
      → IsUnsupported before word
  a_bgp_option : IsTrue (is_one_of bgp_words word) → CanStand sym.Neighbor before
      → IsUnsupported before word
  a_channel_option : IsTrue (is_one_of channel_words word) → CanStand sym.Next before
      → IsUnsupported before word
  an_import : IsTrue (is_one_of import_words word) → CanStand sym.Limit before
      → IsUnsupported before word
  an_export : word ≡ codes "limit" → EndsIn sym.Export before (CanStand sym.Next)
      → IsUnsupported before word
  an_action : word ≡ codes "restart" → CanStand sym.Warn before → IsUnsupported before word
  a_route : word ≡ codes "recursive" → CanStand sym.Blackhole before → IsUnsupported before word

-- the bytes of the first token, where it is a word without quotes and the first of the words isn't a
-- sign: `else` with a colon next is one
abbrev pub word_bytes : List Word → List ℕ → List Token → Option (List ℕ)
word_bytes rest text tokens =
    cond (begins (symbol sym.ElseColon) rest) None (first_bytes text tokens)

-- ---- refusals

-- the word in this place is refused, and begins with this token
pub record StopsAt (text : List ℕ) (tokens : List Token) (place at : ℕ) : Type 0 where
  pub within : place ≤ length (significant_words text tokens)
  pub stop : IsStop (significant_words text tokens) (drop place (significant_words text tokens))
  pub token : at ≡ token_of text tokens place

-- it is known there
abbrev pub IsKnown : List ℕ → List Token → ℕ → ℕ → Type 0
IsKnown text tokens place at =
    IsSomeAnd (word_bytes (drop place (significant_words text tokens)) text (drop at tokens))
    (IsUnsupported (take place (significant_words text tokens)))

-- The word in this place is refused and not known there. This is the first of its tokens that no
-- sentence can have.
pub record IsBadAt (text : List ℕ) (tokens : List Token) (place at : ℕ) : Type 0 where
  pub start : ℕ
  pub stops : StopsAt text tokens place start
  pub unknown : IsKnown text tokens place start → ⊥
  pub past : ℕ
  pub is_past : IsPastAt config (significant_words text tokens) place past
  pub token : at ≡ start + past

-- the word in this place opens the 65th level
pub record DeepensAt (text : List ℕ) (tokens : List Token) (place at : ℕ) : Type 0 where
  pub within : place ≤ length (significant_words text tokens)
  pub deep : IsTooDeep rule 64 config (significant_words text tokens)
      (drop place (significant_words text tokens))
  pub token : at ≡ token_of text tokens place

-- The word in this place of these, which can't stand there and begins with this token, is refused
-- so; whether it is known there.
abbrev pub Refuses : Type 0 → List Word → ℕ → ℕ → SyntaxFault → Type 0
Refuses known significant place start (faults.Bad token) =
    (known → ⊥) × (n : ℕ) × IsPastAt config significant place n × (token ≡ start + n)
Refuses known significant place start (faults.Unsupported token) = (token ≡ start) × known
Refuses known significant place start (faults.TooDeep token) = ⊥
Refuses known significant place start faults.Memory = Unit {0}

-- the tokens of a text are refused so
abbrev pub IsRefused : List ℕ → List Token → SyntaxFault → Type 0
IsRefused text tokens (faults.Bad at) = (place : ℕ) × IsBadAt text tokens place at
IsRefused text tokens (faults.Unsupported at) =
    (place : ℕ) × StopsAt text tokens place at × IsKnown text tokens place at
IsRefused text tokens (faults.TooDeep at) = (place : ℕ) × DeepensAt text tokens place at
IsRefused text tokens faults.Memory = Unit {0}
