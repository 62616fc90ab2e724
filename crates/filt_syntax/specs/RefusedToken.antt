-- At which of its tokens a refused word is refused: the first that no sentence can have there
-- (`IsPast`, for the words before it and what it is, by `torn_of`; `CanFollow`). A grammar looks at
-- words, and a prefix is one word of three tokens.
-- Not modelled: bytes and lines.
-- From: own; BIRD User's Guide, "Filters", says nothing of it.
-- Example: `router id 10.0.0.0/8;` is refused at the slash; `route 10.0.0.0 via` at `via`;
-- `[10.0.0.0]` at the bracket that closes; `define A = 10.0.0.0/;` at the semicolon; `[10.0.0.1/8]`
-- at the address.
use Rattle.std.specs.Prelude.{◌≡◌, ◌⊎◌, ℕ, ◌+◌, Bool, if◌then◌else◌, List, [], ◌∷◌}
use Rattle.std.specs.Prelude.{◌++◌, take, drop, Some, false}
use Rattle.bits_ip.specs.declared.address.Addr.{Addr}
use Rattle.bits_ip.specs.declared.address.Addr.TheVariants.{V4}
use Rattle.conf_lex.specs.Symbols.{is_slash}
use Rattle.conf_lex.specs.declared.symbol.Symbol.TheVariants as sym
use Rattle.conf_lex.specs.declared.word.Word.{Word}
use Rattle.conf_lex.specs.declared.word.Word.TheVariants as words
use Rattle.conf_lex.specs.Kind.{symbol}
use Rattle.conf_lex.specs.Grammar.{begins}
use Rattle.conf_lex.specs.Sentences.{IsBegun, IsBegunWithin}
use Rattle.expr_syntax.specs.Syntax.{rule}
use Rattle.expr_syntax.specs.Levels.{Form}
use Rattle.filt_syntax.specs.declared.parse.SyntaxFault.{SyntaxFault}
use Rattle.filt_syntax.specs.declared.parse.SyntaxFault.TheVariants as faults
use Rattle.filt_syntax.specs.declared.refused_token.Tear.{Tear}
use Rattle.filt_syntax.specs.declared.refused_token.Torn.{Torn}
use Rattle.filt_syntax.specs.declared.refused_token.Torn.TheVariants as torns

-- this word can stand behind these
abbrev pub CanFollow : Form → List Word → Word → Type 0
CanFollow f before word = IsBegun rule f (before ++ word ∷ [])

-- the words before the last begin a sentence within 64 levels
abbrev pub IsNext : Form → List Word → Type 0
IsNext f words = (before : List Word) × (word : Word) × (words ≡ before ++ word ∷ [])
    × IsBegunWithin rule 64 f before

-- 0.0.0.0/0 and 0.0.0.0 stand for each prefix and each address: a grammar looks at kinds alone
abbrev pub some_prefix : Word
some_prefix = words.Prefix 0 (record { addr = V4 0; len = 0 })

abbrev pub some_address : Word
some_address = words.Ip 0 (V4 0)

-- what a refused word is; a prefix is a good one or a bad one
abbrev pub torn_of : Word → Torn
torn_of (words.Prefix at net) = torns.Prefix
torn_of (words.BadPrefix at) = torns.Prefix
torn_of (words.Ip at addr) = torns.Address
torn_of (words.Symbol s) = if is_slash (Some s) then torns.Slash else torns.Other
torn_of _ = torns.Other

-- the first of some words, as far as it may be torn
abbrev pub tear_of : List Word → Tear
tear_of [] = record { torn = torns.Other; slash = false }
tear_of (w ∷ ws) = record { torn = torn_of w; slash = begins (symbol sym.Slash) ws }

-- the words end in an address, in whose place a prefix can stand
pub record EndInAddress (f : Form) (before : List Word) : Type 0 where
  pub front : List Word
  pub at : ℕ
  pub addr : Addr
  pub cut : before ≡ front ++ words.Ip at addr ∷ []
  pub prefix : CanFollow f front some_prefix

-- one number where something holds, and 0 where it doesn't
abbrev pub IsCount : Type 0 → ℕ → ℕ → Type 0
IsCount P most n = (P × (n ≡ most)) ⊎ ((P → ⊥) × (n ≡ 0))

-- So many tokens behind the refused word's first one; `slash` says whether a slash comes next. A
-- prefix in an address's place is refused at its slash, an address in a prefix's place at what
-- comes in place of the slash or the length, and a slash behind an address at what is no length.
abbrev pub IsPast : Form → List Word → Torn → Bool → ℕ → Type 0
IsPast f before torns.Prefix slash n =
    IsCount (CanFollow f before some_address × (CanFollow f before some_prefix → ⊥)) 1 n
IsPast f before torns.Address slash n =
    IsCount (CanFollow f before some_prefix × (CanFollow f before some_address → ⊥))
    (if slash then 2 else 1) n
IsPast f before torns.Slash slash n = IsCount (EndInAddress f before) 1 n
IsPast f before torns.Other slash n = n ≡ 0

-- the same of the first of these words, and 0 where there is none
abbrev pub IsPastFirst : Form → List Word → List Word → ℕ → Type 0
IsPastFirst f before [] n = n ≡ 0
IsPastFirst f before (w ∷ ws) n = IsPast f before (torn_of w) (begins (symbol sym.Slash) ws) n

-- the word in this place is refused
abbrev pub IsPastAt : Form → List Word → ℕ → ℕ → Type 0
IsPastAt f words place n = IsPastFirst f (take place words) (drop place words) n

-- The refusal of the word in this place, which can't stand there and begins with the token `start`,
-- unless memory ran out.
abbrev pub IsBadFrom : Form → List Word → ℕ → ℕ → SyntaxFault → Type 0
IsBadFrom f words place start (faults.Bad at) =
    (n : ℕ) × IsPastAt f words place n × (at ≡ start + n)
IsBadFrom f words place start faults.Memory = Unit {0}
IsBadFrom f words place start _ = ⊥

-- The refusal of a word that can't stand behind these and begins with the token `start`, unless
-- memory ran out.
abbrev pub IsBadBehind : Form → List Word → Tear → ℕ → SyntaxFault → Type 0
IsBadBehind f before tear start (faults.Bad at) =
    (n : ℕ) × IsPast f before tear.torn tear.slash n × (at ≡ start + n)
IsBadBehind f before tear start faults.Memory = Unit {0}
IsBadBehind f before tear start _ = ⊥
