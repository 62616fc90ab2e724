-- What stands at a token of a text (`ParsesAtToken`), or at which token it is refused
-- (`IsRefusedIn`): `Parse` and `RefusedToken` by the tokens of conf_lex.
-- Not modelled: the bytes of tokens, and when memory runs out.
-- From: BIRD User's Guide, "Filters", for the forms; the places are own.
-- Example: `[10.0.0.0]` is refused at its third token.
use Rattle.std.specs.Prelude.{◌≡◌, ℕ, ◌+◌, List, length, map, drop, slice_index_or}
use Rattle.conf_lex.specs.Words.{words_from}
use Rattle.conf_scan.specs.declared.token.Token.{Token}
use Rattle.conf_lex.specs.declared.word.Word.{Word}
use Rattle.conf_lex.specs.Grammar.{ParseTree}
use Rattle.expr_syntax.specs.Levels.{Form}
use Rattle.filt_syntax.specs.declared.parse.SyntaxFault.{SyntaxFault}
use Rattle.filt_syntax.specs.declared.parse.SyntaxFault.TheVariants as faults
use Rattle.filt_syntax.specs.Parse.{ParsesAt, IsSyntaxFault}
use Rattle.filt_syntax.specs.RefusedToken.{IsPastAt}

-- the words of a text from a token on
abbrev pub words_behind : List ℕ → List Token → ℕ → List Word
words_behind text tokens from = map (λ word. word.1) (words_from text from 0 (drop from tokens))

-- the place of the first token of each of them
abbrev pub starts_behind : List ℕ → List Token → ℕ → List ℕ
starts_behind text tokens from = map (λ word. word.0) (words_from text from 0 (drop from tokens))

-- the place of the token with which the word in this place begins; behind the last word the end of
-- the tokens
abbrev pub token_place : List ℕ → List Token → ℕ → ℕ → ℕ
token_place text tokens from place =
    slice_index_or (starts_behind text tokens from) place (length tokens)

-- The longest sentence of the form from one token on has this tree, and ends before the other
-- token.
pub record ParsesAtToken (f : Form) (text : List ℕ) (tokens : List Token) (from : ℕ)
    (t : ParseTree) (end : ℕ) : Type 0 where
  pub place : ℕ
  pub stands : ParsesAt f (words_behind text tokens from) 0 t place
  pub ends : end ≡ token_place text tokens from place

-- the same refusal, at this place
abbrev pub moved : ℕ → SyntaxFault → SyntaxFault
moved place (faults.Bad at) = faults.Bad place
moved place (faults.TooDeep at) = faults.TooDeep place
moved place (faults.Unsupported at) = faults.Unsupported place
moved place faults.Memory = faults.Memory

-- the place of a refusal
abbrev pub place_of : SyntaxFault → ℕ
place_of (faults.Bad at) = at
place_of (faults.TooDeep at) = at
place_of (faults.Unsupported at) = at
place_of faults.Memory = 0

-- how far behind that token the refused one is; only a word that can't stand in its place is torn
abbrev pub IsPastOf : Form → List Word → SyntaxFault → ℕ → Type 0
IsPastOf f words (faults.Bad place) n = IsPastAt f words place n
IsPastOf f words _ n = n ≡ 0

-- The words are refused so, at the first token of the refused word that no sentence can have there.
pub record IsRefusedIn (f : Form) (text : List ℕ) (tokens : List Token) (from : ℕ)
    (e : SyntaxFault) : Type 0 where
  pub word_fault : SyntaxFault
  pub refused : IsSyntaxFault f (words_behind text tokens from) 0 word_fault
  pub past : ℕ
  pub is_past : IsPastOf f (words_behind text tokens from) word_fault past
  pub is : e ≡ moved (token_place text tokens from (place_of word_fault) + past) word_fault
