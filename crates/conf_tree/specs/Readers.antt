-- For private contracts alone: reading each form of the configuration, where k more levels may be
-- opened; the forms are those of Syntax.
use Rattle.std.specs.Prelude.{◌≡◌, ℕ, ◌+◌, List, [], ◌∷◌, ◌++◌, length, None}
use Rattle.conf_lex.specs.declared.symbol.Symbol.{Symbol}
use Rattle.conf_lex.specs.declared.symbol.Symbol.TheVariants as sym
use Rattle.conf_lex.specs.declared.word.Word.{Word}
use Rattle.conf_lex.specs.Kind.{symbol}
use Rattle.conf_lex.specs.Grammar.{Why, Bad, ParseTree, Pair, Left, first_set, yield, too_deep}
use Rattle.conf_lex.specs.Grammar.{DerivesLongest}
use Rattle.conf_lex.specs.Reading.{Read, Reader, Parsed, Failed, and_then, word, both, all_turns}
use Rattle.conf_lex.specs.Reading.{read}
use Rattle.expr_syntax.specs.Syntax.{optional, rule}
use Rattle.expr_syntax.specs.Levels.{Form}
use Rattle.filt_syntax.specs.StatementReaders.{block_at}
use Rattle.conf_syntax.specs.Syntax.{policy, channel_option}
use Rattle.conf_syntax.specs.Syntax.{channel, static_option, bgp_option}
use Rattle.conf_syntax.specs.Syntax.{pipe_option, parameter, parameters, gives, protocol_of}
use Rattle.conf_syntax.specs.Syntax.{statement, config}
use Rattle.conf_syntax.specs.Readers.{}
use Rattle.conf_lex.specs.Sentences.{IsTooDeep}
use Rattle.conf_tree.specs.declared.read.Refused.{Refused}
use Rattle.conf_tree.specs.declared.read.Refused.TheVariants as refusals
use Rattle.conf_tree.specs.Sentence.{IsSentence, IsStop}

unfoldable pub policy_at : ℕ → Reader
policy_at k = read rule k policy

unfoldable pub channel_option_at : ℕ → Reader
channel_option_at k = read rule k channel_option

unfoldable pub channel_at : ℕ → Reader
channel_at k = read rule k channel

unfoldable pub static_option_at : ℕ → Reader
static_option_at k = read rule k static_option

unfoldable pub bgp_option_at : ℕ → Reader
bgp_option_at k = read rule k bgp_option

unfoldable pub pipe_option_at : ℕ → Reader
pipe_option_at k = read rule k pipe_option

-- a protocol of this kind and these options
unfoldable pub protocol_at : Symbol → Form → ℕ → Reader
protocol_at kind item k = read rule k (protocol_of kind item)

unfoldable pub parameter_at : ℕ → Reader
parameter_at k = read rule k parameter

-- parameters, or nothing
unfoldable pub parameters_at : ℕ → Reader
parameters_at k = read rule k (optional parameters)

-- one or more parameters, as what may be left out
unfoldable pub some_parameters_at : ℕ → Reader
some_parameters_at k ws = and_then (read rule k parameters ws) (λ t rest. Parsed (Left t) rest)

-- a part before two others, joined to the first of them or not
abbrev pub regroup : ParseTree → ParseTree → ParseTree
regroup (Pair a c) t = Pair a (Pair c t)
regroup a t = t

-- "->" and a type, or nothing
unfoldable pub gives_at : ℕ → Reader
gives_at k = read rule k (optional gives)

unfoldable pub statement_at : ℕ → Reader
statement_at k = read rule k statement

-- statements after a tree
unfoldable pub statement_row_at : ℕ → ParseTree → Reader
statement_row_at k = all_turns (first_set statement) (statement_at k)

unfoldable pub config_at : ℕ → Reader
config_at k = read rule k config

-- where words are left that begin no statement, the first of them is refused
abbrev pub to_the_end : ParseTree → List Word → Read
to_the_end t [] = Parsed t []
to_the_end t (w ∷ ws) = Failed Bad (w ∷ ws)

-- a configuration to the end of the words
unfoldable pub whole_at : ℕ → Reader
whole_at k ws = and_then (config_at k ws) to_the_end

-- behind the parenthesis that opens parameters
abbrev pub signature_at : ℕ → Reader
signature_at k ws = and_then (both (parameters_at 0) (word (symbol sym.CloseParenthesis)) ws)
    (λ h v. and_then (both (gives_at 0) (block_at k) v) (λ b z. Parsed (regroup h b) z))

-- ---- the refused word

-- The words but the last so many are statements, and what is refused of the words is refused of the
-- last ones alone.
pub record EndsInLast (k : ℕ) (words : List Word) (left : ℕ) : Type 0 where
  pub front : List Word
  pub last : List Word
  pub tree : ParseTree
  pub cut : words ≡ front ++ last
  pub count : length last ≡ left
  pub fits : DerivesLongest rule tree config
  pub whole : yield tree ≡ front
  pub levels : too_deep tree k ≡ None
  pub alone : (why : Why) (rest : List Word) → whole_at k words ≡ Failed why rest
      → whole_at k last ≡ Failed why rest

-- The word in the one place of these can't stand there. The words before the other place are
-- statements, and of those from it on alone the same word can't stand.
pub record StopsIn (words : List Word) (from place : ℕ) : Type 0 where
  pub front : List Word
  pub last : List Word
  pub rest : List Word
  pub tree : ParseTree
  pub cut : words ≡ front ++ last
  pub before : length front ≡ from
  pub complete : IsSentence front tree
  pub at : place + length rest ≡ length words
  pub stop : IsStop words rest
  pub stops : IsStop last rest

-- the word in this place of these opens the 65th level
abbrev pub IsTooDeepAt : List Word → ℕ → Type 0
IsTooDeepAt words place =
    (rest : List Word) × (place + length rest ≡ length words) × IsTooDeep rule 64 config words rest

abbrev pub IsRefusedAt : List Word → Refused → Type 0
IsRefusedAt words (refusals.Bad from at) = StopsIn words from at
IsRefusedAt words (refusals.TooDeep at) = IsTooDeepAt words at
IsRefusedAt words refusals.Memory = Unit {0}
