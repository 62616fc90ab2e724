-- For private contracts alone: what the form of an option owes to the loop that reads options.
use Rattle.std.specs.Prelude.{◌≡◌, false, refl}
use Rattle.conf_lex.specs.declared.symbol.Symbol.TheVariants as sym
use Rattle.conf_lex.specs.declared.word.Word.TheVariants as words
use Rattle.conf_lex.specs.Kind.{kind_of}
use Rattle.conf_lex.specs.Grammar.{Seq, first_set, nullable}
use Rattle.expr_syntax.specs.Syntax.{semicolon}
use Rattle.expr_syntax.specs.Levels.{Form}
use Rattle.expr_syntax.proofs.Tested.{is_checked}
use Rattle.conf_syntax.specs.Syntax.{ended_options, channel_option, static_option, bgp_option}
use Rattle.conf_syntax.specs.Syntax.{pipe_option}

-- it passes the grammar's test, also in a row, and a closing brace begins none
pub record IsOption (item : Form) : Type 0 where
  pub row : is_checked (ended_options item)
  pub ended : is_checked (Seq item semicolon)
  pub alone : is_checked item
  pub full : nullable item ≡ false
  pub shut : first_set item (kind_of (words.Symbol sym.CloseBrace)) ≡ false

pub channel_option_is : IsOption channel_option
channel_option_is = record { row = refl; ended = refl; alone = refl; full = refl; shut = refl }

pub static_option_is : IsOption static_option
static_option_is = record { row = refl; ended = refl; alone = refl; full = refl; shut = refl }

pub bgp_option_is : IsOption bgp_option
bgp_option_is = record { row = refl; ended = refl; alone = refl; full = refl; shut = refl }

pub pipe_option_is : IsOption pipe_option
pipe_option_is = record { row = refl; ended = refl; alone = refl; full = refl; shut = refl }
