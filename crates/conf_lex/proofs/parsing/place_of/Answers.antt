use Rattle.conf_lex.proofs.Symbols.{other_word, placed_some}
use Rattle.conf_lex.proofs.parsing.place_of.Goals as goal

pub returns-in-Placed : goal.returns-in-Placed
returns-in-Placed c = rw c.then_some.ensures (placed_some c.args.word c.args.wanted c.in-Placed.at c.in-Placed.symbol c.eq.result c.requires c.in-Placed.is c.eq.ensures)

pub returns-in_default : goal.returns-in_default
returns-in_default c = other_word c.args.word c.args.wanted c.requires c.in_default.not-Placed
