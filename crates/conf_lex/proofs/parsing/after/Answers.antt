use Rattle.conf_lex.proofs.Symbols.{after_some}
use Rattle.conf_lex.proofs.parsing.after.Goals as goal

pub returns-in-Some : goal.returns-in-Some
returns-in-Some c = rw c.then_some.ensures (after_some c.args.words.now c.args.wanted c.in-Some.word c.in-Some.rest c.is_symbol.result c.requires c.in-Some.ensures c.is_symbol.ensures)
