use Rattle.std.proofs.Common.{sym, ◌∙◌}
use Rattle.conf_lex.proofs.Symbols.{symbol_test, plain_alone}
use Rattle.conf_lex.proofs.parsing.is_symbol.Goals as goal

pub returns-in-Symbol : goal.returns-in-Symbol
returns-in-Symbol c = c.eq.ensures ∙ symbol_test c.args.word.now c.in-Symbol.symbol c.args.wanted c.in-Symbol.is c.requires

pub returns-in_default : goal.returns-in_default
returns-in_default c = sym (plain_alone c.args.word.now c.in_default.not-Symbol c.args.wanted c.requires)
