use Rattle.conf_lex.proofs.Symbols.{plain_alone}
use Rattle.expr_syntax.proofs.operators.plain_symbol.Goals as goal

pub returns-in_default : goal.returns-in_default
returns-in_default c = plain_alone c.args.word c.in_default.not-Symbol
