use Rattle.expr_syntax.proofs.Signs.{other_compare_op}
use Rattle.expr_syntax.proofs.operators.compare_op_of.Goals as goal

pub returns-in_default : goal.returns-in_default
returns-in_default c = other_compare_op c.args.symbol c.in_default.not-Equal c.in_default.not-NotEqual c.in_default.not-Less c.in_default.not-LessOrEqual c.in_default.not-Greater c.in_default.not-GreaterOrEqual c.in_default.not-Matches c.in_default.not-MatchesNot
