use Rattle.expr_syntax.proofs.Signs.{other_logical_op}
use Rattle.expr_syntax.proofs.operators.logical_op_of.Goals as goal

pub returns-in_default : goal.returns-in_default
returns-in_default c = other_logical_op c.args.symbol c.in_default.not-And c.in_default.not-Or
