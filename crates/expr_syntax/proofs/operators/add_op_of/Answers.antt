use Rattle.expr_syntax.proofs.Signs.{other_add_op}
use Rattle.expr_syntax.proofs.operators.add_op_of.Goals as goal

pub returns-in_default : goal.returns-in_default
returns-in_default c = other_add_op c.args.symbol c.in_default.not-Plus c.in_default.not-Minus
