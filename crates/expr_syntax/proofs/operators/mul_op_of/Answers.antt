use Rattle.expr_syntax.proofs.Signs.{other_mul_op}
use Rattle.expr_syntax.proofs.operators.mul_op_of.Goals as goal

pub returns-in_default : goal.returns-in_default
returns-in_default c = other_mul_op c.args.symbol c.in_default.not-Star c.in_default.not-Slash
