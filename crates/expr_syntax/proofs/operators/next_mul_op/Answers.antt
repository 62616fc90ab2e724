use Rattle.expr_syntax.proofs.Signs.{no_mul_op}
use Rattle.expr_syntax.proofs.operators.next_mul_op.Goals as goal

pub returns-in-None : goal.returns-in-None
returns-in-None c = no_mul_op c.args.words.now c.in-None.ensures
