use Rattle.expr_syntax.proofs.Signs.{no_logical_op}
use Rattle.expr_syntax.proofs.operators.next_logical_op.Goals as goal

pub returns-in-None : goal.returns-in-None
returns-in-None c = no_logical_op c.args.words.now c.in-None.ensures
