use Rattle.expr_syntax.proofs.Signs.{no_add_op}
use Rattle.expr_syntax.proofs.operators.next_add_op.Goals as goal

pub returns-in-None : goal.returns-in-None
returns-in-None c = no_add_op c.args.words.now c.in-None.ensures
