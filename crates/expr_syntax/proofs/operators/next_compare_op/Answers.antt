use Rattle.expr_syntax.proofs.Signs.{no_compare_op}
use Rattle.expr_syntax.proofs.operators.next_compare_op.Goals as goal

pub returns-in-None : goal.returns-in-None
returns-in-None c = no_compare_op c.args.words.now c.in-None.ensures
