use Rattle.expr_syntax.proofs.Signs.{no_property}
use Rattle.expr_syntax.proofs.operators.next_property.Goals as goal

pub returns-in-None : goal.returns-in-None
returns-in-None c = no_property c.args.words.now c.in-None.ensures
