use Rattle.expr_syntax.proofs.Signs.{placed_method}
use Rattle.expr_syntax.proofs.operators.method_of.Goals as goal

pub returns-in-None : goal.returns-in-None
returns-in-None c = placed_method c.args.word c.in-Placed.at c.in-Placed.symbol c.in-Placed.is c.in-None.ensures
