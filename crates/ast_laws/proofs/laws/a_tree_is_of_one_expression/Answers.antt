use Rattle.ast_laws.proofs.ExpressionsBack.{one_expression}
use Rattle.ast_laws.proofs.laws.a_tree_is_of_one_expression.Goals as goal

pub returns : goal.returns
returns c = one_expression
