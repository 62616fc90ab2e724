use Rattle.ast_laws.proofs.ExpressionsBack.{one_tree}
use Rattle.ast_laws.proofs.laws.an_expression_is_of_one_tree.Goals as goal

pub returns : goal.returns
returns c = one_tree
