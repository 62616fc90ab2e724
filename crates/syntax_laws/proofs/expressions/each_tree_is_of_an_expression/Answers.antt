use Rattle.syntax_laws.proofs.ExprTold.{expression_of}
use Rattle.syntax_laws.proofs.expressions.each_tree_is_of_an_expression.Goals as goal

pub returns : goal.returns
returns c = expression_of
