use Rattle.syntax_laws.proofs.ExpressionsFit.{expressions_fit}
use Rattle.syntax_laws.proofs.expressions.expressions_decide.Goals as goal

pub returns : goal.returns
returns c = expressions_fit
