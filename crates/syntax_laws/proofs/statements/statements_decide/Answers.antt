use Rattle.syntax_laws.proofs.Decided.{statements}
use Rattle.syntax_laws.proofs.statements.statements_decide.Goals as goal

pub returns : goal.returns
returns c = statements
