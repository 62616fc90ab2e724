use Rattle.syntax_laws.proofs.Decided.{blocks}
use Rattle.syntax_laws.proofs.statements.blocks_decide.Goals as goal

pub returns : goal.returns
returns c = blocks
