use Rattle.syntax_laws.proofs.StatementsTold.{block_of}
use Rattle.syntax_laws.proofs.statements.each_tree_is_of_a_block.Goals as goal

pub returns : goal.returns
returns c = block_of
