use Rattle.ast_laws.proofs.StatementsBack.{one_block_tree}
use Rattle.ast_laws.proofs.laws.a_block_is_of_one_tree.Goals as goal

pub returns : goal.returns
returns c = one_block_tree
