use Rattle.ast_laws.proofs.StatementsBack.{one_block}
use Rattle.ast_laws.proofs.laws.a_tree_is_of_one_block.Goals as goal

pub returns : goal.returns
returns c = one_block
