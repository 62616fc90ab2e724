use Rattle.ast_laws.proofs.ConfigurationTrees.{one_configuration_tree}
use Rattle.ast_laws.proofs.laws.a_configuration_is_of_one_tree.Goals as goal

pub returns : goal.returns
returns c = one_configuration_tree
