use Rattle.ast_laws.proofs.ConfigurationsBack.{one_configuration}
use Rattle.ast_laws.proofs.laws.a_tree_is_of_one_configuration.Goals as goal

pub returns : goal.returns
returns c = one_configuration
