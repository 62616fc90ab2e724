use Rattle.conf_laws.proofs.ConfigTold.{statements_of}
use Rattle.conf_laws.proofs.readings.each_tree_is_of_a_configuration.Goals as goal

pub returns : goal.returns
returns c = statements_of
