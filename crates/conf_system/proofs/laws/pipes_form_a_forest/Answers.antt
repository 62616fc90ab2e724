use Rattle.conf_system.proofs.Forest.{is_forest}
use Rattle.conf_system.proofs.laws.pipes_form_a_forest.Goals as goal

pub returns : goal.returns
returns c = is_forest
