use Rattle.conf_names.proofs.Joins.{bridge}
use Rattle.conf_names.proofs.laws.pipes_of_a_forest_are_bridges.Goals as goal

pub returns : goal.returns
returns c front back p h = bridge front back p h
