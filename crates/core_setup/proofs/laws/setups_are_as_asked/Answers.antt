use Rattle.core_setup.proofs.SetupRules.{setup_rules}
use Rattle.core_setup.proofs.laws.setups_are_as_asked.Goals as goal

pub returns : goal.returns
returns c = setup_rules c.levels_give_ways.ensures
