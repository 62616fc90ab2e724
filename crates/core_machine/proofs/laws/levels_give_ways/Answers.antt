use Rattle.core_machine.proofs.Levels.{are_ways}
use Rattle.core_machine.proofs.laws.levels_give_ways.Goals as goal

pub returns : goal.returns
returns c = are_ways
