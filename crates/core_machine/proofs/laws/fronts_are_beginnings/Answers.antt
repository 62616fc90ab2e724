use Rattle.core_machine.proofs.Beginnings.{front_begins}
use Rattle.core_machine.proofs.laws.fronts_are_beginnings.Goals as goal

pub returns : goal.returns
returns c = front_begins
