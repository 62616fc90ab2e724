use Rattle.core_machine.proofs.Bound.{bound}
use Rattle.core_machine.proofs.laws.rounds_are_few.Goals as goal

pub returns : goal.returns
returns c = bound
