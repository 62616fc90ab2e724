use Rattle.core_machine.proofs.PhaseEnds.{legal}
use Rattle.core_machine.proofs.laws.phases_are_legal.Goals as goal

pub returns : goal.returns
returns c = legal
