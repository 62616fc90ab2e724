use Rattle.core_machine.proofs.PhaseEnds.{comes_ends}
use Rattle.core_machine.proofs.laws.channels_are_settled.Goals as goal

pub returns : goal.returns
returns c = comes_ends
