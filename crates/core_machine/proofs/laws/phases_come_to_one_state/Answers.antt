use Rattle.core_machine.proofs.OneState.{one_state}
use Rattle.core_machine.proofs.laws.phases_come_to_one_state.Goals as goal

pub returns : goal.returns
returns c = one_state
