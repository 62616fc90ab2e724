use Rattle.core_machine.proofs.OneState.{played}
use Rattle.core_machine.proofs.laws.scripts_are_played.Goals as goal

pub returns : goal.returns
returns c = played
