use Rattle.core_machine.proofs.OneState.{lines_played}
use Rattle.core_machine.proofs.laws.lines_are_played.Goals as goal

pub returns : goal.returns
returns c = lines_played
