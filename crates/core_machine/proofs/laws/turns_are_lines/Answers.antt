use Rattle.core_machine.proofs.Beginnings.{turn_played}
use Rattle.core_machine.proofs.laws.turns_are_lines.Goals as goal

pub returns : goal.returns
returns c = turn_played
