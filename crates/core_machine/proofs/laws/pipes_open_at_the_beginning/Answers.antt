use Rattle.core_machine.proofs.Beginnings.{pipe_opens}
use Rattle.core_machine.proofs.laws.pipes_open_at_the_beginning.Goals as goal

pub returns : goal.returns
returns c = pipe_opens
