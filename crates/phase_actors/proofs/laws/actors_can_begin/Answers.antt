use Rattle.phase_actors.proofs.Doing.{done_nothing}
use Rattle.phase_actors.proofs.laws.actors_can_begin.Goals as goal

pub returns : goal.returns
returns c = done_nothing
