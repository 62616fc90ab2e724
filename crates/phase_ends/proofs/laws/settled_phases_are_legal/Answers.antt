use Rattle.phase_ends.proofs.Settling.{settled_is_legal}
use Rattle.phase_ends.proofs.laws.settled_phases_are_legal.Goals as goal

pub returns : goal.returns
returns c = settled_is_legal
