use Rattle.phase_legal.proofs.Stamping.{new_stamp}
use Rattle.phase_legal.proofs.laws.new_ups_are_right.Goals as goal

pub returns : goal.returns
returns c = new_stamp
