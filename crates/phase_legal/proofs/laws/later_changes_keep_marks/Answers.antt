use Rattle.phase_legal.proofs.Stamping.{stamps_stay}
use Rattle.phase_legal.proofs.laws.later_changes_keep_marks.Goals as goal

pub returns : goal.returns
returns c = stamps_stay
