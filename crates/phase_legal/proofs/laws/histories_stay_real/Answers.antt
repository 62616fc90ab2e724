use Rattle.phase_legal.proofs.Made.{real_on}
use Rattle.phase_legal.proofs.laws.histories_stay_real.Goals as goal

pub returns : goal.returns
returns c = real_on
