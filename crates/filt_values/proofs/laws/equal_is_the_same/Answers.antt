use Rattle.filt_values.proofs.Meanings.{equal_same}
use Rattle.filt_values.proofs.laws.equal_is_the_same.Goals as goal

pub returns : goal.returns
returns c = equal_same
