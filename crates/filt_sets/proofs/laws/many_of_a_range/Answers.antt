use Rattle.filt_sets.proofs.Meaning.{many_of_a_range}
use Rattle.filt_sets.proofs.laws.many_of_a_range.Goals as goal

pub returns : goal.returns
returns c = many_of_a_range
