use Rattle.filt_sets.proofs.Meaning.{plus_item_takes_the_covered}
use Rattle.filt_sets.proofs.laws.plus_item_takes_the_covered.Goals as goal

pub returns : goal.returns
returns c = plus_item_takes_the_covered
