use Rattle.filt_sets.proofs.Meaning.{minus_item_takes_the_covering}
use Rattle.filt_sets.proofs.laws.minus_item_takes_the_covering.Goals as goal

pub returns : goal.returns
returns c = minus_item_takes_the_covering
