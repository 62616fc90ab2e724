use Rattle.filt_sets.proofs.Meaning.{exact_item_takes_one}
use Rattle.filt_sets.proofs.laws.exact_item_takes_one.Goals as goal

pub returns : goal.returns
returns c = exact_item_takes_one
