use Rattle.filt_sets.proofs.Meaning.{masks_join}
use Rattle.filt_sets.proofs.laws.masks_join.Goals as goal

pub returns : goal.returns
returns c = masks_join
