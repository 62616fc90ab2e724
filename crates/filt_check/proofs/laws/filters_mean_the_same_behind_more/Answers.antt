use Rattle.filt_check.proofs.Growing.{filter_stays}
use Rattle.filt_check.proofs.laws.filters_mean_the_same_behind_more.Goals as goal

pub returns : goal.returns
returns c = filter_stays
