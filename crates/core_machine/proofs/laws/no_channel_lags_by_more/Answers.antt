use Rattle.core_machine.proofs.Lagging.{none_lags_more}
use Rattle.core_machine.proofs.laws.no_channel_lags_by_more.Goals as goal

pub returns : goal.returns
returns c = none_lags_more
