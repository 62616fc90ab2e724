use Rattle.conf_system.proofs.Accepted.{all_fit}
use Rattle.conf_system.proofs.laws.channels_have_their_tables.Goals as goal

pub returns : goal.returns
returns c = all_fit
