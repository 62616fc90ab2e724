use Rattle.conf_system.proofs.Few.{have_few}
use Rattle.conf_system.proofs.laws.configurations_have_few_protocols.Goals as goal

pub returns : goal.returns
returns c = have_few
