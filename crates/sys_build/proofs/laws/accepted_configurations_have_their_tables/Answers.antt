use Rattle.sys_build.proofs.Playable.{have_tables}
use Rattle.sys_build.proofs.laws.accepted_configurations_have_their_tables.Goals as goal

pub returns : goal.returns
returns c = have_tables c.channels_have_their_tables.ensures
