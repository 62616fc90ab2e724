use Rattle.sys_build.proofs.Playable.{kinds_are}
use Rattle.sys_build.proofs.laws.kinds_are_those_of_the_setup.Goals as goal

pub returns : goal.returns
returns c = kinds_are c.channels_have_their_tables.ensures
