use Rattle.sys_build.proofs.Numbering.{channels_alike, protocols_alike}
use Rattle.sys_build.proofs.laws.names_count_as_the_setup.Goals as goal

pub returns-clause-protocols : goal.returns-clause-protocols
returns-clause-protocols c = protocols_alike

pub returns-clause-channels : goal.returns-clause-channels
returns-clause-channels c = channels_alike
