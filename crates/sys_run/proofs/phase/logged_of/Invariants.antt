use Rattle.std.proofs.Common.{◌≡◌, map, take}
use Rattle.sys_run.specs.Phase.{logged_in}
use Rattle.sys_run.proofs.phase.logged_of.Given as goal

abbrev pub invariant-loop-channel : goal.invariant-loop-channel
invariant-loop-channel g l = l.logged.items ≡ map (logged_in l.first) (take l.channel-index l.channels)
