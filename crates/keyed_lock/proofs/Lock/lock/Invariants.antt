use Rattle.std.proofs.Common.{◌<◌}
use Rattle.keyed_lock.proofs.Lock.lock.Given as goal

abbrev pub invariant-loop : goal.invariant-loop
invariant-loop g l = 0 < l.mark
