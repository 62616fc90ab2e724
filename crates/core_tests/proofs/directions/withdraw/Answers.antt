use Rattle.std.proofs.Common.{None}
use Rattle.core_tests.proofs.Steps.{flushed_every}
use Rattle.core_tests.proofs.directions.withdraw.Goals as goal

pub returns-clause-every : goal.returns-clause-every
returns-clause-every c = flushed_every _ _ _ None None c.in_ok-pushed.ensures.flushes c.requires.every
