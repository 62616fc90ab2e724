use Rattle.std.proofs.Common.{None}
use Rattle.core_tests.proofs.Steps.{pushed_every}
use Rattle.core_tests.proofs.directions.push.Goals as goal

pub returns-clause-every : goal.returns-clause-every
returns-clause-every c = pushed_every _ _ _ _ None None c.in_ok-pushed.ensures.pushes c.requires.every
