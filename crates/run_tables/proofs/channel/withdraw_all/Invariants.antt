use Rattle.std.proofs.Common.{length}
use Rattle.run_tables.proofs.Stretches.{WithdrawnSoFar}
use Rattle.run_tables.proofs.channel.withdraw_all.Given as goal

abbrev pub decreases-loop : goal.decreases-loop
decreases-loop g l = length l.exporter.left

abbrev pub invariant-loop : goal.invariant-loop
invariant-loop g l = WithdrawnSoFar l.fn.exporter l.exporter
