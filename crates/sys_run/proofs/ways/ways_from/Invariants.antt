use Rattle.sys_run.specs.Made.{AreFound, found_from}
use Rattle.sys_run.proofs.ways.ways_from.Given as goal

abbrev pub invariant-loop-len : goal.invariant-loop-len
invariant-loop-len l = AreFound l.tables l.found.items (found_from l.directions l.home l.len)
