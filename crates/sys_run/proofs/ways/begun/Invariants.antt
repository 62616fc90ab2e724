use Rattle.std.proofs.Common.{[]}
use Rattle.sys_run.specs.Made.{AreFound, found_from}
use Rattle.sys_run.proofs.ways.begun.Given as goal

abbrev pub invariant-loop-table : goal.invariant-loop-table
invariant-loop-table l = AreFound l.table l.found.items (found_from [] l.home 0)
