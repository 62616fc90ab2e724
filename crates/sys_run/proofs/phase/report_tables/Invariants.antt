use Rattle.std.proofs.Common.{take}
use Rattle.core_setup.specs.Pairs.{Pairs}
use Rattle.sys_run.specs.Phase.{IsTableOf}
use Rattle.sys_run.proofs.phase.report_tables.Given as goal

abbrev pub invariant-loop-number : goal.invariant-loop-number
invariant-loop-number l = Pairs (IsTableOf l.parts) 0 (take l.number l.tables) l.reports
