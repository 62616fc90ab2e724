use Rattle.std.proofs.Common.{take}
use Rattle.core_setup.specs.Pairs.{Pairs}
use Rattle.sys_run.specs.Phase.{IsOperationsOf}
use Rattle.sys_run.proofs.ReportingLoops.{IsEmptiedTo}
use Rattle.sys_run.proofs.phase.report_operations.Given as goal

abbrev pub invariant-loop-number : goal.invariant-loop-number
invariant-loop-number g l =
    Pairs (IsOperationsOf l.names) 0 (take l.number l.fn.protocols.items) l.reports
    × Pairs (IsEmptiedTo l.number) 0 l.fn.protocols.items l.protocols.items
