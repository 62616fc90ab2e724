use Rattle.std.proofs.Common.{take}
use Rattle.core_setup.specs.Pairs.{Pairs}
use Rattle.sys_run.specs.Phase.{IsLogOf}
use Rattle.sys_run.proofs.phase.report_logs.Given as goal

abbrev pub invariant-loop-number : goal.invariant-loop-number
invariant-loop-number g l = Pairs (IsLogOf l.names l.logged) 0 (take l.number l.channels) l.reports
