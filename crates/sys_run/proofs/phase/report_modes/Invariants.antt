use Rattle.std.proofs.Common.{take}
use Rattle.core_setup.specs.Pairs.{Pairs}
use Rattle.sys_run.specs.Phase.{IsModeOf}
use Rattle.sys_run.proofs.phase.report_modes.Given as goal

abbrev pub invariant-loop-number : goal.invariant-loop-number
invariant-loop-number g l = Pairs (IsModeOf l.names) 0 (take l.number l.protocols) l.reports
