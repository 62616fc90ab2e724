use Rattle.std.proofs.Common.{take}
use Rattle.core_setup.specs.Pairs.{Pairs}
use Rattle.sys_run.specs.Phase.{IsExportOf}
use Rattle.sys_run.proofs.phase.report_exports.Given as goal

abbrev pub invariant-loop-number : goal.invariant-loop-number
invariant-loop-number g l = Pairs (IsExportOf g.J.Judge.verdict l.names) 0 (take l.number l.channels) l.reports
