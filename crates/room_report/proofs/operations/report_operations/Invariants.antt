use Rattle.std.proofs.Common.{take}
use Rattle.room_report.specs.Inside.{Reports, operations_of}
use Rattle.room_report.proofs.operations.report_operations.Given as goal

abbrev pub invariant-loop-number : goal.invariant-loop-number
invariant-loop-number g l = Reports (operations_of l.names l.lines) (take l.number l.members) l.reports
