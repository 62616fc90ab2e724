use Rattle.std.proofs.Common.{take}
use Rattle.room_report.specs.Inside.{IsExportOf, Serves}
use Rattle.room_report.proofs.exports.report_exports.Given as goal

abbrev pub invariant-loop-number : goal.invariant-loop-number
invariant-loop-number g l = Serves (IsExportOf l.names) (take l.number l.members) l.reports
