use Rattle.std.proofs.Common.{take}
use Rattle.room_report.specs.Inside.{IsLogOf, Serves}
use Rattle.room_report.proofs.logs.report_logs.Given as goal

abbrev pub invariant-loop-number : goal.invariant-loop-number
invariant-loop-number g l = Serves (IsLogOf l.names l.logged) (take l.number l.members) l.reports
