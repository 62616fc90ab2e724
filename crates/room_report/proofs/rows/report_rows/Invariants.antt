use Rattle.std.proofs.Common.{take}
use Rattle.room_report.specs.Inside.{Reports, rows_of}
use Rattle.room_report.proofs.rows.report_rows.Given as goal

abbrev pub invariant-loop-number : goal.invariant-loop-number
invariant-loop-number l = Reports (rows_of l.tables) (take l.number l.phases) l.reports
