use Rattle.std.proofs.Common.{take}
use Rattle.room_report.specs.Inside.{Reports, mode_of}
use Rattle.room_report.proofs.modes.report_modes.Given as goal

abbrev pub invariant-loop-number : goal.invariant-loop-number
invariant-loop-number g l = Reports (mode_of l.names) (take l.number l.members) l.reports
