use Rattle.std.proofs.Common.{take}
use Rattle.room_report.specs.Inside.{Reports, journal_of}
use Rattle.room_report.proofs.journals.report_journals.Given as goal

abbrev pub invariant-loop-number : goal.invariant-loop-number
invariant-loop-number l = Reports (journal_of l.tables) (take l.number l.phases) l.reports
