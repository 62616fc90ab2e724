use Rattle.std.proofs.Common.{◌≡◌, take}
use Rattle.room_report.specs.Inside.{replies_told}
use Rattle.room_report.proofs.replies.report_replies.Given as goal

abbrev pub invariant-loop-number : goal.invariant-loop-number
invariant-loop-number l = l.reports ≡ replies_told l.tables l.actors 0 (take l.number l.told)
