use Rattle.std.proofs.Common.{◌≡◌, map, take}
use Rattle.room_report.specs.Behind.{numbers_in}
use Rattle.room_report.proofs.numbers.note_numbers.Given as goal

abbrev pub invariant-loop-member : goal.invariant-loop-member
invariant-loop-member g l = l.numbers.items ≡ map numbers_in (take l.member-index l.members)
