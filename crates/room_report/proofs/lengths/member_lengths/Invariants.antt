use Rattle.std.proofs.Common.{◌≡◌, take}
use Rattle.room_report.specs.Inside.{all_lengths}
use Rattle.room_report.proofs.lengths.member_lengths.Given as goal

abbrev pub invariant-loop-member : goal.invariant-loop-member
invariant-loop-member g l = l.lengths.items ≡ all_lengths (take l.member-index l.members)
