use Rattle.std.proofs.Common.{◌≡◌, ◌++◌, List, length}
use Rattle.core_setup.specs.Pairs.{Pairs}
use Rattle.room_ends.specs.declared.ended.MemberEnded.{MemberEnded}
use Rattle.room_report.specs.Inside.{IsMemberBehind}
use Rattle.room_report.proofs.standing.members_after.Given as goal

abbrev pub invariant-loop-member : goal.invariant-loop-member
invariant-loop-member g l = record {
  done : List (MemberEnded g.row.J.Denot);
  all : done ++ l.member-iterator.rest.items ≡ l.fn.members.items;
  place_is : l.place ≡ length done;
  stands : Pairs (IsMemberBehind l.numbers) 0 done l.stands.items;
}
