use Rattle.std.proofs.Common.{◌≡◌, ◌++◌, List}
use Rattle.std.specs.List.{AllByRecursion}
use Rattle.phase_close.specs.Closed.{all_lists}
use Rattle.phase_legal.specs.Shown.{AreBeside}
use Rattle.pipe_rest.specs.declared.member.MemberLeft.{MemberLeft}
use Rattle.room_ends.specs.Ended.{CanEndMember, EndsMember}
use Rattle.room_close.proofs.seats.end_members.Given as goal

abbrev pub invariant-loop-member : goal.invariant-loop-member
invariant-loop-member g l = record {
  same : all_lists l.closings.items ≡ all_lists l.fn.closings.items;
  rest : AllByRecursion (CanEndMember g.J.Judge.verdict (all_lists l.fn.closings.items)) l.member-iterator.rest.items;
  done : List (MemberLeft g.row.J.Denot);
  all : done ++ l.member-iterator.rest.items ≡ l.fn.members.items;
  beside : AreBeside (EndsMember g.J.Judge.verdict (all_lists l.fn.closings.items)) done l.all.items;
}
