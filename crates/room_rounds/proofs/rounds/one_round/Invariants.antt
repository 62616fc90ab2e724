use Rattle.std.proofs.Common.{◌≡◌, ◌++◌, List}
use Rattle.std.specs.List.{AllByRecursion}
use Rattle.phase_legal.specs.Shown.{AreBeside}
use Rattle.pipe_rest.specs.Later.{CanSettle, IsLaterMember}
use Rattle.pipe_rest.specs.declared.member.MemberLeft.{MemberLeft}
use Rattle.room_rounds.proofs.rounds.one_round.Given as goal

abbrev pub invariant-loop-member : goal.invariant-loop-member
invariant-loop-member g l = record {
  rest : AllByRecursion (CanSettle g.J.Judge.verdict l.fn.tables.items l.fn.sources) l.member-iterator.rest.items;
  done : List (MemberLeft g.row.J.Denot);
  all : done ++ l.member-iterator.rest.items ≡ l.fn.members.items;
  beside : AreBeside (IsLaterMember g.J.Judge.verdict l.fn.sources) done l.all.items;
}
