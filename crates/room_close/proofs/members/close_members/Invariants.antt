use Rattle.std.proofs.Common.{◌≡◌, ◌≤◌, ◌++◌, ℕ, List, length}
use Rattle.std.specs.Prelude.{slice_get}
use Rattle.room_ends.specs.Left.{AreMembersLeft}
use Rattle.room_close.proofs.members.close_members.Given as goal
use Rattle.room_members.specs.declared.member.Member.{Member}

abbrev pub invariant-loop-member : goal.invariant-loop-member
invariant-loop-member g l = record {
  done : List (Member g.row.J.Denot g.row.P.Denot);
  all : done ++ l.member-iterator.rest.items ≡ l.fn.members.items;
  place_is : l.place ≡ length done;
  many : length l.hands.items ≡ length l.fn.hands.items;
  later : (k : ℕ) → length done ≤ k → slice_get l.hands.items k ≡ slice_get l.fn.hands.items k;
  left : AreMembersLeft g.P.Phase.terms g.P.Sends.exports g.P.Sends.rules g.J.Judge.verdict done l.fn.hands.items l.lefts.items;
}
