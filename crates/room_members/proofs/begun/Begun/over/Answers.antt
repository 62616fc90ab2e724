use Rattle.std.proofs.Common.{map, ap}
use Rattle.phase_room.specs.Begun.{IsNewHand}
use Rattle.phase_room.proofs.Dealing.{of_each_none}
use Rattle.room_members.specs.Members.{turns_of}
use Rattle.room_members.proofs.begun.Begun.over.Goals as goal

pub returns-clause-begun : goal.returns-clause-begun
returns-clause-begun g c = record {
  room = c.over-room.ensures.room;
  hands = of_each_none IsNewHand (map (turns_of g.P.Phase.terms) c.over-room.result.members.items) c.in_ok-hands.hands.items
      (ap (map (turns_of g.P.Phase.terms)) c.over-room.ensures.members) c.in_ok-hands.ensures.empty;
}
