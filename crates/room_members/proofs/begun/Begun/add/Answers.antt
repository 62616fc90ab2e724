use Rattle.std.proofs.Common.{map, ap, ◌∙◌, [], ◌∷◌}
use Rattle.std.proofs.lemmas.List.{map-append}
use Rattle.phase_room.specs.Begun.{IsNewHand}
use Rattle.phase_room.proofs.Dealing.{of_each_more}
use Rattle.room_members.specs.Members.{turns_of}
use Rattle.room_members.proofs.begun.Begun.add.Goals as goal

pub returns-clause-begun : goal.returns-clause-begun
returns-clause-begun g c =
    let old = c.args.self.now in
    let members = old.room.members.items in record {
      room = c.add.ensures.room;
      hands = of_each_more IsNewHand (map (turns_of g.P.Phase.terms) members) (map (turns_of g.P.Phase.terms) c.add.new.self.members.items)
          (turns_of g.P.Phase.terms c.args.member) old.hands.items c.push_each.new.lists.items c.args.hands.items c.in_ok-push_each.ensures c.requires.begun.hands c.requires.count
          (λ actor hand at. let made = c.requires.hands actor hand at in (made.0, made.1, made.2))
          (ap (map (turns_of g.P.Phase.terms)) c.in_ok-add.ensures.added ∙ map-append (turns_of g.P.Phase.terms) members (c.args.member ∷ []));
    }
