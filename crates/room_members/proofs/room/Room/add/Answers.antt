use Rattle.std.proofs.Common.{◌∙◌, ap, sym}
use Rattle.std.specs.Prelude.{slice_get, vec_len}
use Rattle.room_members.proofs.Rooms.{members_more}
use Rattle.room_members.proofs.room.Room.add.Goals as goal

pub returns-in_err-push-clause-room : goal.returns-in_err-push-clause-room
returns-in_err-push-clause-room g c = record {
  sources = c.requires.room.sources;
  members = λ number member at. c.requires.room.members number member (ap (λ z. slice_get z number) (sym c.in_err-push.ensures.items) ∙ at);
}

pub returns-clause-room : goal.returns-clause-room
returns-clause-room g c =
    let room = c.args.self.now in record {
      sources = c.requires.room.sources;
      members =
          members_more g.P.Phase.terms g.P.Sends.exports g.P.Sends.rules (g.P.Phase.terms room.played.value) room.tables.items room.members.items c.push.new.self.items c.args.member (vec_len room.members)
          c.requires.room.members room.members.ok.0 c.requires.member c.in_ok-push.ensures.items;
    }
