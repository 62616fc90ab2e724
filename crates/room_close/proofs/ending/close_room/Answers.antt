use Rattle.room_close.proofs.ending.close_room.Goals as goal

pub close_members-requires : goal.close_members-requires
close_members-requires g c =
    let room = c.args.room in
    (g.P.Phase.terms room.played.value, room.tables.items, record { members_are = c.requires.room.members; hands_are = c.requires.hands })
