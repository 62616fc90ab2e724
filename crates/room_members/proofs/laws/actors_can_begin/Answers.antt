use Rattle.phase_room.proofs.Acting.{begun_can_act}
use Rattle.room_members.specs.Members.{room_seen}
use Rattle.room_members.proofs.laws.actors_can_begin.Goals as goal

pub returns : goal.returns
returns g c = λ begun passes is of_each actor mine shown at there.
    begun_can_act (room_seen g.P.Phase.terms begun.room) actor mine.items shown.items (is.hands actor mine at) (of_each actor shown there)
