use Rattle.std.proofs.Common.{◌≡◌, reverse, take}
use Rattle.room_members.specs.Members.{room_seen}
use Rattle.phase_actors.specs.Acting.{IsDoing, IsSeated}
use Rattle.room_actors.proofs.acting.act.Given as goal

abbrev pub invariant-loop-index : goal.invariant-loop-index
invariant-loop-index g l =
    (l.actor.number ≡ l.fn.actor.number)
    × IsSeated (room_seen g.P.Phase.terms l.room) l.actor
    × IsDoing (g.P.Phase.terms l.room.played.value).setup (room_seen g.P.Phase.terms l.room) (reverse (take l.index (g.P.Phase.terms l.room.played.value).lines)) l.actor
