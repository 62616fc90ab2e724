use Rattle.phase_room.proofs.Beginning.{part_can_import}
use Rattle.phase_room.proofs.begin.begin_import.Goals as goal

pub lock_import-requires : goal.lock_import-requires
lock_import-requires g c =
    part_can_import g.J.Judge.verdict (g.P.Phase.terms c.args.played.now) c.requires.part.0 c.requires.part.1 c.args.part c.requires.part.2 c.args.hands c.in_ok-turns.turns c.args.stamp
    c.in_ok-turns.ensures.terms c.requires.hands c.in_ok-turns.ensures.unturned c.requires.unused
