use Rattle.phase_room.proofs.Standing.{can_import}
use Rattle.phase_room.proofs.laws.protocols_can_begin.Goals as goal

pub returns : goal.returns
returns g c = λ phase number source table importer here port turns stamp stands seats.
    can_import g.J.Judge.verdict phase number source table importer stands here port turns stamp seats
