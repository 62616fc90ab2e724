use Rattle.phase_room.proofs.Standing.{are_together, can_export}
use Rattle.phase_room.proofs.laws.channels_can_begin.Goals as goal

pub returns-clause-begins : goal.returns-clause-begins
returns-clause-begins g c = λ phase number table exports exporter here cursor marks t s seats.
    can_export g.J.Judge.verdict phase number table exports exporter here cursor marks t s seats

pub returns-clause-together : goal.returns-clause-together
returns-clause-together g c = λ phase number table exports exporter here cursor marks port turns stamp t s seats own same.
    are_together g.J.Judge.verdict phase number table exports exporter here cursor marks t s seats port turns stamp own.port same
