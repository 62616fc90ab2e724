use Rattle.std.proofs.Common.{true}
use Rattle.phase_pipes.proofs.Owing.{has_entered, is_marked}
use Rattle.phase_pipes.proofs.laws.directions_leave_what_is_owed.Goals as goal

pub returns-clause-entered : goal.returns-clause-entered
returns-clause-entered g c = λ room history logs entries said p key reads writes direction lane ops stamp state of d left log before stood.
    has_entered g.J.Judge.verdict room history logs entries said p key of reads writes direction lane d ops stamp state left log before stood

pub returns-clause-marked : goal.returns-clause-marked
returns-clause-marked g c = λ room history logs entries said p key reads writes direction lane ops stamp state made of d left log before owner told start within signals.
    is_marked g.J.Judge.verdict room history logs entries said p key of reads writes direction lane d ops stamp state left log before
    (c.marks_are_those_of_stamps.ensures true lane.exports state.state stamp left.lane_is.1.direction.exporting left.marked.number left.told left.makers) owner told made direction.table.1.opening start within signals
