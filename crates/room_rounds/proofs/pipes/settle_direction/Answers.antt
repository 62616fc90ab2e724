use Rattle.room_rounds.proofs.Moving.{keeps_behind}
use Rattle.room_rounds.proofs.pipes.settle_direction.Goals as goal

pub returns-in-Ok : goal.returns-in-Ok
returns-in-Ok g c =
    let passed = c.pass_closed.ensures in
    keeps_behind g.J.Judge.verdict c.args.sources.now c.args.lane c.settle_lane-lane.result.0 c.pass_closed.new.state c.settle_lane-lane.ensures.keeps passed.goes passed.flush passed.log passed.marks
