use Rattle.pipe_turns.proofs.Keeping.{can_on, keeps_self, keeps_then}
use Rattle.pipe_turns.proofs.serving.some_turns.Goals as goal

pub loop-turn-init : goal.loop-turn-init
loop-turn-init g c = keeps_self g.J.Judge.verdict c.args.sources.now c.args.lane

pub turn_lane-next-requires : goal.turn_lane-next-requires
turn_lane-next-requires g c = record { can = can_on g.J.Judge.verdict c.args.reads.now c.args.writes.now c.args.sources.now c.args.lane c.loop-turn.lane c.loop-turn.invariant c.requires.can }

pub loop-turn-preserved : goal.loop-turn-preserved
loop-turn-preserved g c = keeps_then g.J.Judge.verdict c.args.sources.now c.args.lane c.loop-turn.lane c.turn_lane-next.result.0 c.loop-turn.invariant c.turn_lane-next.ensures.keeps

pub returns-in-Some : goal.returns-in-Some
returns-in-Some g c = record { keeps = keeps_then g.J.Judge.verdict c.args.sources.now c.args.lane c.loop-turn.lane c.turn_lane-next.result.0 c.loop-turn.invariant c.turn_lane-next.ensures.keeps }

pub returns-in-Err : goal.returns-in-Err
returns-in-Err g c = record { keeps = keeps_then g.J.Judge.verdict c.args.sources.now c.args.lane c.loop-turn.lane c.turn_lane-next.result.0 c.loop-turn.invariant c.turn_lane-next.ensures.keeps }
