use Rattle.pipe_turns.specs.Turns.{KeepsLane}
use Rattle.pipe_turns.proofs.settling.settle_lane.Given as goal

abbrev pub invariant-loop : goal.invariant-loop
invariant-loop g l = KeepsLane g.J.Judge.verdict l.fn.sources l.fn.lane l.lane
