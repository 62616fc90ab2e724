use Rattle.pipe_turns.specs.Turns.{KeepsLane}
use Rattle.pipe_turns.proofs.serving.some_turns.Given as goal

abbrev pub invariant-loop-turn : goal.invariant-loop-turn
invariant-loop-turn g l = KeepsLane g.J.Judge.verdict l.fn.sources l.fn.lane l.lane
