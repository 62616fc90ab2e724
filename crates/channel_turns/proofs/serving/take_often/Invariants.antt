use Rattle.export_lock.specs.Kept.{GoesOn}
use Rattle.channel_turns.proofs.serving.take_often.Given as goal

abbrev pub invariant-loop-turn : goal.invariant-loop-turn
invariant-loop-turn g l = GoesOn g.J.Judge.verdict l.fn.state l.state
