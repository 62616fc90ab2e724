use Rattle.channel_turns.proofs.Going.{goes_then, held_on}
use Rattle.channel_turns.proofs.serving.take_often.Goals as goal

pub take_turn-requires : goal.take_turn-requires
take_turn-requires g c = record { held = held_on g.J.Judge.verdict c.args.state.now c.loop-turn.state c.loop-turn.invariant c.requires.held }

pub loop-turn-preserved : goal.loop-turn-preserved
loop-turn-preserved g c = goes_then g.J.Judge.verdict c.args.state.now c.loop-turn.state c.take_turn.new.self c.loop-turn.invariant c.take_turn.ensures.goes

pub returns-in_err-take_turn : goal.returns-in_err-take_turn
returns-in_err-take_turn g c = record { goes = goes_then g.J.Judge.verdict c.args.state.now c.loop-turn.state c.take_turn.new.self c.loop-turn.invariant c.take_turn.ensures.goes }

pub returns-then-not-branch : goal.returns-then-not-branch
returns-then-not-branch g c = record { goes = goes_then g.J.Judge.verdict c.args.state.now c.loop-turn.state c.take_turn.new.self c.loop-turn.invariant c.take_turn.ensures.goes }
