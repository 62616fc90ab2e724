use Rattle.std.proofs.Common.{◌∙◌}
use Rattle.channel_turns.proofs.Going.{goes_then, here_on, kind_on}
use Rattle.channel_turns.proofs.serving.turn_often.Goals as goal

pub turn_once-requires-clause-kind : goal.turn_once-requires-clause-kind
turn_once-requires-clause-kind g c = kind_on g.J.Judge.verdict c.args.state.now c.loop-turn.state c.loop-turn.invariant c.requires.kind

pub turn_once-requires-clause-here : goal.turn_once-requires-clause-here
turn_once-requires-clause-here g c = here_on g.J.Judge.verdict c.args.state.now c.loop-turn.state c.loop-turn.invariant c.requires.kind ∙ c.requires.here

pub loop-turn-preserved : goal.loop-turn-preserved
loop-turn-preserved g c = goes_then g.J.Judge.verdict c.args.state.now c.loop-turn.state c.turn_once.new.state c.loop-turn.invariant c.turn_once.ensures.goes

pub returns-in_err-turn_once : goal.returns-in_err-turn_once
returns-in_err-turn_once g c = record { goes = goes_then g.J.Judge.verdict c.args.state.now c.loop-turn.state c.turn_once.new.state c.loop-turn.invariant c.turn_once.ensures.goes }

pub returns-then-not-branch : goal.returns-then-not-branch
returns-then-not-branch g c = record { goes = goes_then g.J.Judge.verdict c.args.state.now c.loop-turn.state c.turn_once.new.state c.loop-turn.invariant c.turn_once.ensures.goes }
