use Rattle.std.proofs.Common.{subst, ◌∙◌}
use Rattle.channel_turns.specs.Turns.{Does}
use Rattle.channel_turns.proofs.Going.{goes_then, here_on, kind_on}
use Rattle.channel_turns.proofs.Resting.{rests_unfed}
use Rattle.channel_turns.proofs.settling.settle.Goals as goal

pub turn_channel-requires-clause-kind : goal.turn_channel-requires-clause-kind
turn_channel-requires-clause-kind g c = kind_on g.J.Judge.verdict c.args.state.now c.loop.state c.loop.invariant.0 c.requires.kind

pub turn_channel-requires-clause-here : goal.turn_channel-requires-clause-here
turn_channel-requires-clause-here g c = here_on g.J.Judge.verdict c.args.state.now c.loop.state c.loop.invariant.0 c.requires.kind ∙ c.requires.here

pub loop-preserved : goal.loop-preserved
loop-preserved g c = (goes_then g.J.Judge.verdict c.args.state.now c.loop.state c.turn_channel.new.state c.loop.invariant.0 c.turn_channel.ensures.goes, c.turn_channel.ensures.marks ∙ c.loop.invariant.1)

pub returns-in_err-turn_channel-clause-goes : goal.returns-in_err-turn_channel-clause-goes
returns-in_err-turn_channel-clause-goes g c = goes_then g.J.Judge.verdict c.args.state.now c.loop.state c.turn_channel.new.state c.loop.invariant.0 c.turn_channel.ensures.goes

pub returns-in-Nothing-clause-goes : goal.returns-in-Nothing-clause-goes
returns-in-Nothing-clause-goes g c = goes_then g.J.Judge.verdict c.args.state.now c.loop.state c.turn_channel.new.state c.loop.invariant.0 c.turn_channel.ensures.goes

pub returns-in_err-turn_channel-clause-marks : goal.returns-in_err-turn_channel-clause-marks
returns-in_err-turn_channel-clause-marks g c = c.turn_channel.ensures.marks ∙ c.loop.invariant.1

pub returns-in-Nothing-clause-marks : goal.returns-in-Nothing-clause-marks
returns-in-Nothing-clause-marks g c = c.turn_channel.ensures.marks ∙ c.loop.invariant.1

pub returns-in-Nothing-clause-fed : goal.returns-in-Nothing-clause-fed
returns-in-Nothing-clause-fed g c =
    rests_unfed c.turn_channel.new.state (subst (λ z. Does g.J.Judge.verdict c.loop.state c.turn_channel.new.state z) c.in-Nothing.is c.in_ok-turn_channel.ensures.did).1
