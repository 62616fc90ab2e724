use Rattle.std.proofs.Common.{sym, subst, ◌∙◌}
use Rattle.std.specs.Prelude.{IfOk}
use Rattle.pipe_turns.specs.Turns.{Does}
use Rattle.pipe_turns.proofs.Keeping.{can_on, keeps_self, keeps_then}
use Rattle.pipe_turns.proofs.Resting.{settles_by}
use Rattle.pipe_turns.proofs.settling.settle_lane.Goals as goal

pub loop-init : goal.loop-init
loop-init g c = keeps_self g.J.Judge.verdict c.args.sources.now c.args.lane

pub turn_lane-next-requires : goal.turn_lane-next-requires
turn_lane-next-requires g c = record { can = can_on g.J.Judge.verdict c.args.reads.now c.args.writes.now c.args.sources.now c.args.lane c.loop.lane c.loop.invariant c.requires.can }

pub loop-preserved : goal.loop-preserved
loop-preserved g c = keeps_then g.J.Judge.verdict c.args.sources.now c.args.lane c.loop.lane c.turn_lane-next.result.0 c.loop.invariant c.turn_lane-next.ensures.keeps

pub returns-in-Some-ends-clause-keeps : goal.returns-in-Some-ends-clause-keeps
returns-in-Some-ends-clause-keeps g c = keeps_then g.J.Judge.verdict c.args.sources.now c.args.lane c.loop.lane c.turn_lane-next.result.0 c.loop.invariant c.turn_lane-next.ensures.keeps

pub returns-in-Some-ends-clause-settles : goal.returns-in-Some-ends-clause-settles
returns-in-Some-ends-clause-settles g c =
    settles_by g.J.Judge.verdict c.args.sources.now c.loop.lane c.turn_lane-next.result.0 c.in-Ok.did c.in-Some-ends.settled
    (subst (λ r. IfOk r (Does g.J.Judge.verdict c.args.sources.now c.loop.lane c.turn_lane-next.result.0)) c.in-Ok.is c.turn_lane-next.ensures.did)
    (sym c.ends.ensures ∙ c.in-Some-ends.is)

pub returns-in-Err-clause-keeps : goal.returns-in-Err-clause-keeps
returns-in-Err-clause-keeps g c = keeps_then g.J.Judge.verdict c.args.sources.now c.args.lane c.loop.lane c.turn_lane-next.result.0 c.loop.invariant c.turn_lane-next.ensures.keeps
