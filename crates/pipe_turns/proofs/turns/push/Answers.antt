use Rattle.std.proofs.Common.{sym, subst}
use Rattle.std.specs.Prelude.{IfErr, IfOk}
use Rattle.pipe_turns.specs.Inside.{DoesPush}
use Rattle.pipe_turns.specs.Turns.{Fails}
use Rattle.pipe_turns.proofs.Resting.{push_did, push_fails}
use Rattle.pipe_turns.proofs.turns.push.Goals as goal

pub returns-clause-keeps : goal.returns-clause-keeps
returns-clause-keeps g c = record {
  kept = c.push_turn-lane.ensures.kept;
  goes = c.push_turn-lane.ensures.goes;
  flush = c.push_turn-lane.ensures.flush;
  marks = c.push_turn-lane.ensures.marks;
}

pub returns-clause-did : goal.returns-clause-did
returns-clause-did g c =
    subst (λ z. IfOk z (DoesPush g.J.Judge.verdict c.args.sources.now c.args.lane c.push_turn-lane.result.0)) (sym c.answered.ensures)
    (push_did g.J.Judge.verdict c.args.sources.now c.args.lane c.push_turn-lane.result.0 c.push_turn-lane.result.1 c.push_turn-lane.ensures.pushes c.push_turn-lane.ensures.rests c.push_turn-lane.ensures.refused)

pub returns-clause-fails : goal.returns-clause-fails
returns-clause-fails g c =
    subst (λ z. IfErr z (Fails g.J.Judge.verdict c.args.sources.now c.args.lane c.push_turn-lane.result.0)) (sym c.answered.ensures)
    (push_fails g.J.Judge.verdict c.args.sources.now c.args.lane c.push_turn-lane.result.0 c.push_turn-lane.result.1 c.push_turn-lane.ensures.refused)
