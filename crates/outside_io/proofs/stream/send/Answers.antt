use Rattle.std.proofs.Common.{subst}
use Rattle.std.specs.Prelude.{Bool}
use Rattle.outside_io.specs.Reached.{Reached}
use Rattle.outside_io.proofs.Streams.{kept_back, sent}
use Rattle.outside_io.proofs.stream.send.Goals as goal

pub returns-then-failed-clause-sent : goal.returns-then-failed-clause-sent
returns-then-failed-clause-sent g c = λ first before gone later reached.
    kept_back first _ before _ gone c.args.block.now
    (subst (λ (b : Bool). Reached first (g.K.Sink.contents c.args.sink.now) before (g.K.Sink.faults c.args.sink.now) b gone) c.if-failed.true reached)

pub returns-clause-sent : goal.returns-clause-sent
returns-clause-sent g c = λ first before gone later reached.
    rw c.is_err.ensures.value
    (sent c.write_whole.result first _ _ before _ _ gone c.args.block.now c.write_whole.ensures.whole c.write_whole.ensures.front c.write_whole.ensures.cause later
    (subst (λ (b : Bool). Reached first (g.K.Sink.contents c.args.sink.now) before (g.K.Sink.faults c.args.sink.now) b gone) c.if-failed.false reached))
