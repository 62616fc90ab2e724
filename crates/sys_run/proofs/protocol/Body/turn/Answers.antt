use Rattle.std.proofs.Common.{subst}
use Rattle.sys_run.specs.Cores.{Does}
use Rattle.sys_run.proofs.Operating.{pipe_turns, source_turns}
use Rattle.sys_run.proofs.protocol.Body.turn.Goals as goal

pub returns-in_ok-changes-in-Source : goal.returns-in_ok-changes-in-Source
returns-in_ok-changes-in-Source g c = λ p earlier does.
    source_turns g.J.Judge.verdict earlier c.args.op.now p c.in-Source.source c.apply.new.self c.in_ok-changes-in-Source.field-0
    c.in_ok-changes-in-Source.ensures.step c.in_ok-changes-in-Source.ensures.kept
    (subst (λ b. Does g.J.Judge.verdict p earlier b) c.in-Source.is does)

pub returns-in-Pipe : goal.returns-in-Pipe
returns-in-Pipe g c = λ p earlier does.
    pipe_turns g.J.Judge.verdict earlier c.args.op.now p c.in-Pipe.up c.is_up_behind.result c.pipe_mark-mark.result c.new.result c.new.ensures c.pipe_mark-mark.ensures c.is_up_behind.ensures
    (subst (λ b. Does g.J.Judge.verdict p earlier b) c.in-Pipe.is does)
