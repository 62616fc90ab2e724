use Rattle.jour.specs.Seats.{number_of}
use Rattle.import_lock.proofs.Turning.{due_of, failed_keeps, faulted}
use Rattle.import_lock.proofs.state.ImportState.op_turn.Goals as goal

pub returns-in-Err-clause-only : goal.returns-in-Err-clause-only
returns-in-Err-clause-only g c = faulted c.args.self.now c.plan_and_send.new.self c.in-Err.fault c.in-Err.ensures.only

pub returns-in-Err-clause-kept : goal.returns-in-Err-clause-kept
returns-in-Err-clause-kept g c = λ key free none line.
    failed_keeps g.J.Judge.verdict key (number_of c.args.hand.now.1.role) c.args.line c.args.op.now c.in-Err.fault c.args.self.now c.plan_and_send.new.self free none line c.in-Err.ensures.only c.in-Err.ensures.failed

pub returns-in-Ok-clause-due : goal.returns-in-Ok-clause-due
returns-in-Ok-clause-due g c = λ key made free none line.
    due_of g.J.Judge.verdict key made c.args.op.now c.in-Ok.plan.mark c.in-Ok.plan.over c.args.self.now c.plan_and_send.new.self free none c.in-Ok.ensures.only
    (c.in-Ok.ensures.told key made free.importing line)
