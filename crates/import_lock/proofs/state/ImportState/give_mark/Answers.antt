use Rattle.std.proofs.Common.{sym}
use Rattle.import_lock.proofs.Marking.{marked, nothing_due}
use Rattle.import_lock.proofs.state.ImportState.give_mark.Goals as goal

pub returns-in-None-clause-kept : goal.returns-in-None-clause-kept
returns-in-None-clause-kept g c = λ key made op ops due.
    nothing_due g.J.Judge.verdict key made op ops c.args.mark c.args.self.now due c.requires.rest (sym c.in-None.ensures.value)

pub returns-in-Ok-clause-kept : goal.returns-in-Ok-clause-kept
returns-in-Ok-clause-kept g c = λ key made op ops due.
    marked g.J.Judge.verdict key made op ops c.args.mark c.args.self.now due c.requires.rest c.in-Some.stamp.now c.mark_turn.new.stamp c.mark_turn.new.port (sym c.in-Some.ensures.value)
    c.in-Ok.ensures.stamp.0 c.in-Ok.ensures.stamp.1 c.in-Ok.ensures.port.0 c.in-Ok.ensures.port.1 c.in-Ok.ensures.port.2 c.in-Ok.ensures.port.3 c.in-Ok.ensures.said
