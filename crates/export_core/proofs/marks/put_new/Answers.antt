use Rattle.std.proofs.Common.{◌∙◌, sym}
use Rattle.export_core.proofs.TwoMaps.{due_at, puts_due, puts_quiet}
use Rattle.export_core.proofs.marks.put_new.Goals as goal

pub returns-then-is_due-clause-puts : goal.returns-then-is_due-clause-puts
returns-then-is_due-clause-puts c =
    let put = c.in_ok-place.ensures in
    puts_due c.args.key c.args.mark _ c.args.coming.now.entries _ _ put.entries put.index c.index_mut.ensures.value
    (due_at c.args.key c.args.coming.now.entries _ put.old ∙ sym c.is_due.ensures ∙ c.if-is_due.true)

pub returns-clause-puts : goal.returns-clause-puts
returns-clause-puts c =
    let put = c.in_ok-place.ensures in
    puts_quiet c.args.key c.args.mark c.args.coming.now.entries _ put.entries (due_at c.args.key c.args.coming.now.entries _ put.old ∙ sym c.is_due.ensures ∙ c.if-is_due.false)
