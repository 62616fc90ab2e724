use Rattle.std.proofs.Common.{◌≤◌, ◌∙◌, ap, sym, refl, subst}
use Rattle.export_core.specs.Histories.{course_of}
use Rattle.export_core.specs.declared.log.LogItem.TheVariants.{Reload}
use Rattle.export_lock.proofs.Marking.{marks_on}
use Rattle.export_lock.proofs.state.ExportState.renew.Goals as goal

pub returns-clause-goes : goal.returns-clause-goes
returns-clause-goes g c = λ every key o.
    let new = c.in_ok-refresh.ensures.refreshes in
    marks_on g.J.Judge.verdict key c.args.self.now (record { exporter = c.refresh.new.self; cursor = c.args.self.now.cursor; marks = c.note.new.marks }) Reload refl refl
    (ap (λ z. z.spec) new) (ap (λ z. z.judge) new) (ap (λ z. z.flushing) new ∙ c.requires.running) (ap (λ z. z.log) new)
    refl c.note.ensures.here.0 c.note.ensures.list (o.mode ∙ c.requires.up ∙ sym c.in_ok-refresh.ensures.up)
    (λ is. ap (λ z. z.position) new ∙ o.position c.requires.up)
    (λ is. subst (λ z. key.table.1.start ≤ z.position) (sym new) (o.least c.requires.up))
    (λ history b. c.in_ok-refresh.ensures.stands (course_of key.exports.spec history) (o.stands history b))
    o
