use Rattle.std.proofs.Common.{◌≡◌, ◌∙◌, ap, sym, refl, false, true, subst}
use Rattle.export_core.specs.Histories.{course_of}
use Rattle.export_core.specs.declared.log.LogItem.TheVariants.{Down}
use Rattle.jour.specs.Seats.{front, journal}
use Rattle.export_lock.specs.Terms.{BeginsWith}
use Rattle.export_lock.proofs.Marking.{marks_on}
use Rattle.export_lock.proofs.state.ExportState.fall.Goals as goal

pub close-requires : goal.close-requires
close-requires g c = c.requires.ready.held.exporting.mode ∙ c.requires.up

pub returns-clause-goes : goal.returns-clause-goes
returns-clause-goes g c = λ every key o.
    let ends = c.in_ok-down.ensures.ends in
    marks_on g.J.Judge.verdict key c.args.self.now (record { exporter = c.down.new.self; cursor = c.close.new.self; marks = c.note.new.marks }) Down refl refl
    (ap (λ z. z.spec) ends) (ap (λ z. z.judge) ends) (ap (λ z. z.flushing) ends) (ap (λ z. z.log) ends)
    (ap (λ z. journal z) c.close.ensures.same) c.note.ensures.here.0 c.note.ensures.list (c.close.ensures.closed ∙ sym c.in_ok-down.ensures.down)
    (λ is. absurd (let e : false ≡ true = sym c.in_ok-down.ensures.down ∙ is in cc))
    (λ is. absurd (let e : false ≡ true = sym c.in_ok-down.ensures.down ∙ is in cc))
    (λ history b. c.in_ok-down.ensures.stands (course_of key.exports.spec history) (o.stands history (subst (λ z. BeginsWith key (front z.1) history) c.close.ensures.same b)))
    o
