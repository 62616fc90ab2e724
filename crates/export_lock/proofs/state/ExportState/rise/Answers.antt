use Rattle.std.proofs.Common.{◌≡◌, ◌∙◌, ap, sym, refl, false, true, subst, arith}
use mathlib.Core.List.{IsPrefix}
use Rattle.export_core.specs.Histories.{course_of}
use Rattle.export_core.specs.declared.log.LogItem.TheVariants.{Up}
use Rattle.jour.specs.Seats.{front, journal}
use Rattle.export_lock.specs.MarkTurns.{with_cursor}
use Rattle.export_lock.proofs.Histories.{begins_shorter, begins_within, low}
use Rattle.export_lock.proofs.Marking.{marks_on, still_on}
use Rattle.export_lock.proofs.state.ExportState.rise.Goals as goal

pub up-requires-clause-later : goal.up-requires-clause-later
up-requires-clause-later g c =
    let h = c.requires.started in
    low g.J.Judge.verdict c.positions_are_told.ensures h.ready.held.key (with_cursor h.before c.args.self.now) c.args.head c.args.self.now.cursor h.starts h.ready.held.exporting c.position.ensures.lawful

pub returns-in-Ok-clause-goes : goal.returns-in-Ok-clause-goes
returns-in-Ok-clause-goes g c = λ before starts every key o.
    let begins = c.in-Ok.ensures.begins in
    marks_on g.J.Judge.verdict key (with_cursor before c.args.self.now) (record { exporter = c.up.new.self; cursor = c.args.self.now.cursor; marks = c.note.new.marks }) (Up c.args.head) refl refl
    (ap (λ z. z.spec) begins) (ap (λ z. z.judge) begins) (ap (λ z. z.flushing) begins) (ap (λ z. z.log) begins)
    starts.here c.note.ensures.here.0 c.note.ensures.list (starts.started ∙ sym c.in-Ok.ensures.up)
    (λ is. ap (λ z. z.position) begins ∙ sym starts.position)
    (λ is.
    let at = ap (λ z. z.position) begins in
    let seen = starts.seen in
    let start = ap (λ z. z.1.start) (starts.here ∙ o.here) in
    omega (arith, at, seen, start))
    (λ history b. c.in-Ok.ensures.stands (course_of key.exports.spec history)
    (let within = begins_within key (front c.args.self.now.cursor.0.1) history o.start b in
    let seen = starts.seen in
    let start = ap (λ z. z.1.start) (starts.here ∙ o.here) in
    omega (arith, within, seen, start))
    (o.stands history (begins_shorter key (front before.0.1) (front c.args.self.now.cursor.0.1) history starts.prefix b)))
    o

pub returns-in-Err-clause-goes : goal.returns-in-Err-clause-goes
returns-in-Err-clause-goes g c = λ before starts every key o.
    let down = c.requires.started.down in
    still_on g.J.Judge.verdict key (with_cursor before c.args.self.now) (record { exporter = c.up.new.self; cursor = c.close.new.self; marks = c.args.self.now.marks }) c.in-Err.ensures.refused
    (ap (λ z. journal z) c.close.ensures.same ∙ starts.here)
    (subst (λ z. IsPrefix (front before.0.1) (front z.1)) (sym c.close.ensures.same) starts.prefix)
    (c.close.ensures.closed ∙ sym (o.mode ∙ down))
    (λ is. absurd (let e : false ≡ true = sym down ∙ is in cc))
    refl refl o
