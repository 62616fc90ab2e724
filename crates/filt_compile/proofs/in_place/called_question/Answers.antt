use Rattle.filt_compile.proofs.InPlace as i
use Rattle.filt_compile.proofs.Walk as w
use Rattle.filt_compile.proofs.in_place.called_question.Goals as goal

pub returns-in-Some : goal.returns-in-Some
returns-in-Some c = i.some_called c.args.seen.now c.args.number c.args.es.now c.in-Some.routine.now c.as_slice.result.now c.body_question.result (w.found_at c.args.seen.now.routines.now c.args.number c.in-Some.routine.now c.in-Some.ensures.lookup.3.0 c.in-Some.ensures.lookup.1) c.as_slice.ensures.value c.body_question.ensures
