use Rattle.filt_compile.proofs.Answering as q
use Rattle.filt_compile.proofs.questions.call_question.Goals as goal

pub returns-in-Call : goal.returns-in-Call
returns-in-Call c = q.called_question c.args.seen.now c.in-Call.number c.in-Call.es c.args.e.now c.deref.result.now c.called_question.result c.in-Call.is c.deref.ensures.value c.called_question.ensures
