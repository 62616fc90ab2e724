use Rattle.filt_compile.proofs.Answering as q
use Rattle.filt_compile.proofs.questions.question_of.Goals as goal

pub returns-in-Some : goal.returns-in-Some
returns-in-Some c = q.net_question c.args.seen.now c.args.e.now c.in-Some.set c.in-Some.ensures
