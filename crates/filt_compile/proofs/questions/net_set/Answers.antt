use Rattle.filt_compile.proofs.Answering as q
use Rattle.filt_compile.proofs.questions.net_set.Goals as goal

pub returns-in-Compare : goal.returns-in-Compare
returns-in-Compare c = q.net_in_some c.in-Compare.op c.in-Compare.a c.in-Compare.b c.args.e.now c.deref.result.now c.deref-in-Compare.result.now c.set_asked.result c.in-Compare.is c.deref.ensures c.deref-in-Compare.ensures c.set_asked.ensures
