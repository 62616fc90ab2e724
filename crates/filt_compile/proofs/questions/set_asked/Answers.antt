use Rattle.filt_compile.proofs.Answering as q
use Rattle.filt_compile.proofs.questions.set_asked.Goals as goal

pub returns-then-is_net : goal.returns-then-is_net
returns-then-is_net c = q.asked_some c.args.op c.args.a.now c.args.b.now c.fixed_set.result c.in-Matches.is (c.is_net.ensures c.if-is_net.true) c.fixed_set.ensures
