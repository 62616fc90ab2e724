use Rattle.std.proofs.lemmas.Result.{on_ok_weaker}
use Rattle.filt_compile.specs.Emits.{ahead}
use Rattle.filt_compile.proofs.Acting as ac
use Rattle.filt_compile.proofs.Ranging as r
use Rattle.filt_compile.proofs.Spending as sp
use Rattle.filt_compile.proofs.condition.tested.Goals as goal

pub returns-in-Some : goal.returns-in-Some
returns-in-Some c = on_ok_weaker c.push.result (λ is. (r.range_asks c.args.seen.now c.args.is c.sense.result c.args.over c.args.what c.in-Some.range c.within.result (ahead c.args.out.now) (ahead c.push.new.out) c.in-Some.ensures c.sense.ensures c.within.ensures is, sp.asks_question c.sense.result c.args.over c.within.result (λ called. 0) (ahead c.args.out.now) (ahead c.push.new.out) is)) c.push.ensures

pub returns-in-None : goal.returns-in-None
returns-in-None c = on_ok_weaker c.push-in-None.result (λ is. (ac.test_asks c.args.seen.now c.args.is c.args.over c.args.what (ahead c.args.out.now) (ahead c.push-in-None.new.out) is, sp.asks_question c.args.is c.args.over _ (λ called. 0) (ahead c.args.out.now) (ahead c.push-in-None.new.out) is)) c.push-in-None.ensures
