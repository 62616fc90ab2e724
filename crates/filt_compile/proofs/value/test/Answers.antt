use Rattle.std.proofs.lemmas.Result.{on_ok_weaker}
use Rattle.filt_compile.specs.Emits.{ahead}
use Rattle.filt_compile.proofs.Emitting as em
use Rattle.filt_compile.proofs.Spending as sp
use Rattle.filt_compile.proofs.value.test.Goals as goal

pub returns : goal.returns
returns c = on_ok_weaker c.push-5.result (λ is. (em.test_puts c.args.seen.now c.args.what (ahead c.args.out.now) (ahead c.push.new.out) (ahead c.push-2.new.out) (ahead c.push-3.new.out) (ahead c.push-4.new.out) (ahead c.push-5.new.out) c.in_ok-push.ensures c.in_ok-push-2.ensures c.in_ok-push-3.ensures c.in_ok-push-4.ensures is, sp.adds_test _ _ _ _ (ahead c.args.out.now) (ahead c.push.new.out) (ahead c.push-2.new.out) (ahead c.push-3.new.out) (ahead c.push-4.new.out) (ahead c.push-5.new.out) c.in_ok-push.ensures c.in_ok-push-2.ensures c.in_ok-push-3.ensures c.in_ok-push-4.ensures is)) c.push-5.ensures
