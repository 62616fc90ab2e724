use Rattle.std.proofs.Common.{refl}
use Rattle.std.proofs.lemmas.Result.{on_ok_weaker}
use Rattle.filt_compile.specs.Emits.{ahead}
use Rattle.filt_compile.proofs.Emitting as em
use Rattle.filt_compile.proofs.Walk as w
use Rattle.filt_compile.proofs.Spending as sp
use Rattle.filt_compile.proofs.value.constant.Goals as goal

pub returns-in-Some : goal.returns-in-Some
returns-in-Some c = on_ok_weaker c.push.result (λ is. (em.constant_puts c.args.seen.now c.args.number c.in-Some.constant (ahead c.args.out.now) (ahead c.push.new.out) is (w.found_at c.args.seen.now.constants.now c.args.number c.in-Some.constant.now c.in-Some.ensures.lookup.3.0 c.in-Some.ensures.lookup.1), sp.adds_do _ (ahead c.args.out.now) (ahead c.push.new.out) is)) c.push.ensures

pub returns-in-None : goal.returns-in-None
returns-in-None c = on_ok_weaker c.push-in-None.result (λ is. (em.no_constant_puts c.args.seen.now c.args.number (ahead c.args.out.now) (ahead c.push-in-None.new.out) is c.in-None.ensures.lookup.3, sp.adds_last _ (ahead c.args.out.now) (ahead c.push-in-None.new.out) is (λ fs. refl))) c.push-in-None.ensures
