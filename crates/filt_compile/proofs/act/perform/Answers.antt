use Rattle.std.proofs.Common.{◌+◌, length, refl, arith}
use Rattle.std.proofs.lemmas.Result.{on_ok_weaker}
use Rattle.filt_meaning.specs.Steps.{exprs_steps}
use Rattle.filt_compile.specs.Emits.{ahead}
use Rattle.filt_compile.proofs.Acting as ac
use Rattle.filt_compile.proofs.Spending as sp
use Rattle.filt_compile.proofs.act.perform.Goals as goal

pub returns-then-number-seen : goal.returns-then-number-seen
returns-then-number-seen c = on_ok_weaker c.values.result (λ p. (ac.acts_perform c.args.seen.now c.args.number (length c.args.es.now) c.args.es.now (ahead c.args.out.now) (ahead c.push.new.out) (ahead c.values.new.out) c.if-number-seen.true refl c.in_ok-push.ensures p.0, sp.adds_perform c.args.number (length c.args.es.now) (λ called. exprs_steps called c.args.es.now) (ahead c.args.out.now) (ahead c.push.new.out) (ahead c.values.new.out) c.in_ok-push.ensures p.1)) c.values.ensures

pub returns : goal.returns
returns c = on_ok_weaker c.push-2.result (λ is. (ac.no_perform c.args.seen.now c.args.number c.args.es.now (ahead c.args.out.now) (ahead c.push-2.new.out) (omega (arith, c.if-number-seen.false)) is, sp.adds_as (λ called. 1) (λ called. 2 + called c.args.number + exprs_steps called c.args.es.now) (ahead c.args.out.now) (ahead c.push-2.new.out) (λ called. omega arith) (sp.adds_last _ (ahead c.args.out.now) (ahead c.push-2.new.out) is (λ fs. refl)))) c.push-2.ensures
