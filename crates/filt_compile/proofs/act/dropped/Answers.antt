use Rattle.std.proofs.Common.{◌+◌, ◌-◌, drop, arith}
use Rattle.filt_meaning.specs.Steps.{expr_steps}
use Rattle.filt_compile.specs.Emits.{ahead}
use Rattle.filt_compile.specs.Parts.{dropped_steps}
use Rattle.filt_compile.proofs.Acting as ac
use Rattle.filt_compile.proofs.Spending as sp
use Rattle.filt_compile.proofs.act.dropped.Goals as goal

pub loop-n-preserved : goal.loop-n-preserved
loop-n-preserved c = record {
  low = omega (arith, c.loop-n.invariant.low);
  made = ac.printed_at c.args.seen.now c.args.es.now c.loop-n.n c.index-es-n.result (ahead c.args.out.now) (ahead c.loop-n.out) (ahead c.push.new.out) (ahead c.value.new.out) (omega (arith, c.loop-n-test.true)) c.loop-n.invariant.low c.index-es-n.is c.loop-n.invariant.made c.in_ok-push.ensures c.in_ok-value.ensures.0;
  cheap = sp.adds_more dropped_steps (λ called x. expr_steps called x + 1) (drop c.loop-n.n c.args.es.now) (drop (c.loop-n.n - 1) c.args.es.now) c.index-es-n.result (ahead c.args.out.now) (ahead c.loop-n.out) (ahead c.value.new.out) (λ called. omega arith) (sp.next_is c.args.es.now c.loop-n.n c.index-es-n.result (omega (arith, c.loop-n-test.true)) c.loop-n.invariant.low c.index-es-n.is) c.loop-n.invariant.cheap (sp.adds_both (λ called. expr_steps called c.index-es-n.result) (λ called. 1) (ahead c.loop-n.out) (ahead c.push.new.out) (ahead c.value.new.out) (sp.adds_do _ (ahead c.loop-n.out) (ahead c.push.new.out) c.in_ok-push.ensures) c.in_ok-value.ensures.1);
}

pub returns : goal.returns
returns c = (ac.printed_end c.args.seen.now c.args.es.now c.loop-n.n (ahead c.args.out.now) (ahead c.loop-n.out) (omega (arith, c.loop-n-test.false)) c.loop-n.invariant.made, sp.adds_end dropped_steps c.args.es.now c.loop-n.n (ahead c.args.out.now) (ahead c.loop-n.out) (omega (arith, c.loop-n-test.false)) c.loop-n.invariant.cheap)
