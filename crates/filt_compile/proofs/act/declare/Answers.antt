use Rattle.std.proofs.Common.{◌-◌, length, drop, arith}
use Rattle.filt_meaning.specs.declared.value.Sort.TheVariants as sorts
use Rattle.filt_compile.specs.Emits.{ahead}
use Rattle.filt_compile.proofs.Acting as ac
use Rattle.filt_compile.proofs.Spending as sp
use Rattle.filt_compile.proofs.act.declare.Goals as goal

pub loop-n-preserved : goal.loop-n-preserved
loop-n-preserved c = record {
  low = omega (arith, c.loop-n.invariant.low);
  made = ac.declares_or c.args.sorts.now c.loop-n.n _ (ahead c.args.out.now) (ahead c.loop-n.out) (ahead c.push.new.out) (omega (arith, c.loop-n-test.true)) c.loop-n.invariant.low c.loop-n.invariant.made c.in_ok-push.ensures;
  cheap = sp.adds_more (λ called xs. length xs) (λ called x. 1) (drop c.loop-n.n c.args.sorts.now) (drop (c.loop-n.n - 1) c.args.sorts.now) _ (ahead c.args.out.now) (ahead c.loop-n.out) (ahead c.push.new.out) (λ called. omega arith) (sp.next_or c.args.sorts.now c.loop-n.n sorts.Bool (omega (arith, c.loop-n-test.true)) c.loop-n.invariant.low) c.loop-n.invariant.cheap (sp.adds_do _ (ahead c.loop-n.out) (ahead c.push.new.out) c.in_ok-push.ensures);
}

pub returns : goal.returns
returns c = (ac.declares_end c.args.sorts.now c.loop-n.n (ahead c.args.out.now) (ahead c.loop-n.out) (omega (arith, c.loop-n-test.false)) c.loop-n.invariant.made, sp.adds_end (λ called xs. length xs) c.args.sorts.now c.loop-n.n (ahead c.args.out.now) (ahead c.loop-n.out) (omega (arith, c.loop-n-test.false)) c.loop-n.invariant.cheap)
