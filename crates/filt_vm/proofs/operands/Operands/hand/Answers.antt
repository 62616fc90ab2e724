use Rattle.std.proofs.Common.{arith}
use Rattle.filt_meaning.specs.Seen.{val_of}
use Rattle.filt_vm.proofs.Stacks as stacks
use Rattle.filt_vm.proofs.operands.Operands.hand.Goals as goal

pub loop-preserved : goal.loop-preserved
loop-preserved c =
    let both = stacks.handed c.args.self.now c.loop.self c.pop-value.new.self c.loop.variables c.push.new.self c.args.variables.now.under (val_of c.pop-value.result) c.loop.counter c.loop.invariant.left c.loop.invariant.taken c.pop-value.ensures c.in_ok-push.ensures in
    record {
      counted = omega (arith, c.loop-test.true);
      enough = c.loop.invariant.enough;
      left = both.0;
      taken = both.1;
    }
