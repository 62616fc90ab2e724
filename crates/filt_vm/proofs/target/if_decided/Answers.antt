use Rattle.std.proofs.Common.{refl}
use Rattle.filt_meaning.specs.Operators.{bool_in}
use Rattle.filt_meaning.specs.Seen.{val_of}
use Rattle.filt_vm.proofs.Stacks as stacks
use Rattle.filt_vm.proofs.Unstuck as u
use Rattle.filt_vm.proofs.target.if_decided.Goals as goal

pub returns-then-decides-clause-leads : goal.returns-then-decides-clause-leads
returns-then-decides-clause-leads c = λ rest vals attrs.
    stacks.decided c.args.operands.now.here c.args.operands.now.here c.truth.result c.decides.result c.args.n rest vals attrs c.args.joint c.truth.ensures c.decides.ensures c.if-decides.true refl

pub returns-clause-leads : goal.returns-clause-leads
returns-clause-leads c = λ rest vals attrs.
    stacks.undecided c.args.operands.now c.pop-taken.new.self c.truth.result c.decides.result (val_of c.pop-taken.result) c.args.n rest vals attrs c.args.joint c.truth.ensures c.decides.ensures c.if-decides.false c.pop-taken.ensures

pub pop-taken-requires : goal.pop-taken-requires
pop-taken-requires c = u.some_top bool_in c.args.operands.now.here c.requires
