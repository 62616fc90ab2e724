use Rattle.filt_meaning.specs.Seen.{val_of}
use Rattle.filt_route.specs.Seen.{around_in}
use Rattle.filt_vm.proofs.Unstuck as u
use Rattle.filt_vm.proofs.Wholes as whole
use Rattle.filt_vm.proofs.machine.Machine.give_top.Goals as goal

pub pop-value-requires : goal.pop-value-requires
pop-value-requires c = u.return_ready (around_in c.args.self.now.around) c.args.self.now.functions.now c.args.self.now.rest.now c.args.tail.now c.args.self.now.locals c.args.self.now.operands c.args.self.now.levels c.args.self.now.attrs c.requires.code c.requires.unstuck

pub unwound-requires : goal.unwound-requires
unwound-requires c =
    let m = c.args.self.now in
    (m.locals.under, whole.taken m.levels m.locals.under m.operands c.pop-value.new.self (val_of c.pop-value.result) c.pop-value.ensures c.requires.whole)

pub give-requires : goal.give-requires
give-requires c =
    let m = c.args.self.now in
    whole.waited c.unwound.result c.in-Some.call c.unwound.new.levels m.locals.under c.unwound.new.operands.under c.in-Some.is (c.unwound.ensures.whole m.locals.under (whole.taken m.levels m.locals.under m.operands c.pop-value.new.self (val_of c.pop-value.result) c.pop-value.ensures c.requires.whole))
