use Rattle.std.proofs.Common.{refl}
use Rattle.filt_meaning.specs.Flow.{AtEnd}
use Rattle.filt_route.specs.Seen.{around_in}
use Rattle.filt_vm.proofs.Unstuck as u
use Rattle.filt_vm.proofs.Waits as w
use Rattle.filt_vm.proofs.Wholes as whole
use Rattle.filt_vm.proofs.machine.Machine.give_end.Goals as goal

pub give_nothing-requires-clause-unstuck : goal.give_nothing-requires-clause-unstuck
give_nothing-requires-clause-unstuck c =
    let around = around_in c.args.self.now.around in
    let m = c.args.self.now in
    u.moved _ _ (w.unwound-to around m.functions.now m.rest.now c.unwound.result c.in-Some.call m.locals m.operands m.operands c.unwound.new.operands m.levels c.unwound.new.levels AtEnd m.attrs (rw c.requires.code refl) refl (c.unwound.ensures.flow around m.locals.under AtEnd m.attrs) c.in-Some.is) c.requires.unstuck

pub unwound-requires : goal.unwound-requires
unwound-requires c = (c.args.self.now.locals.under, c.requires.whole)

pub give_nothing-requires-clause-whole : goal.give_nothing-requires-clause-whole
give_nothing-requires-clause-whole c =
    let m = c.args.self.now in
    whole.waited c.unwound.result c.in-Some.call c.unwound.new.levels m.locals.under c.unwound.new.operands.under c.in-Some.is (c.unwound.ensures.whole m.locals.under c.requires.whole)
