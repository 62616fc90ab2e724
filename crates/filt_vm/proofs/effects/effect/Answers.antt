use Rattle.filt_route.specs.Seen.{around_in}
use Rattle.filt_vm.proofs.Unstuck as u
use Rattle.filt_vm.proofs.effects.effect.Goals as goal

pub returns-in-Attribute-clause-done : goal.returns-in-Attribute-clause-done
returns-in-Attribute-clause-done c = rw (c.in-Attribute.is) (c.put_attribute.ensures.done c.args.locals.now.here)

pub returns-in-Discard-clause-done : goal.returns-in-Discard-clause-done
returns-in-Discard-clause-done c = rw (c.in-Discard.is) (c.discard.ensures.done c.args.locals.now.here c.args.attrs.now)

pub returns-in-One-clause-done : goal.returns-in-One-clause-done
returns-in-One-clause-done c = rw (c.in-One.is) (c.one.ensures.done c.args.locals.now.here c.args.attrs.now)

pub returns-in-Two-clause-done : goal.returns-in-Two-clause-done
returns-in-Two-clause-done c = rw (c.in-Two.is) (c.two.ensures.done c.args.locals.now.here c.args.attrs.now)

pub returns-in-Store-clause-done : goal.returns-in-Store-clause-done
returns-in-Store-clause-done c = rw (c.in-Store.is) (c.store.ensures.done c.args.attrs.now)

pub returns-in-Assign-clause-done : goal.returns-in-Assign-clause-done
returns-in-Assign-clause-done c = rw (c.in-Assign.is) (c.assign.ensures.done c.args.locals.now.here)

pub put_local-requires : goal.put_local-requires
put_local-requires c = u.of_local (around_in c.args.around.now) c.args.what.now c.in-Local.place c.args.locals.now.here c.args.operands.now.here c.args.attrs.now c.in-Local.is c.requires

pub one-requires : goal.one-requires
one-requires c = u.of_one (around_in c.args.around.now) c.args.what.now c.in-One.operator c.args.locals.now.here c.args.operands.now.here c.args.attrs.now c.in-One.is c.requires

pub two-requires : goal.two-requires
two-requires c = u.of_two (around_in c.args.around.now) c.args.what.now c.in-Two.operator c.args.locals.now.here c.args.operands.now.here c.args.attrs.now c.in-Two.is c.requires

pub discard-requires : goal.discard-requires
discard-requires c = u.of_discard (around_in c.args.around.now) c.args.what.now c.args.locals.now.here c.args.operands.now.here c.args.attrs.now c.in-Discard.is c.requires

pub store-requires-clause-place : goal.store-requires-clause-place
store-requires-clause-place c = (u.of_store (around_in c.args.around.now) c.args.what.now c.in-Store.place c.args.locals.now.here c.args.operands.now.here c.args.attrs.now c.in-Store.is c.requires).1

pub store-requires-clause-operand : goal.store-requires-clause-operand
store-requires-clause-operand c = (u.of_store (around_in c.args.around.now) c.args.what.now c.in-Store.place c.args.locals.now.here c.args.operands.now.here c.args.attrs.now c.in-Store.is c.requires).0

pub assign-requires : goal.assign-requires
assign-requires c = u.of_assign (around_in c.args.around.now) c.args.what.now c.in-Assign.a c.args.locals.now.here c.args.operands.now.here c.args.attrs.now c.in-Assign.is c.requires

pub unset-requires : goal.unset-requires
unset-requires c = u.of_unset (around_in c.args.around.now) c.args.what.now c.in-Unset.a c.args.locals.now.here c.args.operands.now.here c.args.attrs.now c.in-Unset.is c.requires
