use Rattle.std.proofs.Common.{refl, length}
use Rattle.filt_meaning.specs.Meaning.{elements}
use Rattle.filt_meaning.specs.Seen.{val_of}
use Rattle.filt_route.specs.Seen.{around_in, elements_of}
use Rattle.filt_vm.specs.declared.level.Turn.{Turn}
use Rattle.filt_vm.proofs.Unstuck as u
use Rattle.filt_vm.proofs.Waits as w
use Rattle.filt_vm.proofs.Wholes as whole
use Rattle.filt_vm.proofs.machine.Machine.for_each.Goals as goal

pub pop-requires : goal.pop-requires
pop-requires c = u.some_top elements c.args.self.now.operands.here (u.loop_ready (around_in c.args.self.now.around) c.args.self.now.functions.now c.args.self.now.rest.now c.args.tail.now c.args.over c.args.self.now.locals c.args.self.now.operands c.args.self.now.levels c.args.self.now.attrs c.requires.code c.requires.unstuck)

pub of-list-requires : goal.of-list-requires
of-list-requires c = u.taken_top elements c.args.self.now.operands c.pop.new.self (val_of c.pop.result) c.pop.ensures (u.loop_ready (around_in c.args.self.now.around) c.args.self.now.functions.now c.args.self.now.rest.now c.args.tail.now c.args.over c.args.self.now.locals c.args.self.now.operands c.args.self.now.levels c.args.self.now.attrs c.requires.code c.requires.unstuck)

pub returns-clause-goes : goal.returns-clause-goes
returns-clause-goes c =
    let t : Turn = record { functions = c.args.self.now.functions; body = c.args.tail; over = c.args.over; variables = c.len.result; next = 0 } in
    w.begun (around_in c.args.self.now.around) c.args.self.now.functions.now c.args.self.now.rest.now c.args.tail.now c.behind-self.result.now c.args.over (length c.args.tail.now) t c.args.self.now.locals c.args.self.now.operands c.pop.new.self c.enter.new.self c.args.self.now.levels c.begin.new.self c.push.new.self (val_of c.pop.result) (elements_of c.of-list.result) c.args.self.now.attrs c.requires.code refl refl refl refl c.len.ensures c.pop.ensures c.of-list.ensures.elements c.of-list.ensures.few refl c.behind-self.ensures c.in_ok-begin.ensures c.in_ok-push.ensures c.in_ok-enter.ensures

pub returns-clause-whole : goal.returns-clause-whole
returns-clause-whole c =
    let t : Turn = record { functions = c.args.self.now.functions; body = c.args.tail; over = c.args.over; variables = c.len.result; next = 0 } in
    whole.begun t c.args.self.now.locals.under c.args.self.now.operands c.pop.new.self c.enter.new.self c.args.self.now.levels c.begin.new.self c.push.new.self (val_of c.pop.result) (elements_of c.of-list.result) c.pop.ensures c.in_ok-begin.ensures c.in_ok-push.ensures c.in_ok-enter.ensures c.requires.whole
