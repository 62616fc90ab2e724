use Rattle.std.proofs.Common.{List, refl, reverse, take}
use Rattle.filt_meaning.specs.Values.{Val}
use Rattle.filt_route.specs.Seen.{around_in}
use Rattle.filt_vm.specs.declared.level.Call.{Call}
use Rattle.filt_vm.proofs.Stacks as stacks
use Rattle.filt_vm.proofs.Waits as w
use Rattle.filt_vm.proofs.Wholes as whole
use Rattle.filt_vm.proofs.machine.Machine.call.Goals as goal

pub routine_at-routine-requires : goal.routine_at-routine-requires
routine_at-routine-requires c = w.has-function (around_in c.args.self.now.around) c.args.puts c.args.self.now.functions.now c.args.number c.args.count c.args.self.now.rest.now c.args.tail.now c.args.self.now.locals c.args.self.now.operands c.args.self.now.levels c.args.self.now.attrs c.requires.code c.requires.unstuck

pub returns-clause-goes : goal.returns-clause-goes
returns-clause-goes c =
    let call : Call = record { functions = c.args.self.now.functions; rest = c.args.tail; gives = c.routine_at-routine.result.now.gives; puts = c.args.puts } in
    let arguments : List Val = reverse (take c.args.count c.args.self.now.operands.here) in
    w.enters (around_in c.args.self.now.around) call c.args.number c.args.count c.routine_at-routine.result.now c.args.self.now.rest.now c.as_slice-self.result.now c.first-self.result.now arguments c.args.self.now.locals c.hand.new.variables c.args.self.now.operands c.hand.new.self c.enter-2.new.self c.args.self.now.levels c.push.new.self c.args.self.now.attrs c.requires.code c.routine_at-routine.ensures refl c.as_slice-self.ensures.value c.first-self.ensures refl c.in_ok-hand.ensures.left c.in_ok-enter-2.ensures (stacks.handed_to c.args.self.now.locals c.enter.new.self c.hand.new.variables arguments c.in_ok-enter.ensures c.in_ok-hand.ensures.taken) c.in_ok-push.ensures

pub returns-clause-whole : goal.returns-clause-whole
returns-clause-whole c =
    let call : Call = record { functions = c.args.self.now.functions; rest = c.args.tail; gives = c.routine_at-routine.result.now.gives; puts = c.args.puts } in
    let arguments : List Val = reverse (take c.args.count c.args.self.now.operands.here) in
    whole.entered call arguments c.args.count c.args.self.now.locals c.hand.new.variables c.args.self.now.operands c.hand.new.self c.enter-2.new.self c.args.self.now.levels c.push.new.self (stacks.handed_to c.args.self.now.locals c.enter.new.self c.hand.new.variables arguments c.in_ok-enter.ensures c.in_ok-hand.ensures.taken) c.in_ok-hand.ensures.left c.in_ok-enter-2.ensures c.in_ok-push.ensures c.requires.whole
