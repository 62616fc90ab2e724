use Rattle.filt_route.specs.Seen.{around_in}
use Rattle.filt_vm.proofs.Steps as steps
use Rattle.filt_vm.proofs.machine.Machine.do_one.Goals as goal

pub returns-in-Accept-clause-goes : goal.returns-in-Accept-clause-goes
returns-in-Accept-clause-goes c =
    steps.accepts (around_in c.args.self.now.around) c.args.self.now.functions.now c.args.self.now.rest.now c.args.tail.now c.args.i.now c.args.self.now.locals c.args.self.now.operands c.args.self.now.levels c.args.self.now.attrs c.requires.code c.in-Accept.is

pub returns-in-Reject-clause-goes : goal.returns-in-Reject-clause-goes
returns-in-Reject-clause-goes c =
    steps.rejects (around_in c.args.self.now.around) c.args.self.now.functions.now c.args.self.now.rest.now c.args.tail.now c.args.i.now c.args.self.now.locals c.args.self.now.operands c.args.self.now.levels c.args.self.now.attrs c.requires.code c.in-Reject.is

pub unreachable-requires : goal.unreachable-requires
unreachable-requires c =
    c.requires.unstuck c.args.self.now.attrs (steps.stuck (around_in c.args.self.now.around) c.args.self.now.functions.now c.args.self.now.rest.now c.args.tail.now c.args.i.now c.args.self.now.locals c.args.self.now.operands c.args.self.now.levels c.args.self.now.attrs c.requires.code c.in-Stuck.is)
