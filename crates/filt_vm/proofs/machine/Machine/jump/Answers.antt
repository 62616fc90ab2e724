use Rattle.std.proofs.lemmas.Result.{err_from_is_err_and}
use Rattle.filt_code.specs.Codes.{mean, setting}
use Rattle.filt_code.specs.Costs.{cost, costs}
use Rattle.filt_route.specs.Seen.{around_in}
use Rattle.filt_vm.proofs.Steps as steps
use Rattle.filt_vm.proofs.Unstuck as u
use Rattle.filt_vm.proofs.machine.Machine.jump.Goals as goal

pub returns-in_err-passed-clause-goes : goal.returns-in_err-passed-clause-goes
returns-in_err-passed-clause-goes c =
    let p = err_from_is_err_and c.from_residual.result c.from_residual.ensures.1 in
    let around = around_in c.args.self.now.around in
    let fs = c.args.self.now.functions.now in
    rw (p.1, p.2) (steps.jump-fails c.in_err-passed.field-0.0 around fs c.args.self.now.rest.now c.args.tail.now c.args.i.now c.args.self.now.locals c.args.self.now.operands c.args.self.now.levels c.args.self.now.attrs _ _ _ _ c.requires.code (c.in_err-passed.ensures.leads (setting around fs) (mean (setting around fs) c.args.tail.now) c.args.self.now.locals.here (steps.around_is around fs)))

pub returns-clause-goes : goal.returns-clause-goes
returns-clause-goes c =
    let around = around_in c.args.self.now.around in
    let fs = c.args.self.now.functions.now in
    steps.jumped around fs c.args.self.now.rest.now c.args.tail.now c.behind-self.result.now c.args.i.now c.in_ok-passed.passed c.args.self.now.locals c.args.self.now.operands c.target.new.operands c.args.self.now.levels c.args.self.now.attrs c.requires.code c.behind-self.ensures (c.in_ok-passed.ensures.leads (setting around fs) (mean (setting around fs) c.args.tail.now) c.args.self.now.locals.here (steps.around_is around fs)) c.in_ok-passed.ensures.under (c.in_ok-passed.ensures.cost (costs fs) (cost (costs fs) c.args.tail.now))

pub target-requires-clause-ready : goal.target-requires-clause-ready
target-requires-clause-ready c = u.jump_ready (around_in c.args.self.now.around) c.args.self.now.functions.now c.args.self.now.rest.now c.args.tail.now c.args.i.now c.args.self.now.locals c.args.self.now.operands c.args.self.now.levels c.args.self.now.attrs c.requires.code c.requires.unstuck

pub returns-clause-whole : goal.returns-clause-whole
returns-clause-whole c = rw (c.in_ok-passed.ensures.under) c.requires.whole
