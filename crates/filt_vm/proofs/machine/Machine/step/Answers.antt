use Rattle.filt_code.specs.Codes.{setting}
use Rattle.filt_code.specs.Costs.{costs}
use Rattle.filt_route.specs.Seen.{around_in}
use Rattle.filt_vm.proofs.Passes as p
use Rattle.filt_vm.proofs.Steps as steps
use Rattle.filt_vm.proofs.Unstuck as u
use Rattle.filt_vm.proofs.machine.Machine.step.Goals as goal

pub returns-clause-goes : goal.returns-clause-goes
returns-clause-goes c =
    let around = around_in c.args.self.now.around in
    let fs = c.args.self.now.functions.now in
    p.goes_from c.first.result _ _ _ c.first.new.self.attrs _ _ _ (p.same_said around fs c.args.self.now.rest.now c.ahead-self.result.now c.args.self.now.locals c.args.self.now.operands c.args.self.now.levels c.args.self.now.attrs (c.ahead-self.ensures.means (setting around fs) c.args.self.now.locals.here c.args.self.now.operands.here (steps.around_is around fs))) (p.less_left fs c.args.self.now.rest.now c.ahead-self.result.now c.args.self.now.levels (c.ahead-self.ensures.cost (costs fs))) c.first.ensures.goes

pub first-requires-clause-unstuck : goal.first-requires-clause-unstuck
first-requires-clause-unstuck c =
    let around = around_in c.args.self.now.around in
    let fs = c.args.self.now.functions.now in
    u.moved _ _ (p.same_said around fs c.args.self.now.rest.now c.ahead-self.result.now c.args.self.now.locals c.args.self.now.operands c.args.self.now.levels c.args.self.now.attrs (c.ahead-self.ensures.means (setting around fs) c.args.self.now.locals.here c.args.self.now.operands.here (steps.around_is around fs))) c.requires.unstuck
