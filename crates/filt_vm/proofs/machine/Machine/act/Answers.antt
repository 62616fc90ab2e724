use Rattle.std.proofs.lemmas.Result.{err_from_is_err_and}
use Rattle.filt_route.specs.Seen.{around_in}
use Rattle.filt_vm.proofs.Steps as steps
use Rattle.filt_vm.proofs.Unstuck as u
use Rattle.filt_vm.proofs.machine.Machine.act.Goals as goal

pub returns-in_err-effect-clause-goes : goal.returns-in_err-effect-clause-goes
returns-in_err-effect-clause-goes c =
    let p = err_from_is_err_and c.from_residual.result c.from_residual.ensures.1 in
    rw (p.1, p.2) (steps.act-fails c.in_err-effect.field-0.0 (around_in c.args.self.now.around) c.args.self.now.functions.now c.args.self.now.rest.now c.args.tail.now c.args.what.now c.args.self.now.locals c.args.self.now.operands c.args.self.now.levels c.args.self.now.attrs c.effect.new.attrs _ _ _ _ c.requires.code c.in_err-effect.ensures.done)

pub returns-clause-goes : goal.returns-clause-goes
returns-clause-goes c =
    steps.acted (around_in c.args.self.now.around) c.args.self.now.functions.now c.args.self.now.rest.now c.args.tail.now c.args.what.now c.args.self.now.locals c.effect.new.locals c.args.self.now.operands c.effect.new.operands c.args.self.now.levels c.args.self.now.attrs c.effect.new.attrs c.requires.code c.in_ok-effect.ensures.done c.in_ok-effect.ensures.variables c.in_ok-effect.ensures.operands

pub effect-requires : goal.effect-requires
effect-requires c = u.effect_ready (around_in c.args.self.now.around) c.args.self.now.functions.now c.args.self.now.rest.now c.args.tail.now c.args.what.now c.args.self.now.locals c.args.self.now.operands c.args.self.now.levels c.args.self.now.attrs c.requires.code c.requires.unstuck

pub returns-clause-whole : goal.returns-clause-whole
returns-clause-whole c = rw (c.in_ok-effect.ensures.variables, c.in_ok-effect.ensures.operands) c.requires.whole
