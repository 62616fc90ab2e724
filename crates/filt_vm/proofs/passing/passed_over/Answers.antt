use Rattle.filt_route.specs.Seen.{around_in}
use Rattle.filt_vm.proofs.Passes as p
use Rattle.filt_vm.proofs.passing.passed_over.Goals as goal

pub returns-in_ok-holds-in-JumpIfAsked-clause-means : goal.returns-in_ok-holds-in-JumpIfAsked-clause-means
returns-in_ok-holds-in-JumpIfAsked-clause-means c = λ s rest vals os same.
    p.answers s (around_in c.args.around.now) c.args.i.now c.jump_where.result c.in-JumpIfAsked.is' c.in-JumpIfAsked.what c.in-JumpIfAsked.n c.in_ok-holds-in-JumpIfAsked.holds rest vals os c.args.attrs.now c.in-JumpIfAsked.is same (c.in_ok-holds-in-JumpIfAsked.ensures vals) c.jump_where.ensures

pub returns-in_ok-holds-in-JumpIfAsked-clause-cost : goal.returns-in_ok-holds-in-JumpIfAsked-clause-cost
returns-in_ok-holds-in-JumpIfAsked-clause-cost c = λ fs of.
    p.cheaper fs c.args.i.now c.jump_where.result c.in-JumpIfAsked.is' c.in-JumpIfAsked.what c.in-JumpIfAsked.n c.in_ok-holds-in-JumpIfAsked.holds of c.in-JumpIfAsked.is c.jump_where.ensures
