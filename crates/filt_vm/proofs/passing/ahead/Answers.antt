use Rattle.filt_vm.proofs.Passes as p
use Rattle.filt_vm.proofs.passing.ahead.Goals as goal

pub returns-then-asks-clause-means : goal.returns-then-asks-clause-means
returns-then-asks-clause-means c = λ s vals os same.
    p.means_behind s c.args.code.now c.behind.result.now c.passed-place.result vals os c.args.attrs.now c.behind.ensures (c.passed-place.ensures.means s vals os same)

pub returns-then-asks-clause-cost : goal.returns-then-asks-clause-cost
returns-then-asks-clause-cost c = λ fs.
    p.costs_behind fs c.args.code.now c.behind.result.now c.passed-place.result c.behind.ensures (c.passed-place.ensures.cost fs)
