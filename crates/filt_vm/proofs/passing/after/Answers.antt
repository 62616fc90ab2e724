use Rattle.std.proofs.Common.{drop, rules, suc}
use Rattle.filt_code.specs.Codes.{mean}
use Rattle.filt_code.specs.Costs.{cost}
use Rattle.filt_vm.proofs.Passes as p
use Rattle.filt_vm.proofs.Waits as w
use Rattle.filt_vm.proofs.passing.after.Goals as goal

pub returns-in_ok-count-in-Some-clause-means : goal.returns-in_ok-count-in-Some-clause-means
returns-in_ok-count-in-Some-clause-means c = λ s vals os same.
    p.leads s c.args.code.now c.in-Some.i.now c.args.place c.in_ok-count-in-Some.count c.beyond.result vals os c.args.attrs.now (search rules) (w.found-at c.args.code.now c.args.place c.in-Some.i.now c.in-Some.ensures.lookup.3.0 c.in-Some.ensures.lookup.1) (c.in_ok-count-in-Some.ensures.means s (mean s (drop (suc c.args.place) c.args.code.now)) vals os same) c.beyond.ensures

pub returns-in_ok-count-in-Some-clause-cost : goal.returns-in_ok-count-in-Some-clause-cost
returns-in_ok-count-in-Some-clause-cost c = λ fs.
    p.costs-less fs c.args.code.now c.in-Some.i.now c.args.place c.in_ok-count-in-Some.count c.beyond.result (search rules) (w.found-at c.args.code.now c.args.place c.in-Some.i.now c.in-Some.ensures.lookup.3.0 c.in-Some.ensures.lookup.1) (c.in_ok-count-in-Some.ensures.cost fs (cost fs (drop (suc c.args.place) c.args.code.now))) c.beyond.ensures
