use Rattle.import_core.proofs.Turns.{plan_counted, plan_done}
use Rattle.import_core.proofs.nets.Nets.rebuild.Goals as goal

pub invariant_of-self : goal.invariant_of-self
invariant_of-self g c =
    plan_counted c.args.spec.now (g.J.Judge.verdict c.args.judge.now) c.self.inside.held.entries c.write.new.nets.entries c.in-Some.plan c.in_ok-plan.field-0 c.in-Some.is
    c.len-count.ensures.ordered c.write.ensures c.in_ok-plan.ensures

pub returns-in-Some-clause-rebuilt : goal.returns-in-Some-clause-rebuilt
returns-in-Some-clause-rebuilt g c =
    plan_done c.args.spec.now (g.J.Judge.verdict c.args.judge.now) c.self.inside.held.entries c.write.new.nets.entries c.in-Some.plan c.in_ok-plan.field-0 c.args.self.now c.in-Some.is
    c.len-count.ensures.ordered c.write.ensures c.in_ok-plan.ensures c.self.view_is
