use Rattle.std.proofs.Common.{◌∙◌, sym, [], rules}
use Rattle.std.specs.Map.Iter.{deref_pair}
use Rattle.std.proofs.lemmas.Map.Iter.{rest_all, rest_more}
use Rattle.import_core.proofs.Planning.{plan_nil}
use Rattle.import_core.proofs.Turns.{plan_end, plan_small, plan_stops, plan_turn}
use Rattle.import_core.proofs.nets.planned.Goals as goal

pub loop-net-init : goal.loop-net-init
loop-net-init g c = record {
  sorted = search rules;
  small = search rules;
  far = ([], search rules, plan_nil c.args.spec.now (g.J.Judge.verdict c.args.judge.now) _ c.new-plan.ensures.empty c.new-plan.ensures.changes c.new-plan.ensures.count c.new-plan.ensures.over);
}

pub store-requires : goal.store-requires
store-requires g c =
    plan_small c.args.spec.now (g.J.Judge.verdict c.args.judge.now) c.args.nets.now.entries _ _ c.loop-net.invariant.far c.loop-net.invariant.small

pub loop-net-preserved : goal.loop-net-preserved
loop-net-preserved g c =
    let d = c.in_ok-accepted.ensures in
    record {
      sorted = c.loop-net.invariant.sorted;
      small = c.loop-net.invariant.small;
      far = plan_turn c.args.spec.now (g.J.Judge.verdict c.args.judge.now) c.args.nets.now.entries _ _ _ _ c.in-Some.net.now c.in-Some.held.now d.0 c.in-Stored.accepted c.in-Stored.over
          c.loop-net.invariant.sorted c.loop-net.invariant.far
          (rest_more deref_pair _ _ c.next.result (c.in-Some.net, c.in-Some.held) c.in-Some.is c.next.ensures.steps)
          d.1 (sym c.in-Stored.is ∙ d.2) c.in_ok-store-in-Stored.ensures;
    }

pub returns-in-Limited : goal.returns-in-Limited
returns-in-Limited g c =
    let d = c.in_ok-accepted.ensures in
    plan_stops c.args.spec.now (g.J.Judge.verdict c.args.judge.now) c.args.nets.now.entries _ _ _ c.in-Some.net.now c.in-Some.held.now d.0
    c.loop-net.invariant.sorted c.loop-net.invariant.far
    (rest_more deref_pair _ _ c.next.result (c.in-Some.net, c.in-Some.held) c.in-Some.is c.next.ensures.steps)
    d.1 (sym c.in-Limited.is ∙ d.2)

pub returns : goal.returns
returns g c =
    plan_end c.args.spec.now (g.J.Judge.verdict c.args.judge.now) c.args.nets.now.entries _ _ c.loop-net.invariant.far
    (rest_all deref_pair _ _ c.next.result c.in-None.is c.next.ensures.steps)
