use Rattle.std.proofs.Common.{◌-◌, List, length, ap, ◌∙◌, arith}
use Rattle.std.proofs.lemmas.Result.{on_ok_weaker}
use Rattle.conf_ast.specs.declared.filters.LogicalOp.{LogicalOp}
use Rattle.filt_meaning.specs.declared.tree.TExpr.{TExpr}
use Rattle.filt_meaning.specs.Steps.{expr_steps}
use Rattle.filt_meaning.specs.Trees as trees
use Rattle.filt_compile.specs.Emits.{ahead}
use Rattle.filt_compile.proofs.Acting as ac
use Rattle.filt_compile.proofs.Asking as ask
use Rattle.filt_compile.proofs.Cost as k
use Rattle.filt_compile.proofs.Spending as sp
use Rattle.filt_compile.proofs.condition.+conditions.Goals as goal

pub condition-returns-in-Not : goal.condition-returns-in-Not
condition-returns-in-Not t c =
    on_ok_weaker c.condition.result (λ p. (λ low. ask.not_leads c.args.seen.now c.args.is (length (ahead c.args.out.now) - c.args.to) c.in-Not.a c.args.e.now c.deref.result.now (ahead c.args.out.now) (ahead c.condition.new.out) c.in-Not.is c.deref.ensures (p.0 low), λ low. sp.asks_as (length (ahead c.args.out.now) - c.args.to) _ (λ called. expr_steps called c.args.e.now) (ahead c.args.out.now) (ahead c.condition.new.out) (λ called. sp.turned_steps called c.in-Not.a c.args.e.now c.deref.result.now c.in-Not.is c.deref.ensures) (p.1 low))) c.condition.ensures

pub condition-returns-in-Joint : goal.condition-returns-in-Joint
condition-returns-in-Joint t c =
    on_ok_weaker c.joined.result (λ p. (λ low. ask.joint_leads c.args.seen.now c.args.is (length (ahead c.args.out.now) - c.args.to) c.in-Joint.first c.in-Joint.more c.args.e.now c.deref-in-Joint.result.now c.deref-in-Joint-2.result.now (ahead c.args.out.now) (ahead c.joined.new.out) c.in-Joint.is c.deref-in-Joint.ensures c.deref-in-Joint-2.ensures.value (p.0 low), λ low. sp.asks_as (length (ahead c.args.out.now) - c.args.to) _ (λ called. expr_steps called c.args.e.now) (ahead c.args.out.now) (ahead c.joined.new.out) (λ called. sp.joined_steps called c.in-Joint.first c.in-Joint.more c.args.e.now c.deref-in-Joint.result.now c.deref-in-Joint-2.result.now c.in-Joint.is c.deref-in-Joint.ensures c.deref-in-Joint-2.ensures.value) (p.1 low))) c.joined.ensures

pub condition-returns-in_default : goal.condition-returns-in_default
condition-returns-in_default t c =
    on_ok_weaker c.asked.result (λ p. (λ low. ask.asks_over c.args.seen.now c.args.is c.saturating_sub-over.result (length (ahead c.args.out.now) - c.args.to) (λ u. trees.expr c.args.e.now u) (ahead c.args.out.now) (ahead c.asked.new.out) (ask.over_is c.saturating_sub-over.result c.len.result c.args.to c.args.out.now c.saturating_sub-over.ensures (c.len.ensures ∙ c.args.out.now.ok.0)) p.0, λ low. sp.asks_over c.saturating_sub-over.result (length (ahead c.args.out.now) - c.args.to) (λ called. expr_steps called c.args.e.now) (ahead c.args.out.now) (ahead c.asked.new.out) (ask.over_is c.saturating_sub-over.result c.len.result c.args.to c.args.out.now c.saturating_sub-over.ensures (c.len.ensures ∙ c.args.out.now.ok.0)) p.1)) c.asked.ensures

pub condition-joined-requires : goal.condition-joined-requires
condition-joined-requires t c =
    (omega (arith, ap k.cost c.in-Joint.is, k.cost-joined c.in-Joint.first c.in-Joint.more, ap k.cost c.deref-in-Joint.ensures, ap (λ (xs : List (LogicalOp × TExpr)). k.joints_cost xs) c.deref-in-Joint-2.ensures.value), tt)

pub joined-condition-requires : goal.joined-condition-requires
joined-condition-requires t c =
    (omega (arith, k.got_below (λ (x : LogicalOp × TExpr). k.cost x.1) c.args.more.now (c.loop-n.n - 1) c.part_at-part.result.now c.part_at-part.ensures), tt)

pub joined-loop-n-preserved : goal.joined-loop-n-preserved
joined-loop-n-preserved t c =
    record {
      low = omega (arith, c.loop-n.invariant.low);
      far = λ low. ask.landing_far c.args.seen.now c.decider-deciding.result c.loop-n.wanted c.loop-n.place c.len-behind.result c.landing-place.result (λ u. trees.expr c.part_at-part.result.now.1 u) (ahead c.loop-n.out) (ahead c.condition.new.out) c.landing-place.ensures (c.loop-n.invariant.far low) (ac.length_ahead c.len-behind.result c.loop-n.out (c.len-behind.ensures ∙ c.loop-n.out.ok.0)) c.in_ok-condition.ensures.0;
      made = λ low run new q. ask.joint_at c.args.seen.now c.args.is c.args.to c.loop-n.wanted c.decider-deciding.result c.loop-n.place c.len-behind.result c.landing-place.result c.loop-n.n c.args.more.now c.part_at-part.result.now run (ahead c.args.out.now) (ahead c.loop-n.out) (ahead c.condition.new.out) new (omega (arith, c.loop-n-test.true)) c.part_at-part.ensures c.decider-deciding.ensures c.landing-place.ensures (ac.length_ahead c.len-behind.result c.loop-n.out (c.len-behind.ensures ∙ c.loop-n.out.ok.0)) (c.loop-n.invariant.far low) c.in_ok-condition.ensures.0 q (c.loop-n.invariant.made low);
      cheap = λ low run new q. sp.side_at run c.args.to c.loop-n.place c.loop-n.n c.args.more.now c.part_at-part.result.now (ahead c.args.out.now) (ahead c.loop-n.out) new (omega (arith, c.loop-n-test.true)) c.part_at-part.ensures (sp.leads_both c.decider-deciding.result c.loop-n.wanted c.loop-n.place c.len-behind.result c.landing-place.result run (λ called. expr_steps called c.part_at-part.result.now.1) (ahead c.loop-n.out) (ahead c.condition.new.out) new (c.in_ok-condition.ensures.0 (c.loop-n.invariant.far low)).code c.landing-place.ensures (ac.length_ahead c.len-behind.result c.loop-n.out (c.len-behind.ensures ∙ c.loop-n.out.ok.0)) (c.loop-n.invariant.far low) (ask.landing_far c.args.seen.now c.decider-deciding.result c.loop-n.wanted c.loop-n.place c.len-behind.result c.landing-place.result (λ u. trees.expr c.part_at-part.result.now.1 u) (ahead c.loop-n.out) (ahead c.condition.new.out) c.landing-place.ensures (c.loop-n.invariant.far low) (ac.length_ahead c.len-behind.result c.loop-n.out (c.len-behind.ensures ∙ c.loop-n.out.ok.0)) c.in_ok-condition.ensures.0) (c.in_ok-condition.ensures.0 (c.loop-n.invariant.far low)).grows c.in_ok-condition.ensures.1 q) (c.loop-n.invariant.cheap low);
    }

pub joined-loop-n-init : goal.joined-loop-n-init
joined-loop-n-init t c =
    record {
      low = omega arith;
      far = λ low. low;
      made = λ low run new q. ask.joint_start c.args.seen.now c.args.is c.args.to (length c.args.more.now) c.args.more.now run (ahead c.args.out.now) new (omega arith) q;
      cheap = λ low run new q. sp.sides_start run c.args.to (length c.args.more.now) c.args.more.now (ahead c.args.out.now) new q;
    }

pub joined-returns : goal.joined-returns
joined-returns t c =
    on_ok_weaker c.condition-2.result (λ p. (λ low. ask.joint_end c.args.seen.now c.args.is c.args.to c.loop-n.wanted c.loop-n.place c.loop-n.n c.args.first.now c.args.more.now (ahead c.args.out.now) (ahead c.loop-n.out) (ahead c.condition-2.new.out) (omega (arith, c.loop-n-test.false)) (c.loop-n.invariant.made low) p.0 low, λ low. sp.sides_end (λ called. expr_steps called c.args.first.now) c.args.to c.loop-n.place c.loop-n.n c.args.more.now (ahead c.args.out.now) (ahead c.loop-n.out) (ahead c.condition-2.new.out) (omega (arith, c.loop-n-test.false)) (c.loop-n.invariant.cheap low) p.1 low)) c.condition-2.ensures
