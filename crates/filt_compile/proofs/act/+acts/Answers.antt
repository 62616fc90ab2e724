use Rattle.std.proofs.Common.{ℕ, ◌+◌, ◌-◌, List, length, take, drop, refl, sym, ap, ◌∙◌, arith}
use Rattle.filt_meaning.specs.declared.value.Sort.{Sort}
use Rattle.std.proofs.lemmas.Result.{on_ok_weaker}
use Rattle.filt_meaning.specs.Flow.{Accepted, Rejected}
use Rattle.filt_meaning.specs.Meaning.{Act}
use Rattle.filt_meaning.specs.declared.tree.TArm.{TArm}
use Rattle.filt_meaning.specs.declared.tree.TStmt.{TStmt}
use Rattle.filt_meaning.specs.Steps.{arms_steps, body_steps, expr_steps, run_steps, stmt_steps}
use Rattle.filt_meaning.specs.Trees as trees
use Rattle.filt_code.specs.declared.instr.Instr.TheVariants as instrs
use Rattle.filt_compile.specs.Emits.{ahead, jumps_to}
use Rattle.filt_meaning.proofs.Size as size
use Rattle.filt_compile.proofs.Acting as ac
use Rattle.filt_compile.proofs.Cases as cs
use Rattle.filt_compile.proofs.Cost as k
use Rattle.filt_compile.proofs.Emitting as em
use Rattle.filt_compile.proofs.Walk as w
use Rattle.filt_compile.proofs.Spending as sp
use Rattle.filt_compile.proofs.act.+acts.Goals as goal

pub act-returns-in_ok-push-in-Block : goal.act-returns-in_ok-push-in-Block
act-returns-in_ok-push-in-Block t c = on_ok_weaker c.block.result (λ p. (ac.acts_as c.args.seen.now _ (λ u. trees.stmt c.args.s.now u) (ahead c.args.out.now) (ahead c.block.new.out) (λ u vals attrs. w.block_is u c.in-Block.sorts c.in-Block.statements c.args.s.now c.deref.result.now c.deref-in-Block.result.now vals attrs c.in-Block.is c.deref.ensures.value c.deref-in-Block.ensures.value) (ac.acts_block c.args.seen.now c.len.result c.deref.result.now c.deref-in-Block.result.now (ahead c.args.out.now) (ahead c.push.new.out) (ahead c.block.new.out) (c.len.ensures ∙ c.in-Block.sorts.ok.0 ∙ ap (λ (xs : List Sort). length xs) (sym c.deref.ensures.value)) c.in_ok-push-in-Block.ensures p.0), sp.adds_as _ (λ called. stmt_steps called c.args.s.now) (ahead c.args.out.now) (ahead c.block.new.out) (λ called. sp.block_steps called c.in-Block.sorts c.in-Block.statements c.args.s.now c.deref.result.now c.deref-in-Block.result.now c.in-Block.is c.deref.ensures.value c.deref-in-Block.ensures.value) (sp.adds_both (λ called. run_steps called c.deref.result.now c.deref-in-Block.result.now) (λ called. 1) (ahead c.args.out.now) (ahead c.push.new.out) (ahead c.block.new.out) (sp.adds_do _ (ahead c.args.out.now) (ahead c.push.new.out) c.in_ok-push-in-Block.ensures) p.1))) c.block.ensures

pub act-returns-in-Nothing : goal.act-returns-in-Nothing
act-returns-in-Nothing t c = (ac.acts_as c.args.seen.now _ (λ u. trees.stmt c.args.s.now u) (ahead c.args.out.now) (ahead c.args.out.now) (λ u vals attrs. ap (λ (f : Act). f vals attrs) (w.nothing_acts c.args.s.now u c.in-Nothing.is)) (ac.acts_nothing c.args.seen.now (ahead c.args.out.now)), sp.adds_as (λ called. 0) (λ called. stmt_steps called c.args.s.now) (ahead c.args.out.now) (ahead c.args.out.now) (λ called. omega arith) (sp.adds_none (ahead c.args.out.now)))

pub act-returns-in_ok-set-in-Assign : goal.act-returns-in_ok-set-in-Assign
act-returns-in_ok-set-in-Assign t c = on_ok_weaker c.value.result (λ p. (ac.acts_as c.args.seen.now _ (λ u. trees.stmt c.args.s.now u) (ahead c.args.out.now) (ahead c.value.new.out) (λ u vals attrs. w.assign_is u c.in-Assign.target c.in-Assign.e c.args.s.now vals attrs c.in-Assign.is) (ac.acts_assign c.args.seen.now c.in-Assign.target c.in-Assign.e (ahead c.args.out.now) (ahead c.set.new.out) (ahead c.value.new.out) c.in_ok-set-in-Assign.ensures.0 p.0), sp.adds_as _ (λ called. stmt_steps called c.args.s.now) (ahead c.args.out.now) (ahead c.value.new.out) (λ called. sp.assign_steps called c.in-Assign.target c.in-Assign.e c.args.s.now c.in-Assign.is) (sp.adds_both (λ called. expr_steps called c.in-Assign.e) (λ called. 1) (ahead c.args.out.now) (ahead c.set.new.out) (ahead c.value.new.out) c.in_ok-set-in-Assign.ensures.1 p.1))) c.value.ensures

pub act-returns-in-Unset : goal.act-returns-in-Unset
act-returns-in-Unset t c = on_ok_weaker c.push-in-Unset.result (λ is. (ac.acts_as c.args.seen.now _ (λ u. trees.stmt c.args.s.now u) (ahead c.args.out.now) (ahead c.push-in-Unset.new.out) (λ u vals attrs. ap (λ (f : Act). f vals attrs) (w.unset_acts c.in-Unset.a c.args.s.now u c.in-Unset.is)) (ac.acts_unset c.args.seen.now c.in-Unset.a (ahead c.args.out.now) (ahead c.push-in-Unset.new.out) is), sp.adds_as (λ called. 1) (λ called. stmt_steps called c.args.s.now) (ahead c.args.out.now) (ahead c.push-in-Unset.new.out) (λ called. sp.unset_steps called c.in-Unset.a c.args.s.now c.in-Unset.is) (sp.adds_do _ (ahead c.args.out.now) (ahead c.push-in-Unset.new.out) is))) c.push-in-Unset.ensures

pub act-returns-in-Accept : goal.act-returns-in-Accept
act-returns-in-Accept t c = on_ok_weaker c.push-in-Accept.result (λ is. (ac.acts_as c.args.seen.now _ (λ u. trees.stmt c.args.s.now u) (ahead c.args.out.now) (ahead c.push-in-Accept.new.out) (λ u vals attrs. ap (λ (f : Act). f vals attrs) (w.accept_acts c.args.s.now u c.in-Accept.is)) (ac.acts_stop c.args.seen.now instrs.Accept Accepted (ahead c.args.out.now) (ahead c.push-in-Accept.new.out) is (λ s vals attrs. refl)), sp.adds_as (λ called. 1) (λ called. stmt_steps called c.args.s.now) (ahead c.args.out.now) (ahead c.push-in-Accept.new.out) (λ called. sp.accept_steps called c.args.s.now c.in-Accept.is) (sp.adds_last _ (ahead c.args.out.now) (ahead c.push-in-Accept.new.out) is (λ fs. refl)))) c.push-in-Accept.ensures

pub act-returns-in-Reject : goal.act-returns-in-Reject
act-returns-in-Reject t c = on_ok_weaker c.push-in-Reject.result (λ is. (ac.acts_as c.args.seen.now _ (λ u. trees.stmt c.args.s.now u) (ahead c.args.out.now) (ahead c.push-in-Reject.new.out) (λ u vals attrs. ap (λ (f : Act). f vals attrs) (w.reject_acts c.args.s.now u c.in-Reject.is)) (ac.acts_stop c.args.seen.now instrs.Reject Rejected (ahead c.args.out.now) (ahead c.push-in-Reject.new.out) is (λ s vals attrs. refl)), sp.adds_as (λ called. 1) (λ called. stmt_steps called c.args.s.now) (ahead c.args.out.now) (ahead c.push-in-Reject.new.out) (λ called. sp.reject_steps called c.args.s.now c.in-Reject.is) (sp.adds_last _ (ahead c.args.out.now) (ahead c.push-in-Reject.new.out) is (λ fs. refl)))) c.push-in-Reject.ensures

pub act-returns-in-If : goal.act-returns-in-If
act-returns-in-If t c = on_ok_weaker c.choice.result (λ p. (ac.acts_as c.args.seen.now _ (λ u. trees.stmt c.args.s.now u) (ahead c.args.out.now) (ahead c.choice.new.out) (λ u vals attrs. w.if_is u c.in-If.e c.in-If.first c.args.s.now c.deref-in-If.result.now vals attrs c.in-If.is c.deref-in-If.ensures) p.0, sp.adds_as _ (λ called. stmt_steps called c.args.s.now) (ahead c.args.out.now) (ahead c.choice.new.out) (λ called. sp.if_steps called c.in-If.e c.in-If.first c.args.s.now c.deref-in-If.result.now c.in-If.is c.deref-in-If.ensures) p.1)) c.choice.ensures

pub act-returns-in-IfElse : goal.act-returns-in-IfElse
act-returns-in-IfElse t c = on_ok_weaker c.either.result (λ p. (ac.acts_as c.args.seen.now _ (λ u. trees.stmt c.args.s.now u) (ahead c.args.out.now) (ahead c.either.new.out) (λ u vals attrs. w.if_else_is u c.in-IfElse.e c.in-IfElse.first c.in-IfElse.second c.args.s.now c.deref-in-IfElse.result.now c.deref-in-IfElse-2.result.now vals attrs c.in-IfElse.is c.deref-in-IfElse.ensures c.deref-in-IfElse-2.ensures) p.0, sp.adds_as _ (λ called. stmt_steps called c.args.s.now) (ahead c.args.out.now) (ahead c.either.new.out) (λ called. sp.if_else_steps called c.in-IfElse.e c.in-IfElse.first c.in-IfElse.second c.args.s.now c.deref-in-IfElse.result.now c.deref-in-IfElse-2.result.now c.in-IfElse.is c.deref-in-IfElse.ensures c.deref-in-IfElse-2.ensures) p.1)) c.either.ensures

pub act-returns-in-Case : goal.act-returns-in-Case
act-returns-in-Case t c = on_ok_weaker c.case.result (λ p. (ac.acts_as c.args.seen.now _ (λ u. trees.stmt c.args.s.now u) (ahead c.args.out.now) (ahead c.case.new.out) (λ u vals attrs. w.case_is u c.in-Case.e c.in-Case.arms c.in-Case.otherwise c.args.s.now c.deref-in-Case.result.now c.deref-in-Case-2.result.now vals attrs c.in-Case.is c.deref-in-Case.ensures.value c.deref-in-Case-2.ensures.value) p.0, sp.adds_as _ (λ called. stmt_steps called c.args.s.now) (ahead c.args.out.now) (ahead c.case.new.out) (λ called. sp.case_steps called c.in-Case.e c.in-Case.arms c.in-Case.otherwise c.args.s.now c.deref-in-Case.result.now c.deref-in-Case-2.result.now c.in-Case.is c.deref-in-Case.ensures.value c.deref-in-Case-2.ensures.value) p.1)) c.case.ensures

pub act-returns-in-For : goal.act-returns-in-For
act-returns-in-For t c = on_ok_weaker c.turns.result (λ p. (ac.acts_as c.args.seen.now _ (λ u. trees.stmt c.args.s.now u) (ahead c.args.out.now) (ahead c.turns.new.out) (λ u vals attrs. w.for_is u c.in-For.e c.in-For.turn c.args.s.now c.deref-in-For.result.now vals attrs c.in-For.is c.deref-in-For.ensures) p.0, sp.adds_as _ (λ called. stmt_steps called c.args.s.now) (ahead c.args.out.now) (ahead c.turns.new.out) (λ called. sp.for_steps called c.in-For.e c.in-For.turn c.args.s.now c.deref-in-For.result.now c.in-For.is c.deref-in-For.ensures) p.1)) c.turns.ensures

pub act-returns-in-Return : goal.act-returns-in-Return
act-returns-in-Return t c = on_ok_weaker c.give.result (λ p. (ac.acts_as c.args.seen.now _ (λ u. trees.stmt c.args.s.now u) (ahead c.args.out.now) (ahead c.give.new.out) (λ u vals attrs. w.return_is u c.in-Return.e c.args.s.now vals attrs c.in-Return.is) p.0, sp.adds_as _ (λ called. stmt_steps called c.args.s.now) (ahead c.args.out.now) (ahead c.give.new.out) (λ called. sp.return_steps called c.in-Return.e c.args.s.now c.in-Return.is) p.1)) c.give.ensures

pub act-returns-in-Print : goal.act-returns-in-Print
act-returns-in-Print t c = on_ok_weaker c.dropped.result (λ p. (ac.acts_as c.args.seen.now _ (λ u. trees.stmt c.args.s.now u) (ahead c.args.out.now) (ahead c.dropped.new.out) (λ u vals attrs. w.print_is u c.in-Print.es c.args.s.now c.deref-in-Print.result.now vals attrs c.in-Print.is c.deref-in-Print.ensures.value) p.0, sp.adds_as _ (λ called. stmt_steps called c.args.s.now) (ahead c.args.out.now) (ahead c.dropped.new.out) (λ called. sp.print_steps called c.in-Print.es c.args.s.now c.deref-in-Print.result.now c.in-Print.is c.deref-in-Print.ensures.value) p.1)) c.dropped.ensures

pub act-returns-in-Call : goal.act-returns-in-Call
act-returns-in-Call t c = on_ok_weaker c.perform.result (λ p. (ac.acts_as c.args.seen.now _ (λ u. trees.stmt c.args.s.now u) (ahead c.args.out.now) (ahead c.perform.new.out) (λ u vals attrs. w.do_is u c.in-Call.number c.in-Call.es c.args.s.now c.deref-in-Call.result.now vals attrs c.in-Call.is c.deref-in-Call.ensures.value) p.0, sp.adds_as _ (λ called. stmt_steps called c.args.s.now) (ahead c.args.out.now) (ahead c.perform.new.out) (λ called. sp.do_steps called c.in-Call.number c.in-Call.es c.args.s.now c.deref-in-Call.result.now c.in-Call.is c.deref-in-Call.ensures.value) p.1)) c.perform.ensures

pub act-case-requires : goal.act-case-requires
act-case-requires t c =
    (omega (arith, ap k.act_cost c.in-Case.is, k.act-cost-Case c.in-Case.e c.in-Case.arms c.in-Case.otherwise, ap (λ (xs : List (TArm TStmt)). k.arms_cost xs) c.deref-in-Case.ensures.value, ap (λ (ss : List TStmt). k.body_cost ss) c.deref-in-Case-2.ensures.value), tt)

pub body-loop-n-preserved : goal.body-loop-n-preserved
body-loop-n-preserved t c = record {
  low = omega (arith, c.loop-n.invariant.low);
  made = ac.acts_at c.args.seen.now c.args.statements.now c.loop-n.n c.index-statements-n.result (ahead c.args.out.now) (ahead c.loop-n.out) (ahead c.act.new.out) (omega (arith, c.loop-n-test.true)) c.loop-n.invariant.low c.index-statements-n.is c.loop-n.invariant.made c.in_ok-act.ensures.0;
  cheap = sp.adds_more body_steps stmt_steps (drop c.loop-n.n c.args.statements.now) (drop (c.loop-n.n - 1) c.args.statements.now) c.index-statements-n.result (ahead c.args.out.now) (ahead c.loop-n.out) (ahead c.act.new.out) (λ called. refl) (sp.next_is c.args.statements.now c.loop-n.n c.index-statements-n.result (omega (arith, c.loop-n-test.true)) c.loop-n.invariant.low c.index-statements-n.is) c.loop-n.invariant.cheap c.in_ok-act.ensures.1;
}

pub body-act-requires : goal.body-act-requires
body-act-requires t c =
    (omega (arith, size.item_below k.act_cost c.args.statements.now (c.loop-n.n - 1) c.index-statements-n.result (omega (arith, c.loop-n.invariant.low, c.loop-n-test.true)) c.index-statements-n.is), tt)

pub body-returns : goal.body-returns
body-returns t c = (ac.acts_end c.args.seen.now c.args.statements.now c.loop-n.n (ahead c.args.out.now) (ahead c.loop-n.out) (omega (arith, c.loop-n-test.false)) c.loop-n.invariant.made, sp.adds_end body_steps c.args.statements.now c.loop-n.n (ahead c.args.out.now) (ahead c.loop-n.out) (omega (arith, c.loop-n-test.false)) c.loop-n.invariant.cheap)

pub block-returns : goal.block-returns
block-returns t c =
    on_ok_weaker c.declare.result (λ q. (ac.runs_block c.args.seen.now c.args.sorts.now c.args.statements.now (ahead c.args.out.now) (ahead c.body.new.out) (ahead c.declare.new.out) c.in_ok-body.ensures.0 q.0, sp.adds_both (λ called. length c.args.sorts.now) (λ called. body_steps called c.args.statements.now) (ahead c.args.out.now) (ahead c.body.new.out) (ahead c.declare.new.out) c.in_ok-body.ensures.1 q.1)) c.declare.ensures

pub choice-returns : goal.choice-returns
choice-returns t c =
    on_ok_weaker c.condition.result (λ p. (ac.acts_if c.args.seen.now c.len-behind.result c.args.e.now c.args.first.now (ahead c.args.out.now) (ahead c.act.new.out) (ahead c.condition.new.out) c.in_ok-act.ensures.0 (ac.length_ahead c.len-behind.result c.args.out.now (c.len-behind.ensures ∙ c.args.out.now.ok.0)) p.0, sp.adds_if (λ called. expr_steps called c.args.e.now) (λ called. stmt_steps called c.args.first.now) c.len-behind.result (ahead c.args.out.now) (ahead c.act.new.out) (ahead c.condition.new.out) c.in_ok-act.ensures.0.code (ac.length_ahead c.len-behind.result c.args.out.now (c.len-behind.ensures ∙ c.args.out.now.ok.0)) c.in_ok-act.ensures.0.grows c.in_ok-act.ensures.1 p.1)) c.condition.ensures

pub either-returns : goal.either-returns
either-returns t c =
    on_ok_weaker c.condition.result (λ q. (ac.acts_either c.args.seen.now c.saturating_sub.result c.len-other.result c.args.e.now c.args.first.now c.args.second.now (ahead c.args.out.now) (ahead c.act.new.out) (ahead c.push.new.out) (ahead c.act-2.new.out) (ahead c.condition.new.out) c.in_ok-act.ensures.0 (em.distance c.saturating_sub.result c.len-other.result c.len-before.result c.act.new.out c.args.out.now c.saturating_sub.ensures (c.len-other.ensures ∙ c.act.new.out.ok.0) (c.len-before.ensures ∙ c.args.out.now.ok.0)) c.in_ok-push.ensures c.in_ok-act-2.ensures.0 (ac.length_ahead c.len-other.result c.act.new.out (c.len-other.ensures ∙ c.act.new.out.ok.0)) q.0, sp.adds_either (λ called. expr_steps called c.args.e.now) (λ called. stmt_steps called c.args.first.now) (λ called. stmt_steps called c.args.second.now) c.saturating_sub.result c.len-other.result (ahead c.args.out.now) (ahead c.act.new.out) (ahead c.push.new.out) (ahead c.act-2.new.out) (ahead c.condition.new.out) c.in_ok-act.ensures.0.code c.in_ok-act-2.ensures.0.code c.in_ok-act.ensures.1 c.in_ok-act.ensures.0.grows (em.distance c.saturating_sub.result c.len-other.result c.len-before.result c.act.new.out c.args.out.now c.saturating_sub.ensures (c.len-other.ensures ∙ c.act.new.out.ok.0) (c.len-before.ensures ∙ c.args.out.now.ok.0)) c.in_ok-push.ensures c.in_ok-act-2.ensures.1 c.in_ok-act-2.ensures.0.grows (ac.length_ahead c.len-other.result c.act.new.out (c.len-other.ensures ∙ c.act.new.out.ok.0)) q.1)) c.condition.ensures

pub turns-returns : goal.turns-returns
turns-returns t c =
    on_ok_weaker c.value.result (λ q. (ac.acts_for c.args.seen.now c.saturating_sub-passed.result c.args.e.now c.args.turn.now (ahead c.args.out.now) (ahead c.push.new.out) (ahead c.act.new.out) (ahead c.push-2.new.out) (ahead c.value.new.out) c.in_ok-push.ensures c.in_ok-act.ensures.0 (em.distance c.saturating_sub-passed.result c.len.result c.len-before.result c.act.new.out c.args.out.now c.saturating_sub-passed.ensures (c.len.ensures ∙ c.act.new.out.ok.0) (c.len-before.ensures ∙ c.args.out.now.ok.0)) c.in_ok-push-2.ensures q.0, sp.adds_for (λ called. expr_steps called c.args.e.now) (λ called. stmt_steps called c.args.turn.now) c.saturating_sub-passed.result (ahead c.args.out.now) (ahead c.push.new.out) (ahead c.act.new.out) (ahead c.push-2.new.out) (ahead c.value.new.out) c.in_ok-act.ensures.0.code c.in_ok-push.ensures c.in_ok-act.ensures.1 c.in_ok-act.ensures.0.grows (em.distance c.saturating_sub-passed.result c.len.result c.len-before.result c.act.new.out c.args.out.now c.saturating_sub-passed.ensures (c.len.ensures ∙ c.act.new.out.ok.0) (c.len-before.ensures ∙ c.args.out.now.ok.0)) c.in_ok-push-2.ensures q.1)) c.value.ensures

pub case-returns : goal.case-returns
case-returns t c =
    on_ok_weaker c.value.result (λ q. (cs.acts_case c.args.seen.now c.saturating_sub-passed.result c.args.e.now _ c.args.otherwise.now c.in_ok-starts.starts.items (ahead c.args.out.now) (ahead c.body.new.out) (ahead c.bodies.new.out) (ahead c.push.new.out) (ahead c.jumps.new.out) (ahead c.push-2.new.out) (ahead c.value.new.out) c.in_ok-body.ensures.0 (c.in_ok-starts.ensures (ahead c.args.out.now) (ac.length_ahead c.len-before.result c.args.out.now (c.len-before.ensures ∙ c.args.out.now.ok.0)) (cs.grows_acts c.args.seen.now _ (ahead c.args.out.now) (ahead c.body.new.out) c.in_ok-body.ensures.0)).0 (em.distance c.saturating_sub-passed.result c.len.result c.len-other.result c.bodies.new.out c.body.new.out c.saturating_sub-passed.ensures (c.len.ensures ∙ c.bodies.new.out.ok.0) (c.len-other.ensures ∙ c.body.new.out.ok.0)) c.in_ok-push.ensures (c.in_ok-jumps.ensures ∙ ap (λ (xs : List ℕ). jumps_to xs (ahead c.push.new.out)) c.deref.ensures.value) c.in_ok-push-2.ensures q.0, sp.adds_case (λ called. expr_steps called c.args.e.now) (λ called. body_steps called c.args.otherwise.now) (λ called. arms_steps called c.args.arms.now) c.saturating_sub-passed.result _ c.in_ok-starts.starts.items (ahead c.args.out.now) (ahead c.body.new.out) (ahead c.bodies.new.out) (ahead c.push.new.out) (ahead c.jumps.new.out) (ahead c.push-2.new.out) (ahead c.value.new.out) (c.in_ok-starts.ensures (ahead c.args.out.now) (ac.length_ahead c.len-before.result c.args.out.now (c.len-before.ensures ∙ c.args.out.now.ok.0)) (cs.grows_acts c.args.seen.now _ (ahead c.args.out.now) (ahead c.body.new.out) c.in_ok-body.ensures.0)).0.front.code (sp.as_many_starts c.args.seen.now c.args.arms.now c.in_ok-starts.starts.items (ahead c.args.out.now) (ahead c.bodies.new.out) (c.in_ok-starts.ensures (ahead c.args.out.now) (ac.length_ahead c.len-before.result c.args.out.now (c.len-before.ensures ∙ c.args.out.now.ok.0)) (cs.grows_acts c.args.seen.now _ (ahead c.args.out.now) (ahead c.body.new.out) c.in_ok-body.ensures.0)).0.targets) c.in_ok-body.ensures.1 (c.in_ok-starts.ensures (ahead c.args.out.now) (ac.length_ahead c.len-before.result c.args.out.now (c.len-before.ensures ∙ c.args.out.now.ok.0)) (cs.grows_acts c.args.seen.now _ (ahead c.args.out.now) (ahead c.body.new.out) c.in_ok-body.ensures.0)).1 (c.in_ok-starts.ensures (ahead c.args.out.now) (ac.length_ahead c.len-before.result c.args.out.now (c.len-before.ensures ∙ c.args.out.now.ok.0)) (cs.grows_acts c.args.seen.now _ (ahead c.args.out.now) (ahead c.body.new.out) c.in_ok-body.ensures.0)).0.front.grows (em.distance c.saturating_sub-passed.result c.len.result c.len-other.result c.bodies.new.out c.body.new.out c.saturating_sub-passed.ensures (c.len.ensures ∙ c.bodies.new.out.ok.0) (c.len-other.ensures ∙ c.body.new.out.ok.0)) c.in_ok-push.ensures (c.in_ok-jumps.ensures ∙ ap (λ (xs : List ℕ). jumps_to xs (ahead c.push.new.out)) c.deref.ensures.value) c.in_ok-push-2.ensures q.1)) c.value.ensures

pub bodies-loop-arm-preserved : goal.bodies-loop-arm-preserved
bodies-loop-arm-preserved t c =
    λ old before grows. (cs.bodies_more c.args.seen.now c.saturating_sub-passed.result c.len-in-loop-arm.result (take c.loop-arm.arm-index c.args.arms.now) (take (c.loop-arm.arm-index + 1) c.args.arms.now) c.loop-arm.starts.items c.push-in-loop-arm.new.self.items c.arm-item.result c.deref.result.now old (ahead c.args.out.now) (ahead c.loop-arm.out) (ahead c.push.new.out) (ahead c.body.new.out) (cs.taken_next c.args.arms.now c.loop-arm.arm-index c.arm-item.result c.loop-arm-test.true c.arm-item.is) c.in_ok-push-2.ensures.items c.deref.ensures.value grows (c.loop-arm.invariant old before grows).0 (ac.distance_from c.saturating_sub-passed.result c.len.result c.args.before c.loop-arm.out old c.saturating_sub-passed.ensures (c.len.ensures ∙ c.loop-arm.out.ok.0) before) c.in_ok-push.ensures c.in_ok-body.ensures.0 (ac.length_ahead c.len-in-loop-arm.result c.body.new.out (c.len-in-loop-arm.ensures ∙ c.body.new.out.ok.0)), sp.starts_more c.args.arms.now c.loop-arm.arm-index c.saturating_sub-passed.result c.len-in-loop-arm.result c.arm-item.result c.deref.result.now c.loop-arm.starts.items c.push-in-loop-arm.new.self.items old (ahead c.loop-arm.out) (ahead c.push.new.out) (ahead c.body.new.out) (cs.grows_by old (ahead c.args.out.now) (ahead c.loop-arm.out) grows (c.loop-arm.invariant old before grows).0.front).code c.in_ok-body.ensures.0.code c.loop-arm-test.true c.arm-item.is c.deref.ensures.value c.in_ok-push-2.ensures.items (c.loop-arm.invariant old before grows).1 (cs.grows_by old (ahead c.args.out.now) (ahead c.loop-arm.out) grows (c.loop-arm.invariant old before grows).0.front).grows (ac.distance_from c.saturating_sub-passed.result c.len.result c.args.before c.loop-arm.out old c.saturating_sub-passed.ensures (c.len.ensures ∙ c.loop-arm.out.ok.0) before) c.in_ok-push.ensures c.in_ok-body.ensures.1 c.in_ok-body.ensures.0.grows (ac.length_ahead c.len-in-loop-arm.result c.body.new.out (c.len-in-loop-arm.ensures ∙ c.body.new.out.ok.0)))

pub bodies-returns : goal.bodies-returns
bodies-returns t c =
    λ old before grows. (cs.bodies_end c.args.seen.now c.loop-arm.arm-index c.args.arms.now c.loop-arm.starts.items old (ahead c.args.out.now) (ahead c.loop-arm.out) (omega (arith, c.loop-arm-test.false)) (c.loop-arm.invariant old before grows).0, (c.loop-arm.invariant old before grows).1)

pub bodies-body-requires : goal.bodies-body-requires
bodies-body-requires t c =
    (omega (arith, size.item_below (λ (a : TArm TStmt). k.body_cost a.body.items) c.args.arms.now c.loop-arm.arm-index c.arm-item.result c.loop-arm-test.true c.arm-item.is, ap (λ (ss : List TStmt). k.body_cost ss) c.deref.ensures.value), tt)
