use Rattle.std.proofs.Common.{arith, List, ap, ◌∙◌}
use Rattle.conf_ast.specs.declared.filters.Arm.{Arm}
use Rattle.conf_ast.specs.declared.filters.Stmt.{Stmt}
use Rattle.conf_ast.specs.Filters.{Statement, statement_of, statements_of}
use Rattle.filt_types.specs.Walk.{arms_of}
use Rattle.filt_types.specs.Seen.{scene_of}
use Rattle.filt_types.specs.Weight.{act_weight, acts_weight, arms_weight}
use Rattle.filt_types.proofs.Cost as k
use Rattle.filt_types.proofs.Trees as o
use Rattle.filt_types.proofs.Weighing as g
use Rattle.filt_rules.proofs.weight.+statement_weight.Goals as goal

pub weigh_arms-weigh_statements-requires : goal.weigh_arms-weigh_statements-requires
weigh_arms-weigh_statements-requires t c = (omega (arith, ap k.stmts_cost c.deref.ensures.value, k.item_below k.arm_cost c.args.arms.now c.loop-arm.arm-index c.arm-item.result c.loop-arm-test.true c.arm-item.is), tt)

pub weigh_statements-weigh_statement-requires : goal.weigh_statements-weigh_statement-requires
weigh_statements-weigh_statement-requires t c = (omega (arith, k.item_below k.stmt_cost c.args.body.now c.loop-s.s-index c.s-item.result c.loop-s-test.true c.s-item.is), tt)

pub weigh_statement-weigh_case-requires : goal.weigh_statement-weigh_case-requires
weigh_statement-weigh_case-requires t c = (omega (arith, ap k.stmt_cost c.in-Case.is, k.cost-Case c.in-Case.at c.in-Case.value c.in-Case.arms c.in-Case.otherwise, ap k.arms_cost c.deref-in-Case.ensures.value), tt)

pub weigh_statement-returns-in-Block-clause-value : goal.weigh_statement-returns-in-Block-clause-value
weigh_statement-returns-in-Block-clause-value t c =
    let scene = scene_of c.args.text.now c.args.scope.now in
    let e = ap (λ (x : Stmt). act_weight scene (statement_of x)) c.in-Block.is ∙ ap (λ (x : Statement). act_weight scene x) (o.as-Block c.in-Block.body) in
    let b = ap (λ (xs : List Stmt). acts_weight scene (statements_of xs)) c.deref.ensures.value in
    omega (arith, e, b, c.weigh_statements.ensures.value, c.plus.ensures.sum)

pub weigh_statement-returns-in-Case-clause-value : goal.weigh_statement-returns-in-Case-clause-value
weigh_statement-returns-in-Case-clause-value t c =
    let scene = scene_of c.args.text.now c.args.scope.now in
    let e = ap (λ (x : Stmt). act_weight scene (statement_of x)) c.in-Case.is ∙ g.of-Case scene c.in-Case.at c.in-Case.value c.in-Case.arms c.in-Case.otherwise in
    let b = ap (λ (xs : List (Arm Stmt)). arms_weight scene (arms_of xs)) c.deref-in-Case.ensures.value in
    omega (arith, e, b, c.weigh_case.ensures.value)
