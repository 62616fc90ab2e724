use Rattle.std.proofs.Common.{arith, List, ap, ◌∙◌}
use Rattle.conf_ast.specs.declared.filters.Access.{Access}
use Rattle.conf_ast.specs.declared.filters.Expr.{Expr}
use Rattle.conf_ast.specs.declared.filters.MulOp.{MulOp}
use Rattle.conf_ast.specs.declared.filters.LogicalOp.{LogicalOp}
use Rattle.conf_ast.specs.declared.filters.AddOp.{AddOp}
use Rattle.conf_ast.specs.Filters.{Expression, expression_of, expressions_of}
use Rattle.filt_types.specs.Seen.{scene_of}
use Rattle.filt_types.specs.Weight.{weight, weights}
use Rattle.filt_types.proofs.Cost as k
use Rattle.filt_types.proofs.Trees as o
use Rattle.filt_types.proofs.Weighing as g
use Rattle.filt_rules.proofs.weight.+weight.Goals as goal

pub weigh-weigh_accesses-requires : goal.weigh-weigh_accesses-requires
weigh-weigh_accesses-requires t c = (omega (arith, ap k.cost c.in-Postfix.is, k.cost-Postfix c.in-Postfix.operand c.in-Postfix.more, ap k.cost c.deref-in-Postfix.ensures, ap (λ (xs : List (Access Expr)). k.accesses_cost xs) c.deref-in-Postfix-2.ensures.value), tt)

pub weigh-weigh_factors-requires : goal.weigh-weigh_factors-requires
weigh-weigh_factors-requires t c = (omega (arith, ap k.cost c.in-Product.is, k.cost-Product c.in-Product.operand c.in-Product.more, ap k.cost c.deref-in-Product.ensures, ap (λ (xs : List (MulOp × Expr)). k.operands_cost xs) c.deref-in-Product-2.ensures.value), tt)

pub weigh-weigh_terms-requires : goal.weigh-weigh_terms-requires
weigh-weigh_terms-requires t c = (omega (arith, ap k.cost c.in-Sum.is, k.cost-Sum c.in-Sum.operand c.in-Sum.more, ap k.cost c.deref-in-Sum.ensures, ap (λ (xs : List (AddOp × Expr)). k.operands_cost xs) c.deref-in-Sum-2.ensures.value), tt)

pub weigh-weigh_joints-requires : goal.weigh-weigh_joints-requires
weigh-weigh_joints-requires t c = (omega (arith, ap k.cost c.in-Logical.is, k.cost-Logical c.in-Logical.operand c.in-Logical.more, ap k.cost c.deref-in-Logical.ensures, ap (λ (xs : List (LogicalOp × Expr)). k.operands_cost xs) c.deref-in-Logical-2.ensures.value), tt)

pub weigh_accesses-weigh_access-requires : goal.weigh_accesses-weigh_access-requires
weigh_accesses-weigh_access-requires t c = (omega (arith, k.item_below k.access_cost c.args.more.now c.loop-access.access-index c.access-item.result c.loop-access-test.true c.access-item.is), tt)

pub weigh_all-weigh-requires : goal.weigh_all-weigh-requires
weigh_all-weigh-requires t c = (omega (arith, k.item_below k.cost c.args.expressions.now c.loop-e.e-index c.e-item.result c.loop-e-test.true c.e-item.is), tt)

pub weigh_factors-weigh-requires : goal.weigh_factors-weigh-requires
weigh_factors-weigh-requires t c = (omega (arith, k.item_below (λ (x : MulOp × Expr). k.operand_cost x) c.args.more.now c.loop-part.part-index c.part-item.result c.loop-part-test.true c.part-item.is), tt)

pub weigh_terms-weigh-requires : goal.weigh_terms-weigh-requires
weigh_terms-weigh-requires t c = (omega (arith, k.item_below (λ (x : AddOp × Expr). k.operand_cost x) c.args.more.now c.loop-part.part-index c.part-item.result c.loop-part-test.true c.part-item.is), tt)

pub weigh_joints-weigh-requires : goal.weigh_joints-weigh-requires
weigh_joints-weigh-requires t c = (omega (arith, k.item_below (λ (x : LogicalOp × Expr). k.operand_cost x) c.args.more.now c.loop-part.part-index c.part-item.result c.loop-part-test.true c.part-item.is), tt)

pub weigh_accesses-loop-access-init : goal.weigh_accesses-loop-access-init
weigh_accesses-loop-access-init t c =
    let e = g.of-accessed (scene_of c.args.text.now c.args.scope.now) (expression_of c.args.operand.now) c.args.more.now in
    record { value = omega (arith, e, c.weigh-sum.ensures.value); bound = c.weigh-sum.ensures.bound }

pub weigh_factors-loop-part-init : goal.weigh_factors-loop-part-init
weigh_factors-loop-part-init t c =
    let e = g.of-multiplied (scene_of c.args.text.now c.args.scope.now) (expression_of c.args.operand.now) c.args.more.now in
    record { value = omega (arith, e, c.weigh-sum.ensures.value); bound = c.weigh-sum.ensures.bound }

pub weigh_terms-loop-part-init : goal.weigh_terms-loop-part-init
weigh_terms-loop-part-init t c =
    let e = g.of-added (scene_of c.args.text.now c.args.scope.now) (expression_of c.args.operand.now) c.args.more.now in
    record { value = omega (arith, e, c.weigh-sum.ensures.value); bound = c.weigh-sum.ensures.bound }

pub weigh_joints-loop-part-init : goal.weigh_joints-loop-part-init
weigh_joints-loop-part-init t c =
    let e = g.of-joined (scene_of c.args.text.now c.args.scope.now) (expression_of c.args.operand.now) c.args.more.now in
    record { value = omega (arith, e, c.weigh-sum.ensures.value); bound = c.weigh-sum.ensures.bound }

pub weigh-returns-in-Call-clause-value : goal.weigh-returns-in-Call-clause-value
weigh-returns-in-Call-clause-value t c =
    let scene = scene_of c.args.text.now c.args.scope.now in
    let e = ap (λ (x : Expr). weight scene (expression_of x)) c.in-Call.is ∙ ap (λ (x : Expression). weight scene x) (o.is-Call c.in-Call.name c.in-Call.open c.in-Call.arguments) in
    let b = ap (λ (xs : List Expr). weights scene (expressions_of xs)) c.deref.ensures.value in
    omega (arith, e, b, c.weigh_call.ensures.value)
