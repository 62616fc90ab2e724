use Rattle.std.proofs.Common.{◌+◌, ◌*◌, ◌∙◌, arith, List, drop, map, ap}
use Rattle.conf_ast.specs.declared.filters.Access.{Access}
use Rattle.conf_ast.specs.declared.filters.Expr.{Expr}
use Rattle.conf_ast.specs.declared.filters.MulOp.{MulOp}
use Rattle.conf_ast.specs.declared.filters.LogicalOp.{LogicalOp}
use Rattle.conf_ast.specs.declared.filters.AddOp.{AddOp}
use Rattle.conf_ast.specs.Filters.{expression_of}
use Rattle.filt_meaning.specs.Values.{Val}
use Rattle.filt_meaning.specs.Flow.{Run}
use Rattle.filt_meaning.specs.Meaning.{value}
use Rattle.filt_meaning.specs.Scopes.{context_of, tables_of}
use Rattle.filt_meaning.specs.declared.tree.TExpr.{TExpr}
use Rattle.filt_meaning.specs.declared.tree.TExpr.TheVariants as te
use Rattle.filt_meaning.specs.Trees as trees
use Rattle.filt_types.proofs.Cost as k
use Rattle.filt_resolve.specs.Seen.{values_in, access_in, accesses_in, parts_in}
use Rattle.filt_meaning.specs.Steps.{expr_steps, sum}
use Rattle.filt_meaning.proofs.Steps as s
use Rattle.filt_types.specs.Seen.{scene_of}
use Rattle.filt_types.specs.Weight.{weight}
use Rattle.filt_types.specs.Walk.{access_weight}
use Rattle.filt_resolve.specs.Steps.{calls, dot_steps}
use Rattle.filt_resolve.proofs.Taken as w
use Rattle.filt_resolve.proofs.Tested as x
use Rattle.filt_resolve.proofs.Resolving as r
use Rattle.filt_items.proofs.Sets.{next_item}
use Rattle.filt_resolve.proofs.expressions.+resolve.Goals as goal

pub compare-returns-clause-meaning : goal.compare-returns-clause-meaning
compare-returns-clause-meaning t c = λ around. c.comparison.ensures.meaning (tables_of around c.args.scope.now) ∙ x.on_both c.args.op (trees.expr c.in_ok-a.a.value (tables_of around c.args.scope.now)) (trees.expr c.in_ok-b.b.value (tables_of around c.args.scope.now)) (value (expression_of c.args.left.now) (context_of c.args.text.now around c.args.scope.now c.args.names.now)) (value (expression_of c.args.right.now) (context_of c.args.text.now around c.args.scope.now c.args.names.now)) (c.in_ok-a.ensures.meaning around) (c.in_ok-b.ensures.meaning around)

pub access-returns-clause-meaning : goal.access-returns-clause-meaning
access-returns-clause-meaning t c = λ around. r.access_made (tables_of around c.args.scope.now) c.in_ok-a.a c.in_ok-accesses.accesses (value (expression_of c.args.operand.now) (context_of c.args.text.now around c.args.scope.now c.args.names.now)) (accesses_in (context_of c.args.text.now around c.args.scope.now c.args.names.now) c.args.more.now) (c.in_ok-a.ensures.meaning around) (c.in_ok-accesses.ensures.meaning around)

pub product-returns-clause-meaning : goal.product-returns-clause-meaning
product-returns-clause-meaning t c = λ around. r.product_made (tables_of around c.args.scope.now) c.in_ok-a.a c.in_ok-factors.factors (value (expression_of c.args.operand.now) (context_of c.args.text.now around c.args.scope.now c.args.names.now)) (parts_in (context_of c.args.text.now around c.args.scope.now c.args.names.now) c.args.more.now) (c.in_ok-a.ensures.meaning around) (c.in_ok-factors.ensures.meaning around)

pub sum-returns-clause-meaning : goal.sum-returns-clause-meaning
sum-returns-clause-meaning t c = λ around. r.sum_made (tables_of around c.args.scope.now) c.in_ok-a.a c.in_ok-terms.terms (value (expression_of c.args.operand.now) (context_of c.args.text.now around c.args.scope.now c.args.names.now)) (parts_in (context_of c.args.text.now around c.args.scope.now c.args.names.now) c.args.more.now) (c.in_ok-a.ensures.meaning around) (c.in_ok-terms.ensures.meaning around)

pub joint-returns-clause-meaning : goal.joint-returns-clause-meaning
joint-returns-clause-meaning t c = λ around. r.joint_made (tables_of around c.args.scope.now) c.in_ok-a.a c.in_ok-others.others (value (expression_of c.args.operand.now) (context_of c.args.text.now around c.args.scope.now c.args.names.now)) (parts_in (context_of c.args.text.now around c.args.scope.now c.args.names.now) c.args.more.now) (c.in_ok-a.ensures.meaning around) (c.in_ok-others.ensures.meaning around)

pub resolve-returns-in_ok-given-in-Call-clause-meaning : goal.resolve-returns-in_ok-given-in-Call-clause-meaning
resolve-returns-in_ok-given-in-Call-clause-meaning t c = λ around. r.call_same (tables_of around c.args.scope.now) (context_of c.args.text.now around c.args.scope.now c.args.names.now) c.args.e.now c.in-Call.name c.in-Call.open c.in-Call.arguments c.deref.result.now c.called.result c.in_ok-given-in-Call.given.items c.in-Call.is c.deref.ensures.value (c.called.ensures.meaning around c.args.names.now) (c.in_ok-given-in-Call.ensures.meaning around)

pub resolve-returns-in-Set-clause-meaning : goal.resolve-returns-in-Set-clause-meaning
resolve-returns-in-Set-clause-meaning t c = r.set_ok c.set.result (λ around. tables_of around c.args.scope.now) (λ around variables. context_of c.args.text.now around c.args.scope.now variables) c.args.names.now c.args.e.now c.in-Set.at c.in-Set.items c.deref-in-Set.result.now c.in-Set.is c.deref-in-Set.ensures.value c.set.ensures.meaning

pub resolve-returns-in-Mask-clause-meaning : goal.resolve-returns-in-Mask-clause-meaning
resolve-returns-in-Mask-clause-meaning t c = r.mask_ok c.mask.result (λ around. tables_of around c.args.scope.now) (λ around variables. context_of c.args.text.now around c.args.scope.now variables) c.args.names.now c.args.e.now c.in-Mask.at c.in-Mask.items c.deref-in-Mask.result.now c.in-Mask.is c.deref-in-Mask.ensures.value c.mask.ensures.meaning

pub resolve-returns-in-Postfix-clause-meaning : goal.resolve-returns-in-Postfix-clause-meaning
resolve-returns-in-Postfix-clause-meaning t c = r.access_ok c.access.result (λ around. tables_of around c.args.scope.now) (λ around. context_of c.args.text.now around c.args.scope.now c.args.names.now) c.args.e.now c.in-Postfix.operand c.in-Postfix.more c.deref-in-Postfix.result.now c.deref-in-Postfix-2.result.now c.in-Postfix.is c.deref-in-Postfix.ensures c.deref-in-Postfix-2.ensures.value c.access.ensures.meaning

pub resolve-returns-in-Product-clause-meaning : goal.resolve-returns-in-Product-clause-meaning
resolve-returns-in-Product-clause-meaning t c = r.product_ok c.product.result (λ around. tables_of around c.args.scope.now) (λ around. context_of c.args.text.now around c.args.scope.now c.args.names.now) c.args.e.now c.in-Product.operand c.in-Product.more c.deref-in-Product.result.now c.deref-in-Product-2.result.now c.in-Product.is c.deref-in-Product.ensures c.deref-in-Product-2.ensures.value c.product.ensures.meaning

pub resolve-returns-in-Sum-clause-meaning : goal.resolve-returns-in-Sum-clause-meaning
resolve-returns-in-Sum-clause-meaning t c = r.sum_ok c.sum.result (λ around. tables_of around c.args.scope.now) (λ around. context_of c.args.text.now around c.args.scope.now c.args.names.now) c.args.e.now c.in-Sum.operand c.in-Sum.more c.deref-in-Sum.result.now c.deref-in-Sum-2.result.now c.in-Sum.is c.deref-in-Sum.ensures c.deref-in-Sum-2.ensures.value c.sum.ensures.meaning

pub resolve-returns-in-Logical-clause-meaning : goal.resolve-returns-in-Logical-clause-meaning
resolve-returns-in-Logical-clause-meaning t c = r.joint_ok c.joint.result (λ around. tables_of around c.args.scope.now) (λ around. context_of c.args.text.now around c.args.scope.now c.args.names.now) c.args.e.now c.in-Logical.operand c.in-Logical.more c.deref-in-Logical.result.now c.deref-in-Logical-2.result.now c.in-Logical.is c.deref-in-Logical.ensures c.deref-in-Logical-2.ensures.value c.joint.ensures.meaning

pub resolve_all-loop-e-preserved : goal.resolve_all-loop-e-preserved
resolve_all-loop-e-preserved t c = (
  λ around. r.moved (λ (x : TExpr). trees.expr x (tables_of around c.args.scope.now)) (λ (y : Expr). value (expression_of y) (context_of c.args.text.now around c.args.scope.now c.args.names.now)) c.loop-e.all.items c.push.new.self.items c.in_ok-resolve.field-0 c.e-item.result (drop (c.loop-e.e-index + 1) c.args.given.now) (drop c.loop-e.e-index c.args.given.now) (values_in (context_of c.args.text.now around c.args.scope.now c.args.names.now) c.args.given.now) c.in_ok-push.ensures.items (next_item c.args.given.now c.loop-e.e-index c.e-item.result c.loop-e-test.true c.e-item.is) (c.in_ok-resolve.ensures.meaning around) (c.loop-e.invariant.0 around),
  λ more. w.more_taken 1 (expr_steps (calls c.args.scope.now more)) (λ (y : Expr). weight (scene_of c.args.text.now c.args.scope.now) (expression_of y)) c.loop-e.all.items c.push.new.self.items c.in_ok-resolve.field-0 c.e-item.result (drop (c.loop-e.e-index + 1) c.args.given.now) (drop c.loop-e.e-index c.args.given.now) (5 * sum (map (λ (y : Expr). weight (scene_of c.args.text.now c.args.scope.now) (expression_of y)) c.args.given.now)) c.in_ok-push.ensures.items (next_item c.args.given.now c.loop-e.e-index c.e-item.result c.loop-e-test.true c.e-item.is) (c.in_ok-resolve.ensures.steps more) (c.loop-e.invariant.1 more),
)

pub resolve_accesses-loop-access-preserved : goal.resolve_accesses-loop-access-preserved
resolve_accesses-loop-access-preserved t c = (
  λ around. r.moved (trees.access (tables_of around c.args.scope.now)) (access_in (context_of c.args.text.now around c.args.scope.now c.args.names.now)) c.loop-access.all.items c.push.new.self.items c.in_ok-resolve_access.field-0 c.access-item.result (drop (c.loop-access.access-index + 1) c.args.more.now) (drop c.loop-access.access-index c.args.more.now) (accesses_in (context_of c.args.text.now around c.args.scope.now c.args.names.now) c.args.more.now) c.in_ok-push.ensures.items (next_item c.args.more.now c.loop-access.access-index c.access-item.result c.loop-access-test.true c.access-item.is) (c.in_ok-resolve_access.ensures.meaning around) (c.loop-access.invariant.0 around),
  λ more. w.more_taken 1 (dot_steps (calls c.args.scope.now more)) (access_weight (scene_of c.args.text.now c.args.scope.now)) c.loop-access.all.items c.push.new.self.items c.in_ok-resolve_access.field-0 c.access-item.result (drop (c.loop-access.access-index + 1) c.args.more.now) (drop c.loop-access.access-index c.args.more.now) (5 * sum (map (access_weight (scene_of c.args.text.now c.args.scope.now)) c.args.more.now)) c.in_ok-push.ensures.items (next_item c.args.more.now c.loop-access.access-index c.access-item.result c.loop-access-test.true c.access-item.is) (c.in_ok-resolve_access.ensures.steps more) (c.loop-access.invariant.1 more),
)

pub resolve_factors-loop-x-preserved : goal.resolve_factors-loop-x-preserved
resolve_factors-loop-x-preserved t c = (
  λ around. r.moved (λ (x : MulOp × TExpr). (x.0, trees.expr x.1 (tables_of around c.args.scope.now))) (λ (y : MulOp × Expr). (y.0, value (expression_of y.1) (context_of c.args.text.now around c.args.scope.now c.args.names.now))) c.loop-x.all.items c.push.new.self.items (c.x-item.result.0, c.in_ok-operand.operand) c.x-item.result (drop (c.loop-x.x-index + 1) c.args.more.now) (drop c.loop-x.x-index c.args.more.now) (parts_in (context_of c.args.text.now around c.args.scope.now c.args.names.now) c.args.more.now) c.in_ok-push.ensures.items (next_item c.args.more.now c.loop-x.x-index c.x-item.result c.loop-x-test.true c.x-item.is) (ap (λ (f : Run Val). (c.x-item.result.0, f)) (c.in_ok-operand.ensures.meaning around)) (c.loop-x.invariant.0 around),
  λ more. w.more_taken 1 (λ (x : MulOp × TExpr). expr_steps (calls c.args.scope.now more) x.1) (λ (y : MulOp × Expr). 1 + weight (scene_of c.args.text.now c.args.scope.now) (expression_of y.1)) c.loop-x.all.items c.push.new.self.items (c.x-item.result.0, c.in_ok-operand.operand) c.x-item.result (drop (c.loop-x.x-index + 1) c.args.more.now) (drop c.loop-x.x-index c.args.more.now) (5 * sum (map (λ (y : MulOp × Expr). 1 + weight (scene_of c.args.text.now c.args.scope.now) (expression_of y.1)) c.args.more.now)) c.in_ok-push.ensures.items (next_item c.args.more.now c.loop-x.x-index c.x-item.result c.loop-x-test.true c.x-item.is) (omega (arith, c.in_ok-operand.ensures.steps more)) (c.loop-x.invariant.1 more),
)

pub resolve_terms-loop-x-preserved : goal.resolve_terms-loop-x-preserved
resolve_terms-loop-x-preserved t c = (
  λ around. r.moved (λ (x : AddOp × TExpr). (x.0, trees.expr x.1 (tables_of around c.args.scope.now))) (λ (y : AddOp × Expr). (y.0, value (expression_of y.1) (context_of c.args.text.now around c.args.scope.now c.args.names.now))) c.loop-x.all.items c.push.new.self.items (c.x-item.result.0, c.in_ok-operand.operand) c.x-item.result (drop (c.loop-x.x-index + 1) c.args.more.now) (drop c.loop-x.x-index c.args.more.now) (parts_in (context_of c.args.text.now around c.args.scope.now c.args.names.now) c.args.more.now) c.in_ok-push.ensures.items (next_item c.args.more.now c.loop-x.x-index c.x-item.result c.loop-x-test.true c.x-item.is) (ap (λ (f : Run Val). (c.x-item.result.0, f)) (c.in_ok-operand.ensures.meaning around)) (c.loop-x.invariant.0 around),
  λ more. w.more_taken 1 (λ (x : AddOp × TExpr). expr_steps (calls c.args.scope.now more) x.1) (λ (y : AddOp × Expr). 1 + weight (scene_of c.args.text.now c.args.scope.now) (expression_of y.1)) c.loop-x.all.items c.push.new.self.items (c.x-item.result.0, c.in_ok-operand.operand) c.x-item.result (drop (c.loop-x.x-index + 1) c.args.more.now) (drop c.loop-x.x-index c.args.more.now) (5 * sum (map (λ (y : AddOp × Expr). 1 + weight (scene_of c.args.text.now c.args.scope.now) (expression_of y.1)) c.args.more.now)) c.in_ok-push.ensures.items (next_item c.args.more.now c.loop-x.x-index c.x-item.result c.loop-x-test.true c.x-item.is) (omega (arith, c.in_ok-operand.ensures.steps more)) (c.loop-x.invariant.1 more),
)

pub resolve_joints-loop-x-preserved : goal.resolve_joints-loop-x-preserved
resolve_joints-loop-x-preserved t c = (
  λ around. r.moved (λ (x : LogicalOp × TExpr). (x.0, trees.expr x.1 (tables_of around c.args.scope.now))) (λ (y : LogicalOp × Expr). (y.0, value (expression_of y.1) (context_of c.args.text.now around c.args.scope.now c.args.names.now))) c.loop-x.all.items c.push.new.self.items (c.x-item.result.0, c.in_ok-operand.operand) c.x-item.result (drop (c.loop-x.x-index + 1) c.args.more.now) (drop c.loop-x.x-index c.args.more.now) (parts_in (context_of c.args.text.now around c.args.scope.now c.args.names.now) c.args.more.now) c.in_ok-push.ensures.items (next_item c.args.more.now c.loop-x.x-index c.x-item.result c.loop-x-test.true c.x-item.is) (ap (λ (f : Run Val). (c.x-item.result.0, f)) (c.in_ok-operand.ensures.meaning around)) (c.loop-x.invariant.0 around),
  λ more. w.more_taken 2 (λ (x : LogicalOp × TExpr). expr_steps (calls c.args.scope.now more) x.1) (λ (y : LogicalOp × Expr). 1 + weight (scene_of c.args.text.now c.args.scope.now) (expression_of y.1)) c.loop-x.all.items c.push.new.self.items (c.x-item.result.0, c.in_ok-operand.operand) c.x-item.result (drop (c.loop-x.x-index + 1) c.args.more.now) (drop c.loop-x.x-index c.args.more.now) (5 * sum (map (λ (y : LogicalOp × Expr). 1 + weight (scene_of c.args.text.now c.args.scope.now) (expression_of y.1)) c.args.more.now)) c.in_ok-push.ensures.items (next_item c.args.more.now c.loop-x.x-index c.x-item.result c.loop-x-test.true c.x-item.is) (omega (arith, c.in_ok-operand.ensures.steps more)) (c.loop-x.invariant.1 more),
)

pub resolve-resolve_all-requires : goal.resolve-resolve_all-requires
resolve-resolve_all-requires t c = (omega (arith, ap (λ (x : Expr). k.cost x) c.in-Call.is, k.cost-Call c.in-Call.name c.in-Call.open c.in-Call.arguments, ap (λ (xs : List Expr). k.costs xs) c.deref.ensures.value), tt)

pub resolve-resolve-requires : goal.resolve-resolve-requires
resolve-resolve-requires t c = (omega (arith, ap (λ (x : Expr). k.cost x) c.in-Group.is, k.cost-Group c.in-Group.at c.in-Group.inner, ap (λ (x : Expr). k.cost x) c.deref-in-Group.ensures), tt)

pub resolve-pair-requires : goal.resolve-pair-requires
resolve-pair-requires t c = (omega (arith, ap (λ (x : Expr). k.cost x) c.in-Pair.is, k.cost-Pair c.in-Pair.at c.in-Pair.first c.in-Pair.second, ap (λ (x : Expr). k.cost x) c.deref-in-Pair.ensures, ap (λ (x : Expr). k.cost x) c.deref-in-Pair-2.ensures), tt)

pub resolve-method_of-requires : goal.resolve-method_of-requires
resolve-method_of-requires t c = (omega (arith, ap (λ (x : Expr). k.cost x) c.in-MethodCall.is, k.cost-MethodCall c.in-MethodCall.method c.in-MethodCall.open c.in-MethodCall.list c.in-MethodCall.argument, ap (λ (x : Expr). k.cost x) c.deref-in-MethodCall.ensures, ap (λ (x : Expr). k.cost x) c.deref-in-MethodCall-2.ensures), tt)

pub resolve-compare-requires : goal.resolve-compare-requires
resolve-compare-requires t c = (omega (arith, ap (λ (x : Expr). k.cost x) c.in-Compare.is, k.cost-Compare c.in-Compare.op c.in-Compare.left c.in-Compare.right, ap (λ (x : Expr). k.cost x) c.deref-in-Compare.ensures, ap (λ (x : Expr). k.cost x) c.deref-in-Compare-2.ensures), tt)

pub resolve-boxed-requires : goal.resolve-boxed-requires
resolve-boxed-requires t c = (omega (arith, ap (λ (x : Expr). k.cost x) c.in-Not.is, k.cost-Not c.in-Not.at c.in-Not.operand, ap (λ (x : Expr). k.cost x) c.deref-in-Not.ensures), tt)

pub resolve-access-requires : goal.resolve-access-requires
resolve-access-requires t c = (omega (arith, ap (λ (x : Expr). k.cost x) c.in-Postfix.is, k.cost-Postfix c.in-Postfix.operand c.in-Postfix.more, ap (λ (x : Expr). k.cost x) c.deref-in-Postfix.ensures, ap (λ (xs : List (Access Expr)). k.accesses_cost xs) c.deref-in-Postfix-2.ensures.value), tt)

pub resolve-product-requires : goal.resolve-product-requires
resolve-product-requires t c = (omega (arith, ap (λ (x : Expr). k.cost x) c.in-Product.is, k.cost-Product c.in-Product.operand c.in-Product.more, ap (λ (x : Expr). k.cost x) c.deref-in-Product.ensures, ap (λ (xs : List (MulOp × Expr)). k.operands_cost xs) c.deref-in-Product-2.ensures.value), tt)

pub resolve-sum-requires : goal.resolve-sum-requires
resolve-sum-requires t c = (omega (arith, ap (λ (x : Expr). k.cost x) c.in-Sum.is, k.cost-Sum c.in-Sum.operand c.in-Sum.more, ap (λ (x : Expr). k.cost x) c.deref-in-Sum.ensures, ap (λ (xs : List (AddOp × Expr)). k.operands_cost xs) c.deref-in-Sum-2.ensures.value), tt)

pub resolve-joint-requires : goal.resolve-joint-requires
resolve-joint-requires t c = (omega (arith, ap (λ (x : Expr). k.cost x) c.in-Logical.is, k.cost-Logical c.in-Logical.operand c.in-Logical.more, ap (λ (x : Expr). k.cost x) c.deref-in-Logical.ensures, ap (λ (xs : List (LogicalOp × Expr)). k.operands_cost xs) c.deref-in-Logical-2.ensures.value), tt)

pub resolve_all-resolve-requires : goal.resolve_all-resolve-requires
resolve_all-resolve-requires t c = (omega (arith, k.item_below k.cost c.args.given.now c.loop-e.e-index c.e-item.result c.loop-e-test.true c.e-item.is), tt)

pub resolve_accesses-resolve_access-requires : goal.resolve_accesses-resolve_access-requires
resolve_accesses-resolve_access-requires t c = (omega (arith, k.item_below k.access_cost c.args.more.now c.loop-access.access-index c.access-item.result c.loop-access-test.true c.access-item.is), tt)

pub resolve_factors-resolve-requires : goal.resolve_factors-resolve-requires
resolve_factors-resolve-requires t c = (omega (arith, k.item_below (λ (x : MulOp × Expr). k.cost x.1) c.args.more.now c.loop-x.x-index c.x-item.result c.loop-x-test.true c.x-item.is), tt)

pub resolve_terms-resolve-requires : goal.resolve_terms-resolve-requires
resolve_terms-resolve-requires t c = (omega (arith, k.item_below (λ (x : AddOp × Expr). k.cost x.1) c.args.more.now c.loop-x.x-index c.x-item.result c.loop-x-test.true c.x-item.is), tt)

pub resolve_joints-resolve-requires : goal.resolve_joints-resolve-requires
resolve_joints-resolve-requires t c = (omega (arith, k.item_below (λ (x : LogicalOp × Expr). k.cost x.1) c.args.more.now c.loop-x.x-index c.x-item.result c.loop-x-test.true c.x-item.is), tt)

pub resolve_all-returns-clause-meaning : goal.resolve_all-returns-clause-meaning
resolve_all-returns-clause-meaning t c = λ around. r.finished (trees.exprs (tables_of around c.args.scope.now) c.loop-e.all.items) (λ (y : Expr). value (expression_of y) (context_of c.args.text.now around c.args.scope.now c.args.names.now)) c.args.given.now c.loop-e.e-index (values_in (context_of c.args.text.now around c.args.scope.now c.args.names.now) c.args.given.now) c.loop-e-test.false (c.loop-e.invariant.0 around)

pub resolve_accesses-returns-clause-meaning : goal.resolve_accesses-returns-clause-meaning
resolve_accesses-returns-clause-meaning t c = λ around. r.finished (trees.accesses_of (tables_of around c.args.scope.now) c.loop-access.all.items) (access_in (context_of c.args.text.now around c.args.scope.now c.args.names.now)) c.args.more.now c.loop-access.access-index (accesses_in (context_of c.args.text.now around c.args.scope.now c.args.names.now) c.args.more.now) c.loop-access-test.false (c.loop-access.invariant.0 around)

pub resolve_factors-returns-clause-meaning : goal.resolve_factors-returns-clause-meaning
resolve_factors-returns-clause-meaning t c = λ around. r.finished (trees.parts (tables_of around c.args.scope.now) c.loop-x.all.items) (λ (y : MulOp × Expr). (y.0, value (expression_of y.1) (context_of c.args.text.now around c.args.scope.now c.args.names.now))) c.args.more.now c.loop-x.x-index (parts_in (context_of c.args.text.now around c.args.scope.now c.args.names.now) c.args.more.now) c.loop-x-test.false (c.loop-x.invariant.0 around)

pub resolve_terms-returns-clause-meaning : goal.resolve_terms-returns-clause-meaning
resolve_terms-returns-clause-meaning t c = λ around. r.finished (trees.parts (tables_of around c.args.scope.now) c.loop-x.all.items) (λ (y : AddOp × Expr). (y.0, value (expression_of y.1) (context_of c.args.text.now around c.args.scope.now c.args.names.now))) c.args.more.now c.loop-x.x-index (parts_in (context_of c.args.text.now around c.args.scope.now c.args.names.now) c.args.more.now) c.loop-x-test.false (c.loop-x.invariant.0 around)

pub resolve_joints-returns-clause-meaning : goal.resolve_joints-returns-clause-meaning
resolve_joints-returns-clause-meaning t c = λ around. r.finished (trees.parts (tables_of around c.args.scope.now) c.loop-x.all.items) (λ (y : LogicalOp × Expr). (y.0, value (expression_of y.1) (context_of c.args.text.now around c.args.scope.now c.args.names.now))) c.args.more.now c.loop-x.x-index (parts_in (context_of c.args.text.now around c.args.scope.now c.args.names.now) c.args.more.now) c.loop-x-test.false (c.loop-x.invariant.0 around)

pub pair-returns-clause-steps : goal.pair-returns-clause-steps
pair-returns-clause-steps t c = λ more. omega (arith, s.steps-Pair (calls c.args.scope.now more) c.in_ok-a.a c.in_ok-b.b, c.in_ok-a.ensures.steps more, c.in_ok-b.ensures.steps more)

pub method_of-returns-clause-steps : goal.method_of-returns-clause-steps
method_of-returns-clause-steps t c = λ more. omega (arith, s.steps-Method (calls c.args.scope.now more) c.args.kind c.in_ok-a.a c.in_ok-b.b, c.in_ok-a.ensures.steps more, c.in_ok-b.ensures.steps more)

pub compare-returns-clause-steps : goal.compare-returns-clause-steps
compare-returns-clause-steps t c = λ more. omega (arith, c.comparison.ensures.steps (calls c.args.scope.now more), c.in_ok-a.ensures.steps more, c.in_ok-b.ensures.steps more)

pub access-returns-clause-steps : goal.access-returns-clause-steps
access-returns-clause-steps t c = λ more. omega (arith, w.steps-Access (calls c.args.scope.now more) c.in_ok-a.a c.in_ok-accesses.accesses, c.in_ok-a.ensures.steps more, c.in_ok-accesses.ensures.steps more)

pub product-returns-clause-steps : goal.product-returns-clause-steps
product-returns-clause-steps t c = λ more. omega (arith, s.steps-Product (calls c.args.scope.now more) c.in_ok-a.a c.in_ok-factors.factors, c.in_ok-a.ensures.steps more, c.in_ok-factors.ensures.steps more)

pub sum-returns-clause-steps : goal.sum-returns-clause-steps
sum-returns-clause-steps t c = λ more. omega (arith, s.steps-Sum (calls c.args.scope.now more) c.in_ok-a.a c.in_ok-terms.terms, c.in_ok-a.ensures.steps more, c.in_ok-terms.ensures.steps more)

pub joint-returns-clause-steps : goal.joint-returns-clause-steps
joint-returns-clause-steps t c = λ more. omega (arith, s.steps-Joint (calls c.args.scope.now more) c.in_ok-a.a c.in_ok-others.others, c.in_ok-a.ensures.steps more, c.in_ok-others.ensures.steps more)

pub resolve-returns-in-Group-clause-steps : goal.resolve-returns-in-Group-clause-steps
resolve-returns-in-Group-clause-steps t c = w.group_taken c.resolve.result c.args.scope.now (scene_of c.args.text.now c.args.scope.now) c.args.e.now c.in-Group.at c.in-Group.inner c.deref-in-Group.result.now c.in-Group.is c.deref-in-Group.ensures c.resolve.ensures.steps

pub resolve-returns-in-Pair-clause-steps : goal.resolve-returns-in-Pair-clause-steps
resolve-returns-in-Pair-clause-steps t c = w.pair_taken c.pair.result c.args.scope.now (scene_of c.args.text.now c.args.scope.now) c.args.e.now c.in-Pair.at c.in-Pair.first c.in-Pair.second c.deref-in-Pair.result.now c.deref-in-Pair-2.result.now c.in-Pair.is c.deref-in-Pair.ensures c.deref-in-Pair-2.ensures c.pair.ensures.steps

pub resolve-returns-in-MethodCall-clause-steps : goal.resolve-returns-in-MethodCall-clause-steps
resolve-returns-in-MethodCall-clause-steps t c = w.method_taken c.method_of.result c.args.scope.now (scene_of c.args.text.now c.args.scope.now) c.args.e.now c.in-MethodCall.method c.in-MethodCall.open c.in-MethodCall.list c.in-MethodCall.argument c.deref-in-MethodCall.result.now c.deref-in-MethodCall-2.result.now c.in-MethodCall.is c.deref-in-MethodCall.ensures c.deref-in-MethodCall-2.ensures c.method_of.ensures.steps

pub resolve-returns-in-Compare-clause-steps : goal.resolve-returns-in-Compare-clause-steps
resolve-returns-in-Compare-clause-steps t c = w.compare_taken c.compare.result c.args.scope.now (scene_of c.args.text.now c.args.scope.now) c.args.e.now c.in-Compare.op c.in-Compare.left c.in-Compare.right c.deref-in-Compare.result.now c.deref-in-Compare-2.result.now c.in-Compare.is c.deref-in-Compare.ensures c.deref-in-Compare-2.ensures c.compare.ensures.steps

pub resolve-returns-in-Postfix-clause-steps : goal.resolve-returns-in-Postfix-clause-steps
resolve-returns-in-Postfix-clause-steps t c = w.access_taken c.access.result c.args.scope.now (scene_of c.args.text.now c.args.scope.now) c.args.e.now c.in-Postfix.operand c.in-Postfix.more c.deref-in-Postfix.result.now c.deref-in-Postfix-2.result.now c.in-Postfix.is c.deref-in-Postfix.ensures c.deref-in-Postfix-2.ensures.value c.access.ensures.steps

pub resolve-returns-in-Product-clause-steps : goal.resolve-returns-in-Product-clause-steps
resolve-returns-in-Product-clause-steps t c = w.product_taken c.product.result c.args.scope.now (scene_of c.args.text.now c.args.scope.now) c.args.e.now c.in-Product.operand c.in-Product.more c.deref-in-Product.result.now c.deref-in-Product-2.result.now c.in-Product.is c.deref-in-Product.ensures c.deref-in-Product-2.ensures.value c.product.ensures.steps

pub resolve-returns-in-Sum-clause-steps : goal.resolve-returns-in-Sum-clause-steps
resolve-returns-in-Sum-clause-steps t c = w.sum_taken c.sum.result c.args.scope.now (scene_of c.args.text.now c.args.scope.now) c.args.e.now c.in-Sum.operand c.in-Sum.more c.deref-in-Sum.result.now c.deref-in-Sum-2.result.now c.in-Sum.is c.deref-in-Sum.ensures c.deref-in-Sum-2.ensures.value c.sum.ensures.steps

pub resolve-returns-in-Logical-clause-steps : goal.resolve-returns-in-Logical-clause-steps
resolve-returns-in-Logical-clause-steps t c = w.joint_taken c.joint.result c.args.scope.now (scene_of c.args.text.now c.args.scope.now) c.args.e.now c.in-Logical.operand c.in-Logical.more c.deref-in-Logical.result.now c.deref-in-Logical-2.result.now c.in-Logical.is c.deref-in-Logical.ensures c.deref-in-Logical-2.ensures.value c.joint.ensures.steps

pub resolve-returns-in-Atom-clause-steps : goal.resolve-returns-in-Atom-clause-steps
resolve-returns-in-Atom-clause-steps t c = w.words_taken c.simple.result c.args.scope.now (scene_of c.args.text.now c.args.scope.now) (expression_of c.args.e.now) c.simple.ensures.steps

pub resolve-returns-in-Set-clause-steps : goal.resolve-returns-in-Set-clause-steps
resolve-returns-in-Set-clause-steps t c = w.words_taken c.set.result c.args.scope.now (scene_of c.args.text.now c.args.scope.now) (expression_of c.args.e.now) c.set.ensures.steps

pub resolve-returns-in-Mask-clause-steps : goal.resolve-returns-in-Mask-clause-steps
resolve-returns-in-Mask-clause-steps t c = w.words_taken c.mask.result c.args.scope.now (scene_of c.args.text.now c.args.scope.now) (expression_of c.args.e.now) c.mask.ensures.steps

pub resolve-returns-in-Name-clause-steps : goal.resolve-returns-in-Name-clause-steps
resolve-returns-in-Name-clause-steps t c = λ more. w.word_taken (calls c.args.scope.now more) (scene_of c.args.text.now c.args.scope.now) (expression_of c.args.e.now) c.named.result (c.named.ensures.steps (calls c.args.scope.now more))

pub resolve-returns-in-Defined-clause-steps : goal.resolve-returns-in-Defined-clause-steps
resolve-returns-in-Defined-clause-steps t c = λ more. w.word_taken (calls c.args.scope.now more) (scene_of c.args.text.now c.args.scope.now) (expression_of c.args.e.now) (te.Defined c.in-Defined.attribute) (w.steps-Defined (calls c.args.scope.now more) c.in-Defined.attribute)

pub resolve-returns-in_ok-x-in-Not-clause-steps : goal.resolve-returns-in_ok-x-in-Not-clause-steps
resolve-returns-in_ok-x-in-Not-clause-steps t c = w.not_taken c.args.scope.now (scene_of c.args.text.now c.args.scope.now) c.args.e.now c.in-Not.at c.in-Not.operand c.deref-in-Not.result.now c.in_ok-x-in-Not.x c.in-Not.is c.deref-in-Not.ensures c.in_ok-x-in-Not.ensures.steps

pub resolve-returns-in_ok-given-in-Call-clause-steps : goal.resolve-returns-in_ok-given-in-Call-clause-steps
resolve-returns-in_ok-given-in-Call-clause-steps t c = w.call_taken c.args.scope.now (scene_of c.args.text.now c.args.scope.now) c.args.e.now c.in-Call.name c.in-Call.open c.in-Call.arguments c.deref.result.now c.called.result c.in_ok-given-in-Call.given.items c.in-Call.is c.deref.ensures.value c.called.ensures.steps c.in_ok-given-in-Call.ensures.steps

pub resolve_all-returns-clause-steps : goal.resolve_all-returns-clause-steps
resolve_all-returns-clause-steps t c = λ more. omega (arith, c.loop-e.invariant.1 more)

pub resolve_accesses-returns-clause-steps : goal.resolve_accesses-returns-clause-steps
resolve_accesses-returns-clause-steps t c = λ more. omega (arith, c.loop-access.invariant.1 more)

pub resolve_factors-returns-clause-steps : goal.resolve_factors-returns-clause-steps
resolve_factors-returns-clause-steps t c = λ more. omega (arith, c.loop-x.invariant.1 more)

pub resolve_terms-returns-clause-steps : goal.resolve_terms-returns-clause-steps
resolve_terms-returns-clause-steps t c = λ more. omega (arith, c.loop-x.invariant.1 more)

pub resolve_joints-returns-clause-steps : goal.resolve_joints-returns-clause-steps
resolve_joints-returns-clause-steps t c = λ more. omega (arith, c.loop-x.invariant.1 more)

pub boxed-returns-clause-steps : goal.boxed-returns-clause-steps
boxed-returns-clause-steps t c = λ more. omega (arith, ap (expr_steps (calls c.args.scope.now more)) c.in_ok-new.ensures.ok, c.in_ok-x.ensures.steps more)

pub resolve_access-returns-in_ok-x-in-Method-clause-steps : goal.resolve_access-returns-in_ok-x-in-Method-clause-steps
resolve_access-returns-in_ok-x-in-Method-clause-steps t c = λ more. omega (arith, c.in_ok-x-in-Method.ensures.steps more, ap (λ (a : Access Expr). access_weight (scene_of c.args.text.now c.args.scope.now) a) c.in-Method.is)
