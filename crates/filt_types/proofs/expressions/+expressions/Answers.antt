use Rattle.std.proofs.Common.{◌≡◌, ℕ, ◌+◌, ◌&&◌, ◌++◌, Bool, List, length, drop, Option, ap, ◌∙◌, sym, arith}
use Rattle.std.proofs.lemmas.Bool.{eq-eqb}
use Rattle.conf_ast.specs.declared.filters.Access.{Access}
use Rattle.conf_ast.specs.declared.filters.Expr.{Expr}
use Rattle.conf_ast.specs.declared.filters.MulOp.{MulOp}
use Rattle.conf_ast.specs.declared.filters.LogicalOp.{LogicalOp}
use Rattle.conf_ast.specs.declared.filters.AddOp.{AddOp}
use Rattle.filt_meaning.specs.declared.value.Sort.{Sort}
use Rattle.conf_ast.specs.Filters.{expression_of}
use Rattle.filt_types.specs.declared.judged.Judged.{Judged}
use Rattle.filt_types.specs.declared.refusal.Refusal.{Refusal}
use Rattle.filt_types.specs.Expressions as ex
use Rattle.filt_types.specs.Expressions.{Judgement, all_refusals, arguments_fit, arguments_wanted, of_two}
use Rattle.filt_types.specs.Refusals.{first_in}
use Rattle.filt_meaning.specs.Rules.{arithmetic, joining, comparing, method, negating}
use Rattle.filt_types.specs.Scenes.{function_of}
use Rattle.filt_types.specs.Seen.{scene_in, variables_in, signature_of}
use Rattle.filt_types.specs.Walk.{bare, front_of, is_of_parameter, said_of, wants_parameter}
use Rattle.filt_meaning.specs.Rules.{rule_of}
use Rattle.filt_types.proofs.Cost.{item_below, cost, operand_cost, operands_cost, access_cost, accesses_cost, cost-Postfix, cost-Product, cost-Sum, cost-Logical}
use Rattle.filt_types.proofs.Firsts.{first_rest, and_apart}
use Rattle.filt_types.proofs.Judging.{of_expr, of_exprs, of-Call, of-MethodCall, of-Not, of-Compare, whole_first, after_first, between_first, alone_first, walk, more_said, more_first, end_said, end_first, link, link_adds, reach, reach_adds, product_is, sum_is, joint_is, access_is, each_wanted, each_first, fit_more, fit_end, fit_not, as_many, call_fits, call_differs, wants_bare, pair_first}
use Rattle.filt_types.proofs.Lookups.{next_item, nothing_left, vec_length, eqb-not}
use Rattle.filt_types.proofs.expressions.+expressions.Goals as goal

pub factors-with_right-left-requires : goal.factors-with_right-left-requires
factors-with_right-left-requires t c = (omega (arith, item_below (operand_cost {Op = MulOp}) c.args.more.now c.loop-x.x-index c.x-item.result c.loop-x-test.true c.x-item.is), tt)

pub factors-loop-x-preserved : goal.factors-loop-x-preserved
factors-loop-x-preserved t c =
    let e = next_item c.args.more.now c.loop-x.x-index c.x-item.result c.loop-x-test.true c.x-item.is in
    let rest = drop (c.loop-x.x-index + 1) c.args.more.now in
    record {
      judged = more_said (link {Op = MulOp} c.args.seen arithmetic) (link_adds c.args.seen arithmetic) c.judge-left.result c.loop-x.left c.with_right-left.result c.x-item.result c.args.more.now rest
          (c.loop-x.invariant.judged ∙ ap (λ (xs : List (MulOp × Expr)). said_of (walk (link {Op = MulOp} c.args.seen arithmetic) (bare c.loop-x.left) xs)) e) c.with_right-left.ensures.judged;
      first = more_first (link {Op = MulOp} c.args.seen arithmetic) (link_adds c.args.seen arithmetic) c.judge-left.result c.loop-x.left c.with_right-left.result c.x-item.result c.args.more.now rest c.judge-left.new.first c.loop-x.first c.with_right-left.new.first
          (c.loop-x.invariant.first ∙ ap (λ (xs : List (MulOp × Expr)). first_in c.loop-x.first (walk (link {Op = MulOp} c.args.seen arithmetic) (bare c.loop-x.left) xs).refusals) e) c.with_right-left.ensures.judged c.with_right-left.ensures.first;
    }

pub factors-returns-clause-judged : goal.factors-returns-clause-judged
factors-returns-clause-judged t c =
    end_said (link {Op = MulOp} c.args.seen arithmetic) (link_adds c.args.seen arithmetic) (of_expr c.args.seen c.args.operand.now) c.judge-left.result c.loop-x.left c.args.more.now (drop c.loop-x.x-index c.args.more.now) c.judge-left.ensures.judged c.loop-x.invariant.judged (nothing_left c.args.more.now c.loop-x.x-index c.loop-x-test.false)
    ∙ ap (λ (j : Judgement). said_of j) (sym (product_is c.args.seen (expression_of c.args.operand.now) c.args.more.now))

pub factors-returns-clause-first : goal.factors-returns-clause-first
factors-returns-clause-first t c =
    end_first (link {Op = MulOp} c.args.seen arithmetic) (link_adds c.args.seen arithmetic) (of_expr c.args.seen c.args.operand.now) c.judge-left.result c.loop-x.left c.args.more.now (drop c.loop-x.x-index c.args.more.now) c.args.first.now c.judge-left.new.first c.loop-x.first c.judge-left.ensures.judged c.judge-left.ensures.first c.loop-x.invariant.first (nothing_left c.args.more.now c.loop-x.x-index c.loop-x-test.false)
    ∙ ap (λ (j : Judgement). first_in c.args.first.now j.refusals) (sym (product_is c.args.seen (expression_of c.args.operand.now) c.args.more.now))

pub judge-factors-requires : goal.judge-factors-requires
judge-factors-requires t c = (omega (arith, ap (λ (x : Expr). cost x) c.in-Product.is, cost-Product c.in-Product.operand c.in-Product.more, ap (λ (x : Expr). cost x) c.deref-in-Product.ensures, ap (λ (xs : List (MulOp × Expr)). operands_cost xs) c.deref-in-Product-2.ensures.value), tt)

pub terms-with_right-left-requires : goal.terms-with_right-left-requires
terms-with_right-left-requires t c = (omega (arith, item_below (operand_cost {Op = AddOp}) c.args.more.now c.loop-x.x-index c.x-item.result c.loop-x-test.true c.x-item.is), tt)

pub terms-loop-x-preserved : goal.terms-loop-x-preserved
terms-loop-x-preserved t c =
    let e = next_item c.args.more.now c.loop-x.x-index c.x-item.result c.loop-x-test.true c.x-item.is in
    let rest = drop (c.loop-x.x-index + 1) c.args.more.now in
    record {
      judged = more_said (link {Op = AddOp} c.args.seen arithmetic) (link_adds c.args.seen arithmetic) c.judge-left.result c.loop-x.left c.with_right-left.result c.x-item.result c.args.more.now rest
          (c.loop-x.invariant.judged ∙ ap (λ (xs : List (AddOp × Expr)). said_of (walk (link {Op = AddOp} c.args.seen arithmetic) (bare c.loop-x.left) xs)) e) c.with_right-left.ensures.judged;
      first = more_first (link {Op = AddOp} c.args.seen arithmetic) (link_adds c.args.seen arithmetic) c.judge-left.result c.loop-x.left c.with_right-left.result c.x-item.result c.args.more.now rest c.judge-left.new.first c.loop-x.first c.with_right-left.new.first
          (c.loop-x.invariant.first ∙ ap (λ (xs : List (AddOp × Expr)). first_in c.loop-x.first (walk (link {Op = AddOp} c.args.seen arithmetic) (bare c.loop-x.left) xs).refusals) e) c.with_right-left.ensures.judged c.with_right-left.ensures.first;
    }

pub terms-returns-clause-judged : goal.terms-returns-clause-judged
terms-returns-clause-judged t c =
    end_said (link {Op = AddOp} c.args.seen arithmetic) (link_adds c.args.seen arithmetic) (of_expr c.args.seen c.args.operand.now) c.judge-left.result c.loop-x.left c.args.more.now (drop c.loop-x.x-index c.args.more.now) c.judge-left.ensures.judged c.loop-x.invariant.judged (nothing_left c.args.more.now c.loop-x.x-index c.loop-x-test.false)
    ∙ ap (λ (j : Judgement). said_of j) (sym (sum_is c.args.seen (expression_of c.args.operand.now) c.args.more.now))

pub terms-returns-clause-first : goal.terms-returns-clause-first
terms-returns-clause-first t c =
    end_first (link {Op = AddOp} c.args.seen arithmetic) (link_adds c.args.seen arithmetic) (of_expr c.args.seen c.args.operand.now) c.judge-left.result c.loop-x.left c.args.more.now (drop c.loop-x.x-index c.args.more.now) c.args.first.now c.judge-left.new.first c.loop-x.first c.judge-left.ensures.judged c.judge-left.ensures.first c.loop-x.invariant.first (nothing_left c.args.more.now c.loop-x.x-index c.loop-x-test.false)
    ∙ ap (λ (j : Judgement). first_in c.args.first.now j.refusals) (sym (sum_is c.args.seen (expression_of c.args.operand.now) c.args.more.now))

pub judge-terms-requires : goal.judge-terms-requires
judge-terms-requires t c = (omega (arith, ap (λ (x : Expr). cost x) c.in-Sum.is, cost-Sum c.in-Sum.operand c.in-Sum.more, ap (λ (x : Expr). cost x) c.deref-in-Sum.ensures, ap (λ (xs : List (AddOp × Expr)). operands_cost xs) c.deref-in-Sum-2.ensures.value), tt)

pub joints-with_right-left-requires : goal.joints-with_right-left-requires
joints-with_right-left-requires t c = (omega (arith, item_below (operand_cost {Op = LogicalOp}) c.args.more.now c.loop-x.x-index c.x-item.result c.loop-x-test.true c.x-item.is), tt)

pub joints-loop-x-preserved : goal.joints-loop-x-preserved
joints-loop-x-preserved t c =
    let e = next_item c.args.more.now c.loop-x.x-index c.x-item.result c.loop-x-test.true c.x-item.is in
    let rest = drop (c.loop-x.x-index + 1) c.args.more.now in
    record {
      judged = more_said (link {Op = LogicalOp} c.args.seen joining) (link_adds c.args.seen joining) c.judge-left.result c.loop-x.left c.with_right-left.result c.x-item.result c.args.more.now rest
          (c.loop-x.invariant.judged ∙ ap (λ (xs : List (LogicalOp × Expr)). said_of (walk (link {Op = LogicalOp} c.args.seen joining) (bare c.loop-x.left) xs)) e) c.with_right-left.ensures.judged;
      first = more_first (link {Op = LogicalOp} c.args.seen joining) (link_adds c.args.seen joining) c.judge-left.result c.loop-x.left c.with_right-left.result c.x-item.result c.args.more.now rest c.judge-left.new.first c.loop-x.first c.with_right-left.new.first
          (c.loop-x.invariant.first ∙ ap (λ (xs : List (LogicalOp × Expr)). first_in c.loop-x.first (walk (link {Op = LogicalOp} c.args.seen joining) (bare c.loop-x.left) xs).refusals) e) c.with_right-left.ensures.judged c.with_right-left.ensures.first;
    }

pub joints-returns-clause-judged : goal.joints-returns-clause-judged
joints-returns-clause-judged t c =
    end_said (link {Op = LogicalOp} c.args.seen joining) (link_adds c.args.seen joining) (of_expr c.args.seen c.args.operand.now) c.judge-left.result c.loop-x.left c.args.more.now (drop c.loop-x.x-index c.args.more.now) c.judge-left.ensures.judged c.loop-x.invariant.judged (nothing_left c.args.more.now c.loop-x.x-index c.loop-x-test.false)
    ∙ ap (λ (j : Judgement). said_of j) (sym (joint_is c.args.seen (expression_of c.args.operand.now) c.args.more.now))

pub joints-returns-clause-first : goal.joints-returns-clause-first
joints-returns-clause-first t c =
    end_first (link {Op = LogicalOp} c.args.seen joining) (link_adds c.args.seen joining) (of_expr c.args.seen c.args.operand.now) c.judge-left.result c.loop-x.left c.args.more.now (drop c.loop-x.x-index c.args.more.now) c.args.first.now c.judge-left.new.first c.loop-x.first c.judge-left.ensures.judged c.judge-left.ensures.first c.loop-x.invariant.first (nothing_left c.args.more.now c.loop-x.x-index c.loop-x-test.false)
    ∙ ap (λ (j : Judgement). first_in c.args.first.now j.refusals) (sym (joint_is c.args.seen (expression_of c.args.operand.now) c.args.more.now))

pub judge-joints-requires : goal.judge-joints-requires
judge-joints-requires t c = (omega (arith, ap (λ (x : Expr). cost x) c.in-Logical.is, cost-Logical c.in-Logical.operand c.in-Logical.more, ap (λ (x : Expr). cost x) c.deref-in-Logical.ensures, ap (λ (xs : List (LogicalOp × Expr)). operands_cost xs) c.deref-in-Logical-2.ensures.value), tt)

pub accesses-access-left-requires : goal.accesses-access-left-requires
accesses-access-left-requires t c = (omega (arith, item_below access_cost c.args.more.now c.loop-x.x-index c.x-item.result c.loop-x-test.true c.x-item.is), tt)

pub accesses-loop-x-preserved : goal.accesses-loop-x-preserved
accesses-loop-x-preserved t c =
    let e = next_item c.args.more.now c.loop-x.x-index c.x-item.result c.loop-x-test.true c.x-item.is in
    let rest = drop (c.loop-x.x-index + 1) c.args.more.now in
    record {
      judged = more_said (reach c.args.seen) (reach_adds c.args.seen) c.judge-left.result c.loop-x.left c.access-left.result c.x-item.result c.args.more.now rest
          (c.loop-x.invariant.judged ∙ ap (λ (xs : List (Access Expr)). said_of (walk (reach c.args.seen) (bare c.loop-x.left) xs)) e) c.access-left.ensures.judged;
      first = more_first (reach c.args.seen) (reach_adds c.args.seen) c.judge-left.result c.loop-x.left c.access-left.result c.x-item.result c.args.more.now rest c.judge-left.new.first c.loop-x.first c.access-left.new.first
          (c.loop-x.invariant.first ∙ ap (λ (xs : List (Access Expr)). first_in c.loop-x.first (walk (reach c.args.seen) (bare c.loop-x.left) xs).refusals) e) c.access-left.ensures.judged c.access-left.ensures.first;
    }

pub accesses-returns-clause-judged : goal.accesses-returns-clause-judged
accesses-returns-clause-judged t c =
    end_said (reach c.args.seen) (reach_adds c.args.seen) (of_expr c.args.seen c.args.operand.now) c.judge-left.result c.loop-x.left c.args.more.now (drop c.loop-x.x-index c.args.more.now) c.judge-left.ensures.judged c.loop-x.invariant.judged (nothing_left c.args.more.now c.loop-x.x-index c.loop-x-test.false)
    ∙ ap (λ (j : Judgement). said_of j) (sym (access_is c.args.seen (expression_of c.args.operand.now) c.args.more.now))

pub accesses-returns-clause-first : goal.accesses-returns-clause-first
accesses-returns-clause-first t c =
    end_first (reach c.args.seen) (reach_adds c.args.seen) (of_expr c.args.seen c.args.operand.now) c.judge-left.result c.loop-x.left c.args.more.now (drop c.loop-x.x-index c.args.more.now) c.args.first.now c.judge-left.new.first c.loop-x.first c.judge-left.ensures.judged c.judge-left.ensures.first c.loop-x.invariant.first (nothing_left c.args.more.now c.loop-x.x-index c.loop-x-test.false)
    ∙ ap (λ (j : Judgement). first_in c.args.first.now j.refusals) (sym (access_is c.args.seen (expression_of c.args.operand.now) c.args.more.now))

pub judge-accesses-requires : goal.judge-accesses-requires
judge-accesses-requires t c = (omega (arith, ap (λ (x : Expr). cost x) c.in-Postfix.is, cost-Postfix c.in-Postfix.operand c.in-Postfix.more, ap (λ (x : Expr). cost x) c.deref-in-Postfix.ensures, ap (λ (xs : List (Access Expr)). accesses_cost xs) c.deref-in-Postfix-2.ensures.value), tt)

pub with_right-returns-clause-first : goal.with_right-returns-clause-first
with_right-returns-clause-first t c =
    whole_first c.args.at (rule_of c.args.operator) c.args.left c.judge-right.result (of_expr c.args.seen c.args.e.now) c.args.first.now c.want_left.new.first c.judge-right.new.first c.want_right.new.first c.of_two.new.first c.want_left.ensures c.judge-right.ensures.first c.judge-right.ensures.judged c.want_right.ensures c.of_two.ensures.first

pub pair-returns-clause-first : goal.pair-returns-clause-first
pair-returns-clause-first t c =
    pair_first c.args.at (of_expr c.args.seen c.args.left.now) (of_expr c.args.seen c.args.right.now) c.written.result c.written-2.result c.judge-a.result c.judge-b.result c.args.first.now c.judge-a.new.first c.want_left.new.first c.judge-b.new.first c.want_right.new.first c.of_two-whole.new.first c.over_16_bits.new.first c.over_16_bits-2.new.first
    c.judge-a.ensures.judged c.judge-a.ensures.first c.want_left.ensures c.judge-b.ensures.judged c.judge-b.ensures.first c.want_right.ensures c.of_two-whole.ensures.first c.over_16_bits.ensures c.over_16_bits-2.ensures
    ∙ ap (λ (m : Option ℕ). first_in c.args.first.now (ex.pair c.args.at m c.written-2.result (of_expr c.args.seen c.args.left.now) (of_expr c.args.seen c.args.right.now)).refusals) c.written.ensures
    ∙ ap (λ (n : Option ℕ). first_in c.args.first.now (ex.pair c.args.at (ex.written (scene_in c.args.seen) (variables_in c.args.seen) (expression_of c.args.left.now)) n (of_expr c.args.seen c.args.left.now) (of_expr c.args.seen c.args.right.now)).refusals) c.written-2.ensures

pub judge-returns-in-Call-clause-judged : goal.judge-returns-in-Call-clause-judged
judge-returns-in-Call-clause-judged t c =
    let e = ap (λ (x : Expr). of_expr c.args.seen x) c.in-Call.is ∙ of-Call c.args.seen c.in-Call.name c.in-Call.open c.in-Call.arguments in
    c.called.ensures.judged ∙ ap (λ (xs : List Expr). said_of (ex.called c.in-Call.name (function_of (scene_in c.args.seen) c.in-Call.name) (of_exprs c.args.seen xs))) c.deref.ensures.value ∙ ap (λ (j : Judgement). said_of j) (sym e)

pub judge-returns-in-Call-clause-first : goal.judge-returns-in-Call-clause-first
judge-returns-in-Call-clause-first t c =
    let e = ap (λ (x : Expr). of_expr c.args.seen x) c.in-Call.is ∙ of-Call c.args.seen c.in-Call.name c.in-Call.open c.in-Call.arguments in
    c.called.ensures.first ∙ ap (λ (xs : List Expr). first_in c.args.first.now (ex.called c.in-Call.name (function_of (scene_in c.args.seen) c.in-Call.name) (of_exprs c.args.seen xs)).refusals) c.deref.ensures.value ∙ ap (λ (j : Judgement). first_in c.args.first.now j.refusals) (sym e)

pub method_call-returns-clause-first : goal.method_call-returns-clause-first
method_call-returns-clause-first t c =
    let m = c.args.method in
    after_first m.at (method m.kind) (of_expr c.args.seen c.args.list.now) (of_expr c.args.seen c.args.argument.now) c.judge-list.result c.args.first.now c.judge-list.new.first c.with_right.new.first c.judge-list.ensures.judged c.judge-list.ensures.first c.with_right.ensures.first

pub judge-returns-in-MethodCall-clause-judged : goal.judge-returns-in-MethodCall-clause-judged
judge-returns-in-MethodCall-clause-judged t c =
    let e = ap (λ (x : Expr). of_expr c.args.seen x) c.in-MethodCall.is ∙ of-MethodCall c.args.seen c.in-MethodCall.method c.in-MethodCall.open c.in-MethodCall.list c.in-MethodCall.argument in
    let m = c.in-MethodCall.method in
    c.method_call.ensures.judged
    ∙ ap (λ (x : Expr). said_of (of_two m.at (method m.kind) (of_expr c.args.seen x) (of_expr c.args.seen c.deref-in-MethodCall-2.result.now))) c.deref-in-MethodCall.ensures
    ∙ ap (λ (x : Expr). said_of (of_two m.at (method m.kind) (of_expr c.args.seen c.in-MethodCall.list.value) (of_expr c.args.seen x))) c.deref-in-MethodCall-2.ensures
    ∙ ap (λ (j : Judgement). said_of j) (sym e)

pub judge-returns-in-MethodCall-clause-first : goal.judge-returns-in-MethodCall-clause-first
judge-returns-in-MethodCall-clause-first t c =
    let e = ap (λ (x : Expr). of_expr c.args.seen x) c.in-MethodCall.is ∙ of-MethodCall c.args.seen c.in-MethodCall.method c.in-MethodCall.open c.in-MethodCall.list c.in-MethodCall.argument in
    let m = c.in-MethodCall.method in
    c.method_call.ensures.first
    ∙ ap (λ (x : Expr). first_in c.args.first.now (of_two m.at (method m.kind) (of_expr c.args.seen x) (of_expr c.args.seen c.deref-in-MethodCall-2.result.now)).refusals) c.deref-in-MethodCall.ensures
    ∙ ap (λ (x : Expr). first_in c.args.first.now (of_two m.at (method m.kind) (of_expr c.args.seen c.in-MethodCall.list.value) (of_expr c.args.seen x)).refusals) c.deref-in-MethodCall-2.ensures
    ∙ ap (λ (j : Judgement). first_in c.args.first.now j.refusals) (sym e)

pub judge-returns-in-Compare-clause-first : goal.judge-returns-in-Compare-clause-first
judge-returns-in-Compare-clause-first t c =
    let e = ap (λ (x : Expr). of_expr c.args.seen x) c.in-Compare.is ∙ of-Compare c.args.seen c.in-Compare.compare c.in-Compare.left c.in-Compare.right in
    let a = of_expr c.args.seen c.in-Compare.left.value in
    let b = of_expr c.args.seen c.in-Compare.right.value in
    let rule = comparing c.in-Compare.compare in
    between_first rule a b c.judge-left.result c.args.first.now c.judge-left.new.first c.with_right.new.first
    (c.judge-left.ensures.judged ∙ ap (λ (x : Expr). said_of (of_expr c.args.seen x)) c.deref-in-Compare.ensures)
    (c.judge-left.ensures.first ∙ ap (λ (x : Expr). first_in c.args.first.now (of_expr c.args.seen x).refusals) c.deref-in-Compare.ensures)
    (c.with_right.ensures.first ∙ ap (λ (x : Expr). first_in c.judge-left.new.first (of_two c.judge-left.result.at rule (bare c.judge-left.result) (of_expr c.args.seen x)).refusals) c.deref-in-Compare-2.ensures)
    ∙ ap (λ (j : Judgement). first_in c.args.first.now j.refusals) (sym e)

pub judge-returns-in-Not-clause-first : goal.judge-returns-in-Not-clause-first
judge-returns-in-Not-clause-first t c =
    let e = ap (λ (x : Expr). of_expr c.args.seen x) c.in-Not.is ∙ of-Not c.args.seen c.in-Not.at c.in-Not.operand in
    let a = of_expr c.args.seen c.in-Not.operand.value in
    alone_first c.in-Not.at negating a c.judge-operand.result c.args.first.now c.judge-operand.new.first c.of_one.new.first
    (c.judge-operand.ensures.judged ∙ ap (λ (x : Expr). said_of (of_expr c.args.seen x)) c.deref-in-Not.ensures)
    (c.judge-operand.ensures.first ∙ ap (λ (x : Expr). first_in c.args.first.now (of_expr c.args.seen x).refusals) c.deref-in-Not.ensures)
    c.of_one.ensures.first
    ∙ ap (λ (j : Judgement). first_in c.args.first.now j.refusals) (sym e)

pub judge_each-judge-judged-requires : goal.judge_each-judge-judged-requires
judge_each-judge-judged-requires t c = (omega (arith, item_below cost c.args.es.now c.loop-e.e-index c.e-item.result c.loop-e-test.true c.e-item.is), tt)

pub judge_each-loop-e-preserved : goal.judge_each-loop-e-preserved
judge_each-loop-e-preserved t c =
    let e = next_item c.args.es.now c.loop-e.e-index c.e-item.result c.loop-e-test.true c.e-item.is in
    let rest = drop (c.loop-e.e-index + 1) c.args.es.now in
    c.loop-e.invariant ∙ ap (λ (xs : List Expr). first_in c.loop-e.first (all_refusals (of_exprs c.args.seen xs))) e
    ∙ first_rest (of_expr c.args.seen c.e-item.result).refusals (all_refusals (of_exprs c.args.seen rest)) c.loop-e.first c.judge-judged.new.first c.judge-judged.ensures.first

pub arguments_are-judge-judged-requires : goal.arguments_are-judge-judged-requires
arguments_are-judge-judged-requires t c = (omega (arith, item_below cost c.args.arguments.now c.loop-e.e-index c.e-item.result c.loop-e-test.true c.e-item.is), tt)

pub arguments_are-loop-e-preserved : goal.arguments_are-loop-e-preserved
arguments_are-loop-e-preserved t c =
    let e = next_item c.args.arguments.now c.loop-e.e-index c.e-item.result c.loop-e-test.true c.e-item.is in
    let j = of_expr c.args.seen c.e-item.result in
    let js = of_exprs c.args.seen (drop (c.loop-e.e-index + 1) c.args.arguments.now) in
    let ss = c.loop-e.rest.now in
    let fits : c.argument_is-fits.result ≡ is_of_parameter (front_of ss) j.sort =
    c.argument_is-fits.ensures.fits ∙ ap (λ (p : Option Sort). is_of_parameter p c.judge-judged.result.sort) c.front.ensures ∙ ap (λ (s : Judged). is_of_parameter (front_of ss) s.sort) c.judge-judged.ensures.judged in
    let found : c.argument_is-fits.new.first ≡ first_in c.judge-judged.new.first (wants_parameter (front_of ss) j) =
    c.argument_is-fits.ensures.first ∙ ap (λ (p : Option Sort). first_in c.judge-judged.new.first (wants_parameter p (bare c.judge-judged.result))) c.front.ensures
    ∙ ap (λ (s : Judged). first_in c.judge-judged.new.first (wants_parameter (front_of ss) (bare s))) c.judge-judged.ensures.judged
    ∙ ap (λ (rs : List Refusal). first_in c.judge-judged.new.first rs) (wants_bare (front_of ss) j) in
    record {
      fit = c.loop-e.invariant.fit ∙ ap (λ (xs : List Expr). c.loop-e.fit && arguments_fit ss (of_exprs c.args.seen xs)) e ∙ ap (λ (b : Bool). c.loop-e.fit && b) (fit_more ss j js)
          ∙ ap (λ (b : Bool). c.loop-e.fit && (b && arguments_fit (drop 1 ss) js)) (sym fits) ∙ and_apart c.loop-e.fit c.argument_is-fits.result (arguments_fit (drop 1 ss) js)
          ∙ ap (λ (more : List Sort). (c.loop-e.fit && c.argument_is-fits.result) && arguments_fit more js) (sym c.behind-rest.ensures);
      first = c.loop-e.invariant.first ∙ ap (λ (xs : List Expr). first_in c.loop-e.first (each_wanted ss (of_exprs c.args.seen xs))) e
          ∙ first_rest j.refusals (wants_parameter (front_of ss) j ++ each_wanted (drop 1 ss) js) c.loop-e.first c.judge-judged.new.first c.judge-judged.ensures.first
          ∙ first_rest (wants_parameter (front_of ss) j) (each_wanted (drop 1 ss) js) c.judge-judged.new.first c.argument_is-fits.new.first found
          ∙ ap (λ (more : List Sort). first_in c.argument_is-fits.new.first (each_wanted more js)) (sym c.behind-rest.ensures);
    }

pub arguments_are-returns-clause-fit : goal.arguments_are-returns-clause-fit
arguments_are-returns-clause-fit t c =
    sym (c.loop-e.invariant.fit ∙ ap (λ (xs : List Expr). c.loop-e.fit && arguments_fit c.loop-e.rest.now (of_exprs c.args.seen xs)) (nothing_left c.args.arguments.now c.loop-e.e-index c.loop-e-test.false)
    ∙ ap (λ (b : Bool). c.loop-e.fit && b) (fit_end c.loop-e.rest.now ∙ sym c.is_empty.ensures))

pub arguments_are-returns-clause-first : goal.arguments_are-returns-clause-first
arguments_are-returns-clause-first t c =
    sym (sym (each_first c.args.first.now c.args.parameters.now (of_exprs c.args.seen c.args.arguments.now)) ∙ c.loop-e.invariant.first
    ∙ ap (λ (xs : List Expr). first_in c.loop-e.first (each_wanted c.loop-e.rest.now (of_exprs c.args.seen xs))) (nothing_left c.args.arguments.now c.loop-e.e-index c.loop-e-test.false))

pub call_of-returns-then-len-arguments-clause-first : goal.call_of-returns-then-len-arguments-clause-first
call_of-returns-then-len-arguments-clause-first t c =
    let js = of_exprs c.args.seen c.args.arguments.now in
    let ss = c.args.function.now.parameters in
    c.arguments_are-fit.ensures.first ∙ ap (λ (more : List Sort). first_in c.args.first.now (all_refusals js ++ arguments_wanted more js)) c.deref.ensures.value
    ∙ sym (call_fits c.args.first.now c.args.at (signature_of c.args.function.now) js (eq-eqb (length ss.items) (length js) (vec_length ss ∙ sym c.len.ensures ∙ c.if-len-arguments.true ∙ sym (as_many c.args.seen c.args.arguments.now))))

pub call_of-returns-clause-sort : goal.call_of-returns-clause-sort
call_of-returns-clause-sort t c =
    let js = of_exprs c.args.seen c.args.arguments.now in
    let ss = c.args.function.now.parameters in
    sym (ap (λ (b : Bool). ex.and_known b c.args.function.now.gives) (fit_not ss.items js (λ is. c.if-len-arguments.false (c.len.ensures ∙ sym (vec_length ss) ∙ is ∙ as_many c.args.seen c.args.arguments.now))))

pub call_of-returns-clause-first : goal.call_of-returns-clause-first
call_of-returns-clause-first t c =
    let js = of_exprs c.args.seen c.args.arguments.now in
    let ss = c.args.function.now.parameters in
    c.judge_each.ensures ∙ ap (λ (f : Option Refusal). first_in f (all_refusals js)) c.note.ensures
    ∙ sym (call_differs c.args.first.now c.args.at (signature_of c.args.function.now) js (eqb-not (length ss.items) (length js) (λ is. c.if-len-arguments.false (c.len.ensures ∙ sym (vec_length ss) ∙ is ∙ as_many c.args.seen c.args.arguments.now))))
