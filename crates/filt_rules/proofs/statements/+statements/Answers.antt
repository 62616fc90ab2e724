use Rattle.std.proofs.Common.{true, false, ◌∷◌, [], ◌++◌, ◌+◌, arith, drop, List, Option, ap, ◌∙◌, sym}
use Rattle.conf_ast.specs.declared.filters.Arm.{Arm}
use Rattle.conf_ast.specs.declared.filters.Stmt.{Stmt}
use Rattle.conf_ast.specs.Filters.{statement_of, statements_of}
use Rattle.filt_meaning.specs.declared.value.Sort.{Sort}
use Rattle.filt_meaning.specs.Names.{sort_of_type}
use Rattle.filt_types.specs.declared.refusal.Refusal.{Refusal}
use Rattle.filt_rules.specs.Passes.{around_in, body_seen, inside}
use Rattle.filt_types.specs.Walk.{arms_of, else_of}
use Rattle.filt_types.specs.Refusals.{first_in}
use Rattle.filt_types.specs.Scenes.{declared, Variables}
use Rattle.filt_types.specs.Seen.{scene_in, variables_in}
use Rattle.filt_types.specs.Statements.{Checked, check, check_all, check_arms}
use Rattle.filt_rules.proofs.Checking as g
use Rattle.filt_types.proofs.Cost as k
use Rattle.filt_rules.proofs.statements.+statements.Goals as goal

pub check-returns-clause-first : goal.check-returns-clause-first
check-returns-clause-first t c =
    g.own_then_inside (around_in c.args.around).scene (scene_in c.seen_at.result) c.args.around.gives c.args.variables.now (variables_in c.seen_at.result) (statement_of c.args.s.now) c.args.first.now c.check_own.new.first c.check_inside.new.first
    c.seen_at.ensures.scene c.seen_at.ensures.variables c.check_own.ensures c.in_ok-check_inside.ensures.first

pub check_all-returns-clause-seen : goal.check_all-returns-clause-seen
check_all-returns-clause-seen t c =
    sym (c.loop-s.invariant.seen ∙ ap (λ (xs : List Stmt). (check_all (around_in c.args.around) c.loop-s.variables (statements_of xs)).variables) (g.nothing_left c.args.body.now c.loop-s.s-index c.loop-s-test.false))

pub check_all-returns-clause-first : goal.check_all-returns-clause-first
check_all-returns-clause-first t c =
    sym (c.loop-s.invariant.refusals ∙ ap (λ (xs : List Stmt). first_in c.loop-s.first (check_all (around_in c.args.around) c.loop-s.variables (statements_of xs)).refusals) (g.nothing_left c.args.body.now c.loop-s.s-index c.loop-s-test.false))

pub check_all-loop-s-preserved : goal.check_all-loop-s-preserved
check_all-loop-s-preserved t c =
    let e = g.next_item c.args.body.now c.loop-s.s-index c.s-item.result c.loop-s-test.true c.s-item.is in
    let a = around_in c.args.around in
    let vs = c.loop-s.variables in
    let rest = statements_of (drop (c.loop-s.s-index + 1) c.args.body.now) in
    record {
      seen = c.loop-s.invariant.seen ∙ ap (λ (xs : List Stmt). (check_all (around_in c.args.around) c.loop-s.variables (statements_of xs)).variables) e ∙ ap (λ (x : Variables). (check_all (around_in c.args.around) x (statements_of (drop (c.loop-s.s-index + 1) c.args.body.now))).variables) (sym c.in_ok-check.ensures.seen);
      refusals = g.statement_more a (check_all a c.args.variables.now (statements_of c.args.body.now)) vs c.check.new.variables (statement_of c.s-item.result) rest c.args.first.now c.loop-s.first c.check.new.first
          (c.loop-s.invariant.refusals ∙ ap (λ (xs : List Stmt). first_in c.loop-s.first (check_all (around_in c.args.around) c.loop-s.variables (statements_of xs)).refusals) e)
          c.in_ok-check.ensures.seen c.in_ok-check.ensures.first;
    }

pub check_arms-check_all-requires : goal.check_arms-check_all-requires
check_arms-check_all-requires t c = (omega (arith, ap k.stmts_cost c.deref.ensures.value, k.item_below k.arm_cost c.args.arms.now c.loop-arm.arm-index c.arm-item.result c.loop-arm-test.true c.arm-item.is), tt)

pub check_arms-loop-arm-preserved : goal.check_arms-loop-arm-preserved
check_arms-loop-arm-preserved t c =
    let e = g.next_item c.args.arms.now c.loop-arm.arm-index c.arm-item.result c.loop-arm-test.true c.arm-item.is in
    let a = around_in c.args.around in
    let seen = c.in_ok-check_all.ensures.seen ∙ ap (λ (xs : List Stmt). (check_all (around_in c.args.around) c.loop-arm.variables (statements_of xs)).variables) c.deref.ensures.value in
    let first = c.in_ok-check_all.ensures.first ∙ ap (λ (xs : List Stmt). first_in c.loop-arm.first (check_all (around_in c.args.around) c.loop-arm.variables (statements_of xs)).refusals) c.deref.ensures.value in
    record {
      seen = c.loop-arm.invariant.seen ∙ ap (λ (xs : List (Arm Stmt)). (check_arms (around_in c.args.around) c.loop-arm.variables (arms_of xs)).variables) e ∙ ap (λ (x : Variables). (check_arms (around_in c.args.around) x (arms_of (drop (c.loop-arm.arm-index + 1) c.args.arms.now))).variables) (sym seen);
      refusals = g.arm_more a (check_arms a c.args.variables.now (arms_of c.args.arms.now)) c.loop-arm.variables c.check_all.new.variables c.arm-item.result (drop (c.loop-arm.arm-index + 1) c.args.arms.now) c.args.first.now c.loop-arm.first c.check_all.new.first
          (c.loop-arm.invariant.refusals ∙ ap (λ (xs : List (Arm Stmt)). first_in c.loop-arm.first (check_arms (around_in c.args.around) c.loop-arm.variables (arms_of xs)).refusals) e)
          seen first;
    }

pub check_block-returns-clause-seen : goal.check_block-returns-clause-seen
check_block-returns-clause-seen t c =
    g.cut_off (around_in c.args.around) c.args.variables.now c.check_all.new.variables c.truncate.new.self (statements_of c.args.body.now) c.len-depth.result c.in_ok-check_all.ensures.seen c.len-depth.ensures c.truncate.ensures

pub check_loop-returns-clause-seen : goal.check_loop-returns-clause-seen
check_loop-returns-clause-seen t c =
    let with = c.in_ok-declare.ensures ∙ ap (λ (k : Sort). c.args.variables.now ++ declared (around_in c.args.around).scene c.args.name k true ∷ []) c.type_sort.ensures in
    g.out_again (around_in c.args.around) c.args.variables.now c.declare.new.variables c.check.new.variables c.remove.new.self (declared (around_in c.args.around).scene c.args.name (sort_of_type c.args.variable_type) true) (statement_of c.args.body.now) c.len-depth.result with c.in_ok-check.ensures.seen c.len-depth.ensures c.in_ok-remove.ensures

pub check_loop-returns-clause-first : goal.check_loop-returns-clause-first
check_loop-returns-clause-first t c =
    let with = c.in_ok-declare.ensures ∙ ap (λ (k : Sort). c.args.variables.now ++ declared (around_in c.args.around).scene c.args.name k true ∷ []) c.type_sort.ensures in
    c.in_ok-check.ensures.first ∙ ap (λ (x : Variables). first_in c.args.first.now (check (around_in c.args.around) x (statement_of c.args.body.now)).refusals) with

pub check_inside-returns-in-Block-clause-seen : goal.check_inside-returns-in-Block-clause-seen
check_inside-returns-in-Block-clause-seen t c =
    g.ok_to c.check_block.result c.check_block.new.variables c.args.variables.now (inside (around_in c.args.around) c.args.variables.now (statement_of c.args.s.now)).variables
    (sym (ap (λ (x : Stmt). (inside (around_in c.args.around) c.args.variables.now (statement_of x)).variables) c.in-Block.is ∙ ap (λ (x : Checked). x.variables) (g.inside-Block (around_in c.args.around) c.args.variables.now c.in-Block.body)))
    c.check_block.ensures.seen

pub check_inside-returns-in-Block-clause-first : goal.check_inside-returns-in-Block-clause-first
check_inside-returns-in-Block-clause-first t c =
    g.ok_to c.check_block.result c.check_block.new.first (first_in c.args.first.now (check_all (around_in c.args.around) c.args.variables.now (statements_of c.deref.result.now)).refusals) (first_in c.args.first.now (inside (around_in c.args.around) c.args.variables.now (statement_of c.args.s.now)).refusals)
    (ap (λ (xs : List Stmt). first_in c.args.first.now (check_all (around_in c.args.around) c.args.variables.now (statements_of xs)).refusals) c.deref.ensures.value ∙ sym (ap (λ (x : Stmt). first_in c.args.first.now (inside (around_in c.args.around) c.args.variables.now (statement_of x)).refusals) c.in-Block.is ∙ ap (λ (x : Checked). first_in c.args.first.now x.refusals) (g.inside-Block (around_in c.args.around) c.args.variables.now c.in-Block.body)))
    c.check_block.ensures.first

pub check_inside-returns-in-Declare-clause-seen : goal.check_inside-returns-in-Declare-clause-seen
check_inside-returns-in-Declare-clause-seen t c =
    g.ok_to c.declare.result c.declare.new.variables (c.args.variables.now ++ declared (around_in c.args.around).scene c.in-Declare.name c.type_sort.result false ∷ []) (inside (around_in c.args.around) c.args.variables.now (statement_of c.args.s.now)).variables
    (ap (λ (k : Sort). c.args.variables.now ++ declared (around_in c.args.around).scene c.in-Declare.name k false ∷ []) c.type_sort.ensures ∙ sym (ap (λ (x : Stmt). (inside (around_in c.args.around) c.args.variables.now (statement_of x)).variables) c.in-Declare.is ∙ g.inside-Declare (around_in c.args.around) c.args.variables.now c.in-Declare.variable_type c.in-Declare.name c.in-Declare.value))
    c.declare.ensures

pub check_inside-returns-in-If-clause-seen : goal.check_inside-returns-in-If-clause-seen
check_inside-returns-in-If-clause-seen t c =
    g.ok_to c.check.result c.check.new.variables (check (around_in c.args.around) c.args.variables.now (statement_of c.deref-in-If.result.now)).variables (inside (around_in c.args.around) c.args.variables.now (statement_of c.args.s.now)).variables
    (ap (λ (x : Stmt). (check (around_in c.args.around) c.args.variables.now (statement_of x)).variables) c.deref-in-If.ensures ∙ sym (ap (λ (x : Stmt). (inside (around_in c.args.around) c.args.variables.now (statement_of x)).variables) c.in-If.is ∙ ap (λ (x : Checked). x.variables) (g.inside-If (around_in c.args.around) c.args.variables.now c.in-If.field-0 c.in-If.s)))
    c.check.ensures.seen

pub check_inside-returns-in-If-clause-first : goal.check_inside-returns-in-If-clause-first
check_inside-returns-in-If-clause-first t c =
    g.ok_to c.check.result c.check.new.first (first_in c.args.first.now (check (around_in c.args.around) c.args.variables.now (statement_of c.deref-in-If.result.now)).refusals) (first_in c.args.first.now (inside (around_in c.args.around) c.args.variables.now (statement_of c.args.s.now)).refusals)
    (ap (λ (x : Stmt). first_in c.args.first.now (check (around_in c.args.around) c.args.variables.now (statement_of x)).refusals) c.deref-in-If.ensures ∙ sym (ap (λ (x : Stmt). first_in c.args.first.now (inside (around_in c.args.around) c.args.variables.now (statement_of x)).refusals) c.in-If.is ∙ ap (λ (x : Checked). first_in c.args.first.now x.refusals) (g.inside-If (around_in c.args.around) c.args.variables.now c.in-If.field-0 c.in-If.s)))
    c.check.ensures.first

pub check_inside-returns-in-For-clause-seen : goal.check_inside-returns-in-For-clause-seen
check_inside-returns-in-For-clause-seen t c =
    g.ok_to c.check_loop.result c.check_loop.new.variables (body_seen (around_in c.args.around) c.args.variables.now c.in-For.variable_type c.in-For.name (statement_of c.deref-in-For.result.now)).variables (inside (around_in c.args.around) c.args.variables.now (statement_of c.args.s.now)).variables
    (ap (λ (x : Stmt). (body_seen (around_in c.args.around) c.args.variables.now c.in-For.variable_type c.in-For.name (statement_of x)).variables) c.deref-in-For.ensures ∙ sym (ap (λ (x : Stmt). (inside (around_in c.args.around) c.args.variables.now (statement_of x)).variables) c.in-For.is ∙ ap (λ (x : Checked). x.variables) (g.inside-For (around_in c.args.around) c.args.variables.now c.in-For.at c.in-For.variable_type c.in-For.name c.in-For.list c.in-For.body)))
    c.check_loop.ensures.seen

pub check_inside-returns-in-For-clause-first : goal.check_inside-returns-in-For-clause-first
check_inside-returns-in-For-clause-first t c =
    g.ok_to c.check_loop.result c.check_loop.new.first (first_in c.args.first.now (body_seen (around_in c.args.around) c.args.variables.now c.in-For.variable_type c.in-For.name (statement_of c.deref-in-For.result.now)).refusals) (first_in c.args.first.now (inside (around_in c.args.around) c.args.variables.now (statement_of c.args.s.now)).refusals)
    (ap (λ (x : Stmt). first_in c.args.first.now (body_seen (around_in c.args.around) c.args.variables.now c.in-For.variable_type c.in-For.name (statement_of x)).refusals) c.deref-in-For.ensures ∙ sym (ap (λ (x : Stmt). first_in c.args.first.now (inside (around_in c.args.around) c.args.variables.now (statement_of x)).refusals) c.in-For.is ∙ ap (λ (x : Checked). first_in c.args.first.now x.refusals) (g.inside-For (around_in c.args.around) c.args.variables.now c.in-For.at c.in-For.variable_type c.in-For.name c.in-For.list c.in-For.body)))
    c.check_loop.ensures.first

pub check_inside-returns-in_ok-check-in-IfElse-clause-first : goal.check_inside-returns-in_ok-check-in-IfElse-clause-first
check_inside-returns-in_ok-check-in-IfElse-clause-first t c =
    g.ok_to c.check-in-IfElse-2.result c.check-in-IfElse-2.new.first (first_in c.check-in-IfElse.new.first (check (around_in c.args.around) c.check-in-IfElse.new.variables (statement_of c.deref-in-IfElse-2.result.now)).refusals) (first_in c.args.first.now (inside (around_in c.args.around) c.args.variables.now (statement_of c.args.s.now)).refusals)
    (ap (λ (x : Stmt). first_in c.check-in-IfElse.new.first (check (around_in c.args.around) c.check-in-IfElse.new.variables (statement_of x)).refusals) c.deref-in-IfElse-2.ensures
    ∙ ap (λ (x : Variables). first_in c.check-in-IfElse.new.first (check (around_in c.args.around) x (statement_of c.in-IfElse.otherwise.value)).refusals) (c.in_ok-check-in-IfElse.ensures.seen ∙ ap (λ (x : Stmt). (check (around_in c.args.around) c.args.variables.now (statement_of x)).variables) c.deref-in-IfElse.ensures)
    ∙ ap (λ (f : Option Refusal). first_in f (check (around_in c.args.around) (check (around_in c.args.around) c.args.variables.now (statement_of c.in-IfElse.s.value)).variables (statement_of c.in-IfElse.otherwise.value)).refusals) (c.in_ok-check-in-IfElse.ensures.first ∙ ap (λ (x : Stmt). first_in c.args.first.now (check (around_in c.args.around) c.args.variables.now (statement_of x)).refusals) c.deref-in-IfElse.ensures)
    ∙ sym (ap (λ (x : Stmt). first_in c.args.first.now (inside (around_in c.args.around) c.args.variables.now (statement_of x)).refusals) c.in-IfElse.is ∙ g.if_else_first (around_in c.args.around) c.args.variables.now c.in-IfElse.field-0 c.in-IfElse.s c.in-IfElse.otherwise c.args.first.now))
    c.check-in-IfElse-2.ensures.first

pub check_inside-returns-in_ok-check_arms-in-Case-clause-seen : goal.check_inside-returns-in_ok-check_arms-in-Case-clause-seen
check_inside-returns-in_ok-check_arms-in-Case-clause-seen t c =
    g.ok_to c.check_else.result c.check_else.new.variables (check_all (around_in c.args.around) c.check_arms.new.variables (else_of c.in-Case.otherwise)).variables (inside (around_in c.args.around) c.args.variables.now (statement_of c.args.s.now)).variables
    (ap (λ (x : Variables). (check_all (around_in c.args.around) x (else_of c.in-Case.otherwise)).variables) (c.in_ok-check_arms-in-Case.ensures.seen ∙ ap (λ (xs : List (Arm Stmt)). (check_arms (around_in c.args.around) c.args.variables.now (arms_of xs)).variables) c.deref-in-Case.ensures.value)
    ∙ sym (ap (λ (x : Stmt). (inside (around_in c.args.around) c.args.variables.now (statement_of x)).variables) c.in-Case.is ∙ g.inside-Case (around_in c.args.around) c.args.variables.now c.in-Case.at c.in-Case.value c.in-Case.arms c.in-Case.otherwise))
    c.check_else.ensures.seen

pub check_inside-returns-in_ok-check_arms-in-Case-clause-first : goal.check_inside-returns-in_ok-check_arms-in-Case-clause-first
check_inside-returns-in_ok-check_arms-in-Case-clause-first t c =
    g.ok_to c.check_else.result c.check_else.new.first (first_in c.check_arms.new.first (check_all (around_in c.args.around) c.check_arms.new.variables (else_of c.in-Case.otherwise)).refusals) (first_in c.args.first.now (inside (around_in c.args.around) c.args.variables.now (statement_of c.args.s.now)).refusals)
    (ap (λ (x : Variables). first_in c.check_arms.new.first (check_all (around_in c.args.around) x (else_of c.in-Case.otherwise)).refusals) (c.in_ok-check_arms-in-Case.ensures.seen ∙ ap (λ (xs : List (Arm Stmt)). (check_arms (around_in c.args.around) c.args.variables.now (arms_of xs)).variables) c.deref-in-Case.ensures.value)
    ∙ ap (λ (f : Option Refusal). first_in f (check_all (around_in c.args.around) (check_arms (around_in c.args.around) c.args.variables.now (arms_of c.in-Case.arms.items)).variables (else_of c.in-Case.otherwise)).refusals) (c.in_ok-check_arms-in-Case.ensures.first ∙ ap (λ (xs : List (Arm Stmt)). first_in c.args.first.now (check_arms (around_in c.args.around) c.args.variables.now (arms_of xs)).refusals) c.deref-in-Case.ensures.value)
    ∙ sym (ap (λ (x : Stmt). first_in c.args.first.now (inside (around_in c.args.around) c.args.variables.now (statement_of x)).refusals) c.in-Case.is ∙ g.case_first (around_in c.args.around) c.args.variables.now c.in-Case.at c.in-Case.value c.in-Case.arms c.in-Case.otherwise c.args.first.now))
    c.check_else.ensures.first

pub check_all-check-requires : goal.check_all-check-requires
check_all-check-requires t c = (omega (arith, k.item_below k.stmt_cost c.args.body.now c.loop-s.s-index c.s-item.result c.loop-s-test.true c.s-item.is), tt)

pub check_inside-check_arms-requires : goal.check_inside-check_arms-requires
check_inside-check_arms-requires t c = (omega (arith, ap k.stmt_cost c.in-Case.is, k.cost-Case c.in-Case.at c.in-Case.value c.in-Case.arms c.in-Case.otherwise, ap k.arms_cost c.deref-in-Case.ensures.value), tt)
