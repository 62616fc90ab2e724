use Rattle.std.proofs.Common.{◌≡◌, ℕ, ◌+◌, ◌*◌, length, ◌++◌, [], ◌∷◌, arith, List, map, Option, drop, ap, refl, sym, ◌∙◌, Vec}
use Rattle.std.specs.Global.{Global}
use Rattle.std.proofs.lemmas.Result.{IfOk-weaker}
use Rattle.conf_ast.specs.Names.{name_bytes}
use Rattle.conf_ast.specs.declared.filters.Arm.{Arm}
use Rattle.conf_ast.specs.declared.filters.Stmt.{Stmt}
use Rattle.conf_ast.specs.declared.filters.Stmt.TheVariants as s
use Rattle.conf_ast.specs.Filters.{expression_of, statement_of, statements_of, Nothing, Unset, Accept, Reject}
use Rattle.filt_meaning.specs.Flow as flow
use Rattle.filt_meaning.specs.Meaning.{act, acts, all_declared, nothing, stop, unset, value}
use Rattle.filt_meaning.specs.Names.{Around, Context, Variable, with_variables}
use Rattle.filt_meaning.specs.Scopes.{context_of, tables_of}
use Rattle.filt_meaning.specs.Trees as trees
use Rattle.filt_meaning.specs.declared.tree.TStmt.{TStmt}
use Rattle.filt_meaning.specs.declared.tree.TStmt.TheVariants as ts
use Rattle.filt_meaning.specs.declared.value.Sort.{Sort}
use Rattle.filt_meaning.specs.Steps.{arms_steps, body_steps, stmt_steps}
use Rattle.filt_meaning.proofs.Steps as m
use Rattle.filt_types.specs.Seen.{scene_of}
use Rattle.filt_types.specs.Walk.{arms_of}
use Rattle.filt_types.specs.Weight.{acts_weight, arms_weight}
use Rattle.filt_types.proofs.Cost as k
use Rattle.filt_types.proofs.Trees as o
use Rattle.filt_check.specs.declared.collect.Declared.{Declared}
use Rattle.filt_check.specs.Seen.{name_of, sort_of, variables_of, acts_in, arm_in, arms_in, arm_seen, arms_seen, otherwise_in}
use Rattle.filt_check.specs.Seen.{arms_declare, otherwise_declares}
use Rattle.filt_resolve.specs.Steps.{calls}
use Rattle.filt_check.proofs.Acting as a
use Rattle.filt_check.proofs.Forms as f
use Rattle.filt_check.proofs.Gathered as g
use Rattle.filt_check.proofs.Loaded as w
use Rattle.filt_resolve.proofs.Lookups.{mapped_length}
use Rattle.filt_resolve.proofs.Resolving as r
use Rattle.filt_items.proofs.Sets.{next_item}
use Rattle.filt_check.proofs.blocks.+blocks.Goals as goal

pub resolve_statement-braced-requires : goal.resolve_statement-braced-requires
resolve_statement-braced-requires t c = (omega (arith, ap (λ (x : Stmt). k.stmt_cost x) c.in-Block.is, k.cost-Block c.in-Block.body, ap (λ (xs : List Stmt). k.stmts_cost xs) c.deref.ensures.value), tt)

pub resolve_statement-if_then-requires : goal.resolve_statement-if_then-requires
resolve_statement-if_then-requires t c = (omega (arith, ap (λ (x : Stmt). k.stmt_cost x) c.in-If.is, k.cost-If c.in-If.e c.in-If.first, ap (λ (x : Stmt). k.stmt_cost x) c.deref-in-If.ensures), tt)

pub resolve_statement-if_else-requires : goal.resolve_statement-if_else-requires
resolve_statement-if_else-requires t c = (omega (arith, ap (λ (x : Stmt). k.stmt_cost x) c.in-IfElse.is, k.cost-IfElse c.in-IfElse.e c.in-IfElse.first c.in-IfElse.second, ap (λ (x : Stmt). k.stmt_cost x) c.deref-in-IfElse.ensures, ap (λ (x : Stmt). k.stmt_cost x) c.deref-in-IfElse-2.ensures), tt)

pub resolve_statement-case-requires : goal.resolve_statement-case-requires
resolve_statement-case-requires t c = (omega (arith, ap (λ (x : Stmt). k.stmt_cost x) c.in-Case.is, k.cost-Case c.in-Case.at c.in-Case.value c.in-Case.arms c.in-Case.otherwise, ap (λ (xs : List (Arm Stmt)). k.arms_cost xs) c.deref-in-Case.ensures.value), tt)

pub resolve_statement-each-requires : goal.resolve_statement-each-requires
resolve_statement-each-requires t c = (omega (arith, ap (λ (x : Stmt). k.stmt_cost x) c.in-For.is, k.cost-For c.in-For.at c.in-For.variable_type c.in-For.name c.in-For.list c.in-For.body, ap (λ (x : Stmt). k.stmt_cost x) c.deref-in-For.ensures), tt)

pub resolve_all-resolve_statement-requires : goal.resolve_all-resolve_statement-requires
resolve_all-resolve_statement-requires t c = (omega (arith, k.item_below k.stmt_cost c.args.body.now c.loop-s.s-index c.s-item.result c.loop-s-test.true c.s-item.is), tt)

pub resolve_arms-resolve_arm-requires : goal.resolve_arms-resolve_arm-requires
resolve_arms-resolve_arm-requires t c = (omega (arith, k.item_below k.arm_cost c.args.arms.now c.loop-arm.arm-index c.arm-item.result c.loop-arm-test.true c.arm-item.is), tt)

pub resolve_arm-resolve_all-requires : goal.resolve_arm-resolve_all-requires
resolve_arm-resolve_all-requires t c = (omega (arith, ap (λ (xs : List Stmt). k.stmts_cost xs) c.deref.ensures.value), tt)

pub resolve_statement-returns-in-Block-clause-meaning : goal.resolve_statement-returns-in-Block-clause-meaning
resolve_statement-returns-in-Block-clause-meaning t c = a.block_ok c.braced.result (λ around. tables_of around c.args.scope.now) (λ around. context_of c.args.text.now around c.args.scope.now c.args.names.now) c.args.s.now c.in-Block.body c.deref.result.now c.in-Block.is c.deref.ensures.value c.braced.ensures.meaning

pub resolve_statement-returns-in-Declare-clause-meaning : goal.resolve_statement-returns-in-Declare-clause-meaning
resolve_statement-returns-in-Declare-clause-meaning t c = a.declare_ok c.declare.result (λ around. tables_of around c.args.scope.now) (λ around. context_of c.args.text.now around c.args.scope.now c.args.names.now) c.args.s.now c.in-Declare.variable_type c.in-Declare.name c.in-Declare.value c.in-Declare.is c.declare.ensures.meaning

pub resolve_statement-returns-in-Assign-clause-meaning : goal.resolve_statement-returns-in-Assign-clause-meaning
resolve_statement-returns-in-Assign-clause-meaning t c = a.assign_ok c.assign.result (λ around. tables_of around c.args.scope.now) (λ around. context_of c.args.text.now around c.args.scope.now c.args.names.now) c.args.s.now c.in-Assign.target c.in-Assign.e c.in-Assign.is c.assign.ensures.meaning

pub resolve_statement-returns-in-Change-clause-meaning : goal.resolve_statement-returns-in-Change-clause-meaning
resolve_statement-returns-in-Change-clause-meaning t c = a.change_ok c.change.result (λ around. tables_of around c.args.scope.now) (λ around. context_of c.args.text.now around c.args.scope.now c.args.names.now) c.args.s.now c.in-Change.target c.in-Change.what c.in-Change.is c.change.ensures.meaning

pub resolve_statement-returns-in-If-clause-meaning : goal.resolve_statement-returns-in-If-clause-meaning
resolve_statement-returns-in-If-clause-meaning t c = a.if_ok c.if_then.result (λ around. tables_of around c.args.scope.now) (λ around. context_of c.args.text.now around c.args.scope.now c.args.names.now) c.args.s.now c.in-If.e c.in-If.first c.deref-in-If.result.now c.in-If.is c.deref-in-If.ensures c.if_then.ensures.meaning

pub resolve_statement-returns-in-IfElse-clause-meaning : goal.resolve_statement-returns-in-IfElse-clause-meaning
resolve_statement-returns-in-IfElse-clause-meaning t c = a.if_else_ok c.if_else.result (λ around. tables_of around c.args.scope.now) (λ around. context_of c.args.text.now around c.args.scope.now c.args.names.now) c.args.s.now c.in-IfElse.e c.in-IfElse.first c.in-IfElse.second c.deref-in-IfElse.result.now c.deref-in-IfElse-2.result.now c.in-IfElse.is c.deref-in-IfElse.ensures c.deref-in-IfElse-2.ensures c.if_else.ensures.meaning

pub resolve_statement-returns-in-Case-clause-meaning : goal.resolve_statement-returns-in-Case-clause-meaning
resolve_statement-returns-in-Case-clause-meaning t c = a.case_ok c.case.result (λ around. tables_of around c.args.scope.now) (λ around. context_of c.args.text.now around c.args.scope.now c.args.names.now) c.args.s.now c.in-Case.at c.in-Case.value c.in-Case.arms c.deref-in-Case.result.now c.in-Case.otherwise c.in-Case.is c.deref-in-Case.ensures.value c.case.ensures.meaning

pub resolve_statement-returns-in-For-clause-meaning : goal.resolve_statement-returns-in-For-clause-meaning
resolve_statement-returns-in-For-clause-meaning t c = a.for_ok c.each.result (λ around. tables_of around c.args.scope.now) (λ around. context_of c.args.text.now around c.args.scope.now c.args.names.now) c.args.s.now c.in-For.at c.in-For.variable_type c.in-For.name c.in-For.list c.in-For.body c.deref-in-For.result.now (λ around. with_variables (context_of c.args.text.now around c.args.scope.now c.args.names.now) (name_bytes c.args.text.now c.in-For.name ∷ [])) c.in-For.is c.deref-in-For.ensures (λ around. refl) c.each.ensures.meaning

pub resolve_statement-returns-in-Return-clause-meaning : goal.resolve_statement-returns-in-Return-clause-meaning
resolve_statement-returns-in-Return-clause-meaning t c = a.return_ok c.returned.result (λ around. tables_of around c.args.scope.now) (λ around. context_of c.args.text.now around c.args.scope.now c.args.names.now) c.args.s.now c.in-Return.at c.in-Return.value c.in-Return.is c.returned.ensures.meaning

pub resolve_statement-returns-in-Print-clause-meaning : goal.resolve_statement-returns-in-Print-clause-meaning
resolve_statement-returns-in-Print-clause-meaning t c = a.print_ok c.print.result (λ around. tables_of around c.args.scope.now) (λ around. context_of c.args.text.now around c.args.scope.now c.args.names.now) c.args.s.now c.in-Print.given c.deref-in-Print.result.now c.in-Print.is c.deref-in-Print.ensures.value c.print.ensures.meaning

pub resolve_statement-returns-in-Printn-clause-meaning : goal.resolve_statement-returns-in-Printn-clause-meaning
resolve_statement-returns-in-Printn-clause-meaning t c = a.print_part_ok c.print-in-Printn.result (λ around. tables_of around c.args.scope.now) (λ around. context_of c.args.text.now around c.args.scope.now c.args.names.now) c.args.s.now c.in-Printn.given c.deref-in-Printn.result.now c.in-Printn.is c.deref-in-Printn.ensures.value c.print-in-Printn.ensures.meaning

pub resolve_statement-returns-in-Call-clause-meaning : goal.resolve_statement-returns-in-Call-clause-meaning
resolve_statement-returns-in-Call-clause-meaning t c = a.call_ok c.called.result (λ around. tables_of around c.args.scope.now) (λ around. context_of c.args.text.now around c.args.scope.now c.args.names.now) c.args.s.now c.in-Call.name c.in-Call.open c.in-Call.arguments c.deref-in-Call.result.now c.in-Call.is c.deref-in-Call.ensures.value c.called.ensures.meaning

pub resolve_statement-returns-in-Empty-clause-meaning : goal.resolve_statement-returns-in-Empty-clause-meaning
resolve_statement-returns-in-Empty-clause-meaning t c = λ around. a.form_same (tables_of around c.args.scope.now) (context_of c.args.text.now around c.args.scope.now c.args.names.now) ts.Nothing nothing c.args.s.now s.Empty Nothing (f.stmt-Nothing (tables_of around c.args.scope.now)) refl c.in-Empty.is o.as-Empty

pub resolve_statement-returns-in-Accept-clause-meaning : goal.resolve_statement-returns-in-Accept-clause-meaning
resolve_statement-returns-in-Accept-clause-meaning t c = λ around. a.form_same (tables_of around c.args.scope.now) (context_of c.args.text.now around c.args.scope.now c.args.names.now) ts.Accept (stop flow.Accepted) c.args.s.now s.Accept Accept (f.stmt-Accept (tables_of around c.args.scope.now)) refl c.in-Accept.is o.as-Accept

pub resolve_statement-returns-in-Reject-clause-meaning : goal.resolve_statement-returns-in-Reject-clause-meaning
resolve_statement-returns-in-Reject-clause-meaning t c = λ around. a.form_same (tables_of around c.args.scope.now) (context_of c.args.text.now around c.args.scope.now c.args.names.now) ts.Reject (stop flow.Rejected) c.args.s.now s.Reject Reject (f.stmt-Reject (tables_of around c.args.scope.now)) refl c.in-Reject.is o.as-Reject

pub resolve_statement-returns-in-Unset-clause-meaning : goal.resolve_statement-returns-in-Unset-clause-meaning
resolve_statement-returns-in-Unset-clause-meaning t c = λ around. a.form_same (tables_of around c.args.scope.now) (context_of c.args.text.now around c.args.scope.now c.args.names.now) (ts.Unset c.in-Unset.attribute) (unset c.in-Unset.attribute) c.args.s.now (s.Unset c.in-Unset.open c.in-Unset.attribute_at c.in-Unset.attribute) (Unset c.in-Unset.open c.in-Unset.attribute_at c.in-Unset.attribute) (f.stmt-Unset c.in-Unset.attribute (tables_of around c.args.scope.now)) refl c.in-Unset.is (o.as-Unset c.in-Unset.open c.in-Unset.attribute_at c.in-Unset.attribute)

pub braced-returns-clause-meaning : goal.braced-returns-clause-meaning
braced-returns-clause-meaning t c = λ around. a.block_made (tables_of around c.args.scope.now) (context_of c.args.text.now around c.args.scope.now c.args.names.now) c.in_ok-block.block.sorts c.in_ok-block.block.body (statements_of c.args.body.now) c.in_ok-block.ensures.sorts (c.in_ok-block.ensures.body around)

pub if_then-returns-clause-meaning : goal.if_then-returns-clause-meaning
if_then-returns-clause-meaning t c = λ around. a.if_made (tables_of around c.args.scope.now) c.in_ok-x.x c.in_ok-a.a (value (expression_of c.args.e.now) (context_of c.args.text.now around c.args.scope.now c.args.names.now)) (act (statement_of c.args.first.now) (context_of c.args.text.now around c.args.scope.now c.args.names.now)) (c.in_ok-x.ensures.meaning around) (c.in_ok-a.ensures.meaning around)

pub if_else-returns-clause-meaning : goal.if_else-returns-clause-meaning
if_else-returns-clause-meaning t c = λ around. a.if_else_made (tables_of around c.args.scope.now) c.in_ok-x.x c.in_ok-a.a c.in_ok-b.b (value (expression_of c.args.e.now) (context_of c.args.text.now around c.args.scope.now c.args.names.now)) (act (statement_of c.args.first.now) (context_of c.args.text.now around c.args.scope.now c.args.names.now)) (act (statement_of c.args.second.now) (context_of c.args.text.now around c.args.scope.now c.args.names.now)) (c.in_ok-x.ensures.meaning around) (c.in_ok-a.ensures.meaning around) (c.in_ok-b.ensures.meaning around)

pub case-returns-clause-meaning : goal.case-returns-clause-meaning
case-returns-clause-meaning t c = λ around. a.case_made (tables_of around c.args.scope.now) c.in_ok-x.x c.in_ok-a.a c.in_ok-b.b (value (expression_of c.args.e.now) (context_of c.args.text.now around c.args.scope.now c.args.names.now)) (arms_in (context_of c.args.text.now around c.args.scope.now c.args.names.now) c.args.arms.now) (otherwise_in (context_of c.args.text.now around c.args.scope.now c.args.names.now) c.args.otherwise.now) (c.in_ok-x.ensures.meaning around) (c.in_ok-a.ensures.meaning around) (c.in_ok-b.ensures.meaning around)

pub resolve_all-loop-s-preserved : goal.resolve_all-loop-s-preserved
resolve_all-loop-s-preserved t c = (
  λ around. r.moved (λ (x : TStmt). trees.stmt x (tables_of around c.args.scope.now)) (λ (y : Stmt). act (statement_of y) (context_of c.args.text.now around c.args.scope.now c.args.names.now)) c.loop-s.all.items c.push.new.self.items c.in_ok-resolve_statement.field-0 c.s-item.result (drop (c.loop-s.s-index + 1) c.args.body.now) (drop c.loop-s.s-index c.args.body.now) (acts_in (context_of c.args.text.now around c.args.scope.now c.args.names.now) c.args.body.now) c.in_ok-push.ensures.items (next_item c.args.body.now c.loop-s.s-index c.s-item.result c.loop-s-test.true c.s-item.is) (c.in_ok-resolve_statement.ensures.meaning around) (c.loop-s.invariant.0 around),
  λ more. w.more_acts c.args.text.now (scene_of c.args.text.now c.args.scope.now) (calls c.args.scope.now more) c.loop-s.all.items c.push.new.self.items c.in_ok-resolve_statement.field-0 c.s-item.result (drop (c.loop-s.s-index + 1) c.args.body.now) (drop c.loop-s.s-index c.args.body.now) (length (all_declared c.args.text.now (statements_of c.args.body.now))) (5 * acts_weight (scene_of c.args.text.now c.args.scope.now) (statements_of c.args.body.now)) c.in_ok-push.ensures.items (next_item c.args.body.now c.loop-s.s-index c.s-item.result c.loop-s-test.true c.s-item.is) (c.in_ok-resolve_statement.ensures.steps more) (c.loop-s.invariant.1 more),
)

pub resolve_all-returns-clause-meaning : goal.resolve_all-returns-clause-meaning
resolve_all-returns-clause-meaning t c = λ around. r.finished (trees.stmts (tables_of around c.args.scope.now) c.loop-s.all.items) (λ (y : Stmt). act (statement_of y) (context_of c.args.text.now around c.args.scope.now c.args.names.now)) c.args.body.now c.loop-s.s-index (acts_in (context_of c.args.text.now around c.args.scope.now c.args.names.now) c.args.body.now) c.loop-s-test.false (c.loop-s.invariant.0 around)

pub resolve_arms-loop-arm-preserved : goal.resolve_arms-loop-arm-preserved
resolve_arms-loop-arm-preserved t c = (
  λ around. r.moved (arm_seen (tables_of around c.args.scope.now)) (arm_in (context_of c.args.text.now around c.args.scope.now c.args.names.now)) c.loop-arm.all.items c.push.new.self.items c.in_ok-resolve_arm.field-0 c.arm-item.result (drop (c.loop-arm.arm-index + 1) c.args.arms.now) (drop c.loop-arm.arm-index c.args.arms.now) (arms_in (context_of c.args.text.now around c.args.scope.now c.args.names.now) c.args.arms.now) c.in_ok-push.ensures.items (next_item c.args.arms.now c.loop-arm.arm-index c.arm-item.result c.loop-arm-test.true c.arm-item.is) (c.in_ok-resolve_arm.ensures.meaning around) (c.loop-arm.invariant.0 around),
  λ more. w.more_arms c.args.text.now (scene_of c.args.text.now c.args.scope.now) (calls c.args.scope.now more) c.loop-arm.all.items c.push.new.self.items c.in_ok-resolve_arm.field-0 c.arm-item.result (drop (c.loop-arm.arm-index + 1) c.args.arms.now) (drop c.loop-arm.arm-index c.args.arms.now) (length (arms_declare c.args.text.now c.args.arms.now)) (5 * arms_weight (scene_of c.args.text.now c.args.scope.now) (arms_of c.args.arms.now)) c.in_ok-push.ensures.items (next_item c.args.arms.now c.loop-arm.arm-index c.arm-item.result c.loop-arm-test.true c.arm-item.is) (c.in_ok-resolve_arm.ensures.steps more) (c.loop-arm.invariant.1 more),
)

pub resolve_arms-returns-clause-meaning : goal.resolve_arms-returns-clause-meaning
resolve_arms-returns-clause-meaning t c = λ around. r.finished (arms_seen (tables_of around c.args.scope.now) c.loop-arm.all.items) (arm_in (context_of c.args.text.now around c.args.scope.now c.args.names.now)) c.args.arms.now c.loop-arm.arm-index (arms_in (context_of c.args.text.now around c.args.scope.now c.args.names.now) c.args.arms.now) c.loop-arm-test.false (c.loop-arm.invariant.0 around)

pub resolve_arm-returns-clause-meaning : goal.resolve_arm-returns-clause-meaning
resolve_arm-returns-clause-meaning t c = λ around. a.arm_made (tables_of around c.args.scope.now) (context_of c.args.text.now around c.args.scope.now c.args.names.now) c.in_ok-labels.labels c.in_ok-body.body.items c.args.arm.now c.deref-2.result.now c.deref.result.now c.deref-2.ensures.value c.deref.ensures.value (c.in_ok-labels.ensures around c.args.names.now) (c.in_ok-body.ensures.meaning around)

pub resolve_otherwise-returns-in-Some-clause-meaning : goal.resolve_otherwise-returns-in-Some-clause-meaning
resolve_otherwise-returns-in-Some-clause-meaning t c =
    IfOk-weaker c.resolve_all.result
    (λ v. (around : Around) → trees.stmts (tables_of around c.args.scope.now) v.items ≡ acts_in (context_of c.args.text.now around c.args.scope.now c.args.names.now) c.deref.result.now)
    (λ v. (around : Around) → trees.body (tables_of around c.args.scope.now) v.items ≡ otherwise_in (context_of c.args.text.now around c.args.scope.now c.args.names.now) c.args.otherwise.now)
    (λ v h around. a.body_same (tables_of around c.args.scope.now) (context_of c.args.text.now around c.args.scope.now c.args.names.now) v.items c.deref.result.now (h around) ∙ ap (λ (ss : List Stmt). acts (statements_of ss) (context_of c.args.text.now around c.args.scope.now c.args.names.now)) c.deref.ensures.value ∙ ap (λ (o : Option (Vec Stmt Global)). otherwise_in (context_of c.args.text.now around c.args.scope.now c.args.names.now) o) (sym c.in-Some.is))
    c.resolve_all.ensures.meaning

pub resolve_block-returns-clause-sorts : goal.resolve_block-returns-clause-sorts
resolve_block-returns-clause-sorts t c =
    let own = all_declared c.args.text.now (statements_of c.args.body.now) in
    g.sorts_made c.collect_all.new.out.items own c.in_ok-sorts.sorts.items (c.in_ok-collect_all.ensures ∙ ap (λ (ds : List Declared). variables_of ds ++ own) c.new-declared.ensures.items)
    (c.in_ok-sorts.ensures ∙ ap (λ (ds : List Declared). map sort_of ds) c.deref-2.ensures.value)

pub resolve_block-returns-clause-body : goal.resolve_block-returns-clause-body
resolve_block-returns-clause-body t c = λ around.
    let own = all_declared c.args.text.now (statements_of c.args.body.now) in
    a.body_same (tables_of around c.args.scope.now) (context_of c.args.text.now around c.args.scope.now c.in_ok-inner.inner) c.in_ok-body.body.items c.args.body.now
    (c.in_ok-body.ensures.meaning around)
    ∙ ap (λ (cx : Context). acts (statements_of c.args.body.now) cx)
    (g.within_made c.args.text.now around c.args.scope.now c.args.names.now c.in_ok-inner.inner c.collect_all.new.out.items own (c.in_ok-collect_all.ensures ∙ ap (λ (ds : List Declared). variables_of ds ++ own) c.new-declared.ensures.items)
    (c.in_ok-inner.ensures ∙ ap (λ (ns : List (List ℕ)). c.args.names.now ++ ns) (c.in_ok-declared_names.ensures ∙ ap (λ (ds : List Declared). map name_of ds) c.deref.ensures.value)))

pub resolve_all-returns-clause-steps : goal.resolve_all-returns-clause-steps
resolve_all-returns-clause-steps t c = λ more. w.all_acts c.args.text.now (scene_of c.args.text.now c.args.scope.now) c.args.body.now c.loop-s.s-index (length (all_declared c.args.text.now (statements_of c.args.body.now)) + body_steps (calls c.args.scope.now more) c.loop-s.all.items) (5 * acts_weight (scene_of c.args.text.now c.args.scope.now) (statements_of c.args.body.now)) c.loop-s-test.false (c.loop-s.invariant.1 more)

pub resolve_arms-returns-clause-steps : goal.resolve_arms-returns-clause-steps
resolve_arms-returns-clause-steps t c = λ more. w.all_arms c.args.text.now (scene_of c.args.text.now c.args.scope.now) c.args.arms.now c.loop-arm.arm-index (length (arms_declare c.args.text.now c.args.arms.now) + arms_steps (calls c.args.scope.now more) c.loop-arm.all.items) (5 * arms_weight (scene_of c.args.text.now c.args.scope.now) (arms_of c.args.arms.now)) c.loop-arm-test.false (c.loop-arm.invariant.1 more)

pub resolve_statement-returns-in-Block-clause-steps : goal.resolve_statement-returns-in-Block-clause-steps
resolve_statement-returns-in-Block-clause-steps t c = w.block_taken c.braced.result c.args.text.now c.args.scope.now (scene_of c.args.text.now c.args.scope.now) c.args.s.now c.in-Block.body c.deref.result.now c.in-Block.is c.deref.ensures.value c.braced.ensures.steps

pub resolve_statement-returns-in-Declare-clause-steps : goal.resolve_statement-returns-in-Declare-clause-steps
resolve_statement-returns-in-Declare-clause-steps t c = w.declare_taken c.declare.result c.args.text.now c.args.scope.now (scene_of c.args.text.now c.args.scope.now) c.args.s.now c.in-Declare.variable_type c.in-Declare.name c.in-Declare.value c.in-Declare.is c.declare.ensures.steps

pub resolve_statement-returns-in-Assign-clause-steps : goal.resolve_statement-returns-in-Assign-clause-steps
resolve_statement-returns-in-Assign-clause-steps t c = w.assign_taken c.assign.result c.args.text.now c.args.scope.now (scene_of c.args.text.now c.args.scope.now) c.args.s.now c.in-Assign.target c.in-Assign.e c.in-Assign.is c.assign.ensures.steps

pub resolve_statement-returns-in-Change-clause-steps : goal.resolve_statement-returns-in-Change-clause-steps
resolve_statement-returns-in-Change-clause-steps t c = w.change_taken c.change.result c.args.text.now c.args.scope.now (scene_of c.args.text.now c.args.scope.now) c.args.s.now c.in-Change.target c.in-Change.what c.in-Change.is c.change.ensures.steps

pub resolve_statement-returns-in-If-clause-steps : goal.resolve_statement-returns-in-If-clause-steps
resolve_statement-returns-in-If-clause-steps t c = w.if_taken c.if_then.result c.args.text.now c.args.scope.now (scene_of c.args.text.now c.args.scope.now) c.args.s.now c.in-If.e c.in-If.first c.deref-in-If.result.now c.in-If.is c.deref-in-If.ensures c.if_then.ensures.steps

pub resolve_statement-returns-in-IfElse-clause-steps : goal.resolve_statement-returns-in-IfElse-clause-steps
resolve_statement-returns-in-IfElse-clause-steps t c = w.if_else_taken c.if_else.result c.args.text.now c.args.scope.now (scene_of c.args.text.now c.args.scope.now) c.args.s.now c.in-IfElse.e c.in-IfElse.first c.in-IfElse.second c.deref-in-IfElse.result.now c.deref-in-IfElse-2.result.now c.in-IfElse.is c.deref-in-IfElse.ensures c.deref-in-IfElse-2.ensures c.if_else.ensures.steps

pub resolve_statement-returns-in-Case-clause-steps : goal.resolve_statement-returns-in-Case-clause-steps
resolve_statement-returns-in-Case-clause-steps t c = w.case_taken c.case.result c.args.text.now c.args.scope.now (scene_of c.args.text.now c.args.scope.now) c.args.s.now c.in-Case.at c.in-Case.value c.in-Case.arms c.deref-in-Case.result.now c.in-Case.otherwise c.in-Case.is c.deref-in-Case.ensures.value c.case.ensures.steps

pub resolve_statement-returns-in-For-clause-steps : goal.resolve_statement-returns-in-For-clause-steps
resolve_statement-returns-in-For-clause-steps t c = w.for_taken c.each.result c.args.text.now c.args.scope.now (scene_of c.args.text.now c.args.scope.now) c.args.s.now c.in-For.at c.in-For.variable_type c.in-For.name c.in-For.list c.in-For.body c.deref-in-For.result.now c.in-For.is c.deref-in-For.ensures c.each.ensures.steps

pub resolve_statement-returns-in-Return-clause-steps : goal.resolve_statement-returns-in-Return-clause-steps
resolve_statement-returns-in-Return-clause-steps t c = w.return_taken c.returned.result c.args.text.now c.args.scope.now (scene_of c.args.text.now c.args.scope.now) c.args.s.now c.in-Return.at c.in-Return.value c.in-Return.is c.returned.ensures.steps

pub resolve_statement-returns-in-Print-clause-steps : goal.resolve_statement-returns-in-Print-clause-steps
resolve_statement-returns-in-Print-clause-steps t c = w.print_taken c.print.result c.args.text.now c.args.scope.now (scene_of c.args.text.now c.args.scope.now) c.args.s.now c.in-Print.given c.deref-in-Print.result.now c.in-Print.is c.deref-in-Print.ensures.value c.print.ensures.steps

pub resolve_statement-returns-in-Printn-clause-steps : goal.resolve_statement-returns-in-Printn-clause-steps
resolve_statement-returns-in-Printn-clause-steps t c = w.print_part_taken c.print-in-Printn.result c.args.text.now c.args.scope.now (scene_of c.args.text.now c.args.scope.now) c.args.s.now c.in-Printn.given c.deref-in-Printn.result.now c.in-Printn.is c.deref-in-Printn.ensures.value c.print-in-Printn.ensures.steps

pub resolve_statement-returns-in-Call-clause-steps : goal.resolve_statement-returns-in-Call-clause-steps
resolve_statement-returns-in-Call-clause-steps t c = w.call_taken c.called.result c.args.text.now c.args.scope.now (scene_of c.args.text.now c.args.scope.now) c.args.s.now c.in-Call.name c.in-Call.open c.in-Call.arguments c.deref-in-Call.result.now c.in-Call.is c.deref-in-Call.ensures.value c.called.ensures.steps

pub resolve_statement-returns-in-Empty-clause-steps : goal.resolve_statement-returns-in-Empty-clause-steps
resolve_statement-returns-in-Empty-clause-steps t c = λ more. w.plain_taken (calls c.args.scope.now more) c.args.text.now (scene_of c.args.text.now c.args.scope.now) ts.Nothing 0 c.args.s.now s.Empty Nothing (w.act-steps-Nothing (calls c.args.scope.now more)) (omega arith) c.in-Empty.is o.as-Empty refl refl

pub resolve_statement-returns-in-Accept-clause-steps : goal.resolve_statement-returns-in-Accept-clause-steps
resolve_statement-returns-in-Accept-clause-steps t c = λ more. w.plain_taken (calls c.args.scope.now more) c.args.text.now (scene_of c.args.text.now c.args.scope.now) ts.Accept 1 c.args.s.now s.Accept Accept (w.act-steps-Accept (calls c.args.scope.now more)) (omega arith) c.in-Accept.is o.as-Accept refl refl

pub resolve_statement-returns-in-Reject-clause-steps : goal.resolve_statement-returns-in-Reject-clause-steps
resolve_statement-returns-in-Reject-clause-steps t c = λ more. w.plain_taken (calls c.args.scope.now more) c.args.text.now (scene_of c.args.text.now c.args.scope.now) ts.Reject 1 c.args.s.now s.Reject Reject (w.act-steps-Reject (calls c.args.scope.now more)) (omega arith) c.in-Reject.is o.as-Reject refl refl

pub resolve_statement-returns-in-Unset-clause-steps : goal.resolve_statement-returns-in-Unset-clause-steps
resolve_statement-returns-in-Unset-clause-steps t c = λ more. w.plain_taken (calls c.args.scope.now more) c.args.text.now (scene_of c.args.text.now c.args.scope.now) (ts.Unset c.in-Unset.attribute) 1 c.args.s.now (s.Unset c.in-Unset.open c.in-Unset.attribute_at c.in-Unset.attribute) (Unset c.in-Unset.open c.in-Unset.attribute_at c.in-Unset.attribute) (w.act-steps-Unset (calls c.args.scope.now more) c.in-Unset.attribute) (omega arith) c.in-Unset.is (o.as-Unset c.in-Unset.open c.in-Unset.attribute_at c.in-Unset.attribute) refl refl

pub braced-returns-clause-steps : goal.braced-returns-clause-steps
braced-returns-clause-steps t c = λ more. omega (arith, m.act-steps-Block (calls c.args.scope.now more) c.in_ok-block.block.sorts c.in_ok-block.block.body, c.in_ok-block.ensures.steps more)

pub if_then-returns-clause-steps : goal.if_then-returns-clause-steps
if_then-returns-clause-steps t c = λ more. omega (arith, m.act-steps-If (calls c.args.scope.now more) c.in_ok-x.x c.in_ok-a.a, c.in_ok-x.ensures.steps more, c.in_ok-a.ensures.steps more)

pub if_else-returns-clause-steps : goal.if_else-returns-clause-steps
if_else-returns-clause-steps t c = λ more. omega (arith, m.act-steps-IfElse (calls c.args.scope.now more) c.in_ok-x.x c.in_ok-a.a c.in_ok-b.b, c.in_ok-x.ensures.steps more, c.in_ok-a.ensures.steps more, c.in_ok-b.ensures.steps more)

pub case-returns-clause-steps : goal.case-returns-clause-steps
case-returns-clause-steps t c = λ more. omega (arith, m.act-steps-Case (calls c.args.scope.now more) c.in_ok-x.x c.in_ok-a.a c.in_ok-b.b, c.in_ok-x.ensures.steps more, c.in_ok-a.ensures.steps more, c.in_ok-b.ensures.steps more)

pub each-returns-clause-steps : goal.each-returns-clause-steps
each-returns-clause-steps t c = λ more. omega (arith, m.act-steps-For (calls c.args.scope.now more) c.in_ok-x.x c.in_ok-a.a, c.in_ok-x.ensures.steps more, c.in_ok-a.ensures.steps more)

pub resolve_arm-returns-clause-steps : goal.resolve_arm-returns-clause-steps
resolve_arm-returns-clause-steps t c = λ more. omega (arith, ap (λ (l : List Stmt). length (all_declared c.args.text.now (statements_of l))) c.deref.ensures.value, ap (λ (l : List Stmt). acts_weight (scene_of c.args.text.now c.args.scope.now) (statements_of l)) c.deref.ensures.value, c.in_ok-body.ensures.steps more)

pub resolve_otherwise-returns-in-None-clause-steps : goal.resolve_otherwise-returns-in-None-clause-steps
resolve_otherwise-returns-in-None-clause-steps t c = λ more. omega (arith, ap (λ (o : Option (Vec Stmt Global)). length (otherwise_declares c.args.text.now o)) c.in-None.is, ap (λ (l : List TStmt). body_steps (calls c.args.scope.now more) l) c.new.ensures.items)

pub resolve_otherwise-returns-in-Some-clause-steps : goal.resolve_otherwise-returns-in-Some-clause-steps
resolve_otherwise-returns-in-Some-clause-steps t c = w.otherwise_taken c.resolve_all.result c.args.text.now c.args.scope.now (scene_of c.args.text.now c.args.scope.now) c.args.otherwise.now c.in-Some.body c.deref.result.now c.in-Some.is c.deref.ensures.value c.resolve_all.ensures.steps

pub resolve_block-returns-clause-steps : goal.resolve_block-returns-clause-steps
resolve_block-returns-clause-steps t c = λ more. omega (arith, c.in_ok-body.ensures.steps more, ap (λ (l : List Sort). length l) (resolve_block-returns-clause-sorts t c) ∙ mapped_length (λ (v : Variable). v.1) (all_declared c.args.text.now (statements_of c.args.body.now)))

pub boxed-returns-clause-steps : goal.boxed-returns-clause-steps
boxed-returns-clause-steps t c = λ more. omega (arith, ap (stmt_steps (calls c.args.scope.now more)) c.in_ok-new.ensures.ok, c.in_ok-x.ensures.steps more)
