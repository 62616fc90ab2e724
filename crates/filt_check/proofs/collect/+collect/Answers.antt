use Rattle.std.proofs.Common.{◌+◌, ◌++◌, arith, List, ap, ◌∙◌}
use Rattle.conf_ast.specs.declared.filters.Arm.{Arm}
use Rattle.conf_ast.specs.declared.filters.Stmt.{Stmt}
use Rattle.conf_ast.specs.Filters.{statement_of}
use Rattle.filt_meaning.specs.Meaning.{declared}
use Rattle.filt_meaning.specs.Names.{Variable}
use Rattle.filt_types.proofs.Cost as k
use Rattle.filt_check.specs.Seen.{variables_of, arms_declare, otherwise_declares}
use Rattle.filt_check.proofs.Gathered as g
use Rattle.filt_check.proofs.collect.+collect.Goals as goal

pub collect-collect_arms-requires : goal.collect-collect_arms-requires
collect-collect_arms-requires t c = (omega (arith, ap (λ (x : Stmt). k.stmt_cost x) c.in-Case.is, k.cost-Case c.in-Case.at c.in-Case.value c.in-Case.arms c.in-Case.otherwise, ap (λ (xs : List (Arm Stmt)). k.arms_cost xs) c.deref-in-Case.ensures.value), tt)

pub collect_all-collect-requires : goal.collect_all-collect-requires
collect_all-collect-requires t c = (omega (arith, k.item_below k.stmt_cost c.args.body.now c.loop-s.s-index c.s-item.result c.loop-s-test.true c.s-item.is), tt)

pub collect_arms-collect_all-requires : goal.collect_arms-collect_all-requires
collect_arms-collect_all-requires t c = (omega (arith, k.item_below k.arm_cost c.args.arms.now c.loop-arm.arm-index c.arm-item.result c.loop-arm-test.true c.arm-item.is, ap (λ (xs : List Stmt). k.stmts_cost xs) c.deref.ensures.value), tt)

pub collect-returns-in_ok-push_declared-in-Declare : goal.collect-returns-in_ok-push_declared-in-Declare
collect-returns-in_ok-push_declared-in-Declare t c = c.in_ok-push_declared-in-Declare.ensures ∙ ap (λ (d : List Variable). variables_of c.args.out.now.items ++ d) (g.declare_declares c.args.text.now c.args.s.now c.in-Declare.variable_type c.in-Declare.name c.in-Declare.value c.in-Declare.is)

pub collect-returns-in_ok-collect-in-IfElse-2 : goal.collect-returns-in_ok-collect-in-IfElse-2
collect-returns-in_ok-collect-in-IfElse-2 t c =
    g.two_more (variables_of c.args.out.now.items) (variables_of c.collect-in-IfElse.new.out.items) (declared c.args.text.now (statement_of c.deref-in-IfElse.result.now)) (variables_of c.collect-in-IfElse-2.new.out.items) (declared c.args.text.now (statement_of c.deref-in-IfElse-2.result.now)) (declared c.args.text.now (statement_of c.args.s.now))
    c.in_ok-collect-in-IfElse.ensures c.in_ok-collect-in-IfElse-2.ensures
    (g.if_else_declares c.args.text.now c.args.s.now c.deref-in-IfElse.result.now c.deref-in-IfElse-2.result.now c.in-IfElse.field-0 c.in-IfElse.first c.in-IfElse.second c.in-IfElse.is c.deref-in-IfElse.ensures c.deref-in-IfElse-2.ensures)

pub collect-returns-in_ok-collect_otherwise-in-Case : goal.collect-returns-in_ok-collect_otherwise-in-Case
collect-returns-in_ok-collect_otherwise-in-Case t c =
    g.two_more (variables_of c.args.out.now.items) (variables_of c.collect_arms.new.out.items) (arms_declare c.args.text.now c.deref-in-Case.result.now) (variables_of c.collect_otherwise.new.out.items) (otherwise_declares c.args.text.now c.in-Case.otherwise) (declared c.args.text.now (statement_of c.args.s.now))
    c.in_ok-collect_arms-in-Case.ensures c.in_ok-collect_otherwise-in-Case.ensures
    (g.case_declares c.args.text.now c.args.s.now c.in-Case.at c.in-Case.value c.in-Case.arms c.deref-in-Case.result.now c.in-Case.otherwise c.in-Case.is c.deref-in-Case.ensures.value)
