use Rattle.std.proofs.Common.{◌≡◌, ◌+◌, [], ◌∷◌, ◌++◌, refl, sym as flip, ap, ◌∙◌, arith, rules}
use Rattle.std.proofs.lemmas.Result.{err_from_is_err_and}
use Rattle.conf_lex.specs.declared.symbol.Symbol.TheVariants as sym
use Rattle.conf_lex.specs.declared.word.Word.TheVariants as words
use Rattle.conf_lex.specs.Grammar.{ParseTree, Deeper}
use Rattle.conf_lex.proofs.PartShapes.{fails_then, fails_along, gives_along}
use Rattle.expr_syntax.specs.ItemView.{label_tree}
use Rattle.filt_syntax.specs.StatementView.{stmt_tree, stmts_tree, arms_of, arms_row}
use Rattle.filt_syntax.specs.Inside.{boxed_tree}
use Rattle.filt_syntax.specs.StatementReaders.{stmt_at, row_at, more_arms_at, run_at}
use Rattle.filt_syntax.proofs.StatementSteps.{name_is}
use Rattle.filt_syntax.proofs.StatementTrees.{tree-Block, tree-Case, tree-For, one_more_stmt}
use Rattle.filt_syntax.proofs.CycleSteps.{stmts_is, stmt_shorter, row_more, row_closed, row_fails, block_is, block_deep, if_is, then_fails, then_deep, branches_is, else_none, else_some, else_same, gives_mapped, for_is, do_fails, do_deep, do_is, case_is, brace_fails, brace_deep, braced_is}
use Rattle.filt_syntax.proofs.ArmSteps.{end_else_got, end_else_fails, end_brace_got, end_brace_fails, labelled_fails, labelled_got, label_shorter, arm_more, arm_fails, with_label, arms_next, arms_finish, one_more_arm, still_behind}
use Rattle.filt_syntax.proofs.statement.+statement.Goals as goal

pub statement-returns-in-Some : goal.statement-returns-in-Some
statement-returns-in-Some t c =
    gives_along boxed_tree c.done_to_name.result _ _ (name_is c.args.depth_left c.in-Some.name c.args.words.now c.in-Some.next.now c.in-Some.ensures) c.done_to_name.ensures

pub block-returns-in_err-below : goal.block-returns-in_err-below
block-returns-in_err-below t c =
    let p = err_from_is_err_and c.from_residual.result c.from_residual.ensures.1 in
    rw (p.1, p.2, block_deep c.args.depth_left c.args.words.now c.args.next.now c.in_err-below.ensures.gives.0 c.requires) (c.in_err-below.ensures.gives.1)

pub block-returns-in_err-body : goal.block-returns-in_err-body
block-returns-in_err-body t c =
    let p = err_from_is_err_and c.from_residual-in_err-body.result c.from_residual-in_err-body.ensures.1 in
    rw (p.1, p.2, block_is c.args.depth_left c.in_ok-below.below c.args.words.now c.args.next.now c.in_ok-below.ensures.gives c.requires) (fails_then _ _ _ c.in_err-body.ensures)

pub block-returns : goal.block-returns
block-returns t c =
    c.made.ensures (stmt_at c.args.depth_left c.args.words.now) (rw (tree-Block c.in_ok-body.body) (block_is c.args.depth_left c.in_ok-below.below c.args.words.now c.args.next.now c.in_ok-below.ensures.gives c.requires ∙ rw c.in_ok-body.ensures refl))

pub statements-loop-end-init : goal.statements-loop-end-init
statements-loop-end-init t c =
    let none : c.new-found.result.items ≡ [] = search rules in
    rw none (stmts_is c.args.depth_left c.args.words.now)

pub statements-returns-in-Some : goal.statements-returns-in-Some
statements-returns-in-Some t c =
    row_closed c.args.depth_left (stmts_tree c.loop-end.found.items) c.args.words.now c.loop-end.rest.now c.in-Some.end.now c.loop-end.invariant c.in-Some.ensures

pub statements-returns-in_err-stmt : goal.statements-returns-in_err-stmt
statements-returns-in_err-stmt t c =
    let p = err_from_is_err_and c.from_residual.result c.from_residual.ensures.1 in
    rw (p.1, p.2) (row_fails c.args.depth_left (stmts_tree c.loop-end.found.items) c.args.words.now c.loop-end.rest.now _ c.loop-end.invariant c.in_default.ensures c.in_err-stmt.ensures)

pub statements-loop-end-smaller : goal.statements-loop-end-smaller
statements-loop-end-smaller t c =
    omega (arith, stmt_shorter c.args.depth_left c.loop-end.rest.now _ c.in_ok-stmt.next.now c.in_ok-stmt.ensures)

pub statements-loop-end-preserved : goal.statements-loop-end-preserved
statements-loop-end-preserved t c =
    let ss = c.loop-end.found.items in
    let s = c.in_ok-stmt.stmt.value in
    let end = c.in_ok-stmt.next.now in
    let pushed : c.put.new.found.items ≡ ss ++ s ∷ [] = search rules in
    rw pushed (c.loop-end.invariant ∙ row_more c.args.depth_left (stmts_tree ss) c.loop-end.rest.now (stmt_tree s) end c.in_ok-stmt.ensures ∙ ap (λ (x : ParseTree). row_at c.args.depth_left x end) (flip (one_more_stmt ss s)))

pub if_stmt-returns-in_err-condition : goal.if_stmt-returns-in_err-condition
if_stmt-returns-in_err-condition t c =
    let p = err_from_is_err_and c.from_residual.result c.from_residual.ensures.1 in
    rw (p.1, p.2, if_is c.args.depth_left c.args.words.now c.args.next.now c.requires) (fails_then _ _ _ c.in_err-condition.ensures)

pub if_stmt-returns-in_err-branches : goal.if_stmt-returns-in_err-branches
if_stmt-returns-in_err-branches t c =
    let p = err_from_is_err_and c.from_residual-in_err-branches.result c.from_residual-in_err-branches.ensures.1 in
    rw (p.1, p.2, if_is c.args.depth_left c.args.words.now c.args.next.now c.requires, c.in_ok-condition.ensures) (fails_then _ _ _ c.in_err-branches.ensures)

pub if_stmt-returns : goal.if_stmt-returns
if_stmt-returns t c =
    c.made.ensures (stmt_at c.args.depth_left c.args.words.now) (rw c.chosen.ensures (if_is c.args.depth_left c.args.words.now c.args.next.now c.requires ∙ rw (c.in_ok-condition.ensures, c.in_ok-branches.ensures) refl))

pub read_branches-returns-in_err-inside : goal.read_branches-returns-in_err-inside
read_branches-returns-in_err-inside t c =
    let p = err_from_is_err_and c.from_residual.result c.from_residual.ensures.1 in
    rw (p.1, p.2) (then_fails c.args.depth_left c.args.words.now _ c.in_err-inside.ensures.gives)

pub read_branches-returns-in_err-below : goal.read_branches-returns-in_err-below
read_branches-returns-in_err-below t c =
    let p = err_from_is_err_and c.from_residual-in_err-below.result c.from_residual-in_err-below.ensures.1 in
    rw (p.1, p.2, then_deep c.args.depth_left c.args.words.now c.in_ok-inside.inside.now c.in_err-below.ensures.gives.0 c.in_ok-inside.ensures.gives) (c.in_err-below.ensures.gives.1)

pub read_branches-returns-in_err-first : goal.read_branches-returns-in_err-first
read_branches-returns-in_err-first t c =
    let p = err_from_is_err_and c.from_residual-in_err-first.result c.from_residual-in_err-first.ensures.1 in
    rw (p.1, p.2, branches_is c.args.depth_left c.in_ok-below.below c.args.words.now c.in_ok-inside.inside.now c.in_ok-below.ensures.gives c.in_ok-inside.ensures.gives) (fails_then _ _ _ c.in_err-first.ensures)

pub read_branches-returns-in_err-second : goal.read_branches-returns-in_err-second
read_branches-returns-in_err-second t c =
    let p = err_from_is_err_and c.from_residual-in_err-second.result c.from_residual-in_err-second.ensures.1 in
    rw (p.1, p.2, branches_is c.args.depth_left c.in_ok-below.below c.args.words.now c.in_ok-inside.inside.now c.in_ok-below.ensures.gives c.in_ok-inside.ensures.gives, c.in_ok-first.ensures, else_same c.args.depth_left c.in_ok-below.below c.in_ok-first.rest.now c.in_ok-below.ensures.gives) (fails_then _ _ _ c.in_err-second.ensures)

pub read_branches-returns : goal.read_branches-returns
read_branches-returns t c =
    branches_is c.args.depth_left c.in_ok-below.below c.args.words.now c.in_ok-inside.inside.now c.in_ok-below.ensures.gives c.in_ok-inside.ensures.gives ∙ rw (c.in_ok-first.ensures, else_same c.args.depth_left c.in_ok-below.below c.in_ok-first.rest.now c.in_ok-below.ensures.gives, c.in_ok-second.ensures) refl

pub second_branch-returns-in-None : goal.second_branch-returns-in-None
second_branch-returns-in-None t c = else_none (c.args.below + 1) c.args.words.now c.in-None.ensures

pub second_branch-returns-in_err-second-in-Some : goal.second_branch-returns-in_err-second-in-Some
second_branch-returns-in_err-second-in-Some t c =
    let p = err_from_is_err_and c.from_residual.result c.from_residual.ensures.1 in
    rw (p.1, p.2, else_some (c.args.below + 1) c.args.below c.args.words.now c.in-Some.inside.now refl c.in-Some.ensures) (fails_then _ _ _ c.in_err-second-in-Some.ensures)

pub second_branch-returns-in_ok-second-in-Some : goal.second_branch-returns-in_ok-second-in-Some
second_branch-returns-in_ok-second-in-Some t c =
    else_some (c.args.below + 1) c.args.below c.args.words.now c.in-Some.inside.now refl c.in-Some.ensures ∙ rw c.in_ok-second-in-Some.ensures refl

pub for_stmt-returns-in_err-variable_type : goal.for_stmt-returns-in_err-variable_type
for_stmt-returns-in_err-variable_type t c =
    let p = err_from_is_err_and c.from_residual.result c.from_residual.ensures.1 in
    rw (p.1, p.2, for_is c.args.depth_left c.args.at c.args.words.now c.args.next.now c.requires) (fails_then _ _ _ (fails_then _ _ _ c.in_err-variable_type.ensures.gives))

pub for_stmt-returns-in_err-name : goal.for_stmt-returns-in_err-name
for_stmt-returns-in_err-name t c =
    let p = err_from_is_err_and c.from_residual-in_err-name.result c.from_residual-in_err-name.ensures.1 in
    rw (p.1, p.2, for_is c.args.depth_left c.args.at c.args.words.now c.args.next.now c.requires, c.in_ok-variable_type.ensures.gives) (fails_then _ _ _ (fails_then _ _ _ (fails_then _ _ _ c.in_err-name.ensures.gives)))

pub for_stmt-returns-in_err-list : goal.for_stmt-returns-in_err-list
for_stmt-returns-in_err-list t c =
    let p = err_from_is_err_and c.from_residual-in_err-list.result c.from_residual-in_err-list.ensures.1 in
    rw (p.1, p.2, for_is c.args.depth_left c.args.at c.args.words.now c.args.next.now c.requires, c.in_ok-variable_type.ensures.gives, c.in_ok-name.ensures.gives) (fails_then _ _ _ (fails_then _ _ _ (fails_then _ _ _ (fails_then _ _ _ c.in_err-list.ensures))))

pub for_stmt-returns-in_err-body : goal.for_stmt-returns-in_err-body
for_stmt-returns-in_err-body t c =
    let p = err_from_is_err_and c.from_residual-in_err-body.result c.from_residual-in_err-body.ensures.1 in
    rw (p.1, p.2, for_is c.args.depth_left c.args.at c.args.words.now c.args.next.now c.requires, c.in_ok-variable_type.ensures.gives, c.in_ok-name.ensures.gives, c.in_ok-list.ensures) (fails_then _ _ _ (fails_then _ _ _ (fails_then _ _ _ (fails_then _ _ _ c.in_err-body.ensures))))

pub for_stmt-returns : goal.for_stmt-returns
for_stmt-returns t c =
    let body = c.in_ok-body.body in
    c.made.ensures (stmt_at c.args.depth_left c.args.words.now) (rw (tree-For c.args.at c.in_ok-variable_type.variable_type c.in_ok-name.name c.in_ok-list.list body body.value refl) (for_is c.args.depth_left c.args.at c.args.words.now c.args.next.now c.requires ∙ rw (c.in_ok-variable_type.ensures.gives, c.in_ok-name.ensures.gives, c.in_ok-list.ensures, c.in_ok-body.ensures) refl))

pub repeated-returns-in_err-inside : goal.repeated-returns-in_err-inside
repeated-returns-in_err-inside t c =
    let p = err_from_is_err_and c.from_residual.result c.from_residual.ensures.1 in
    rw (p.1, p.2) (do_fails c.args.depth_left c.args.words.now _ c.in_err-inside.ensures.gives)

pub repeated-returns-in_err-below : goal.repeated-returns-in_err-below
repeated-returns-in_err-below t c =
    let p = err_from_is_err_and c.from_residual-in_err-below.result c.from_residual-in_err-below.ensures.1 in
    rw (p.1, p.2, do_deep c.args.depth_left c.args.words.now c.in_ok-inside.inside.now c.in_err-below.ensures.gives.0 c.in_ok-inside.ensures.gives) (c.in_err-below.ensures.gives.1)

pub repeated-returns : goal.repeated-returns
repeated-returns t c =
    gives_mapped boxed_tree (λ x. Deeper (words.Symbol sym.Do) x) c.statement.result (stmt_at c.in_ok-below.below c.in_ok-inside.inside.now) (run_at c.args.depth_left c.args.words.now)
    (do_is c.args.depth_left c.in_ok-below.below c.args.words.now c.in_ok-inside.inside.now c.in_ok-below.ensures.gives c.in_ok-inside.ensures.gives) c.statement.ensures

pub case_stmt-returns-in_err-value : goal.case_stmt-returns-in_err-value
case_stmt-returns-in_err-value t c =
    let p = err_from_is_err_and c.from_residual.result c.from_residual.ensures.1 in
    rw (p.1, p.2, case_is c.args.depth_left c.args.at c.args.words.now c.args.next.now c.requires) (fails_then _ _ _ c.in_err-value.ensures)

pub case_stmt-returns-in_err-arms : goal.case_stmt-returns-in_err-arms
case_stmt-returns-in_err-arms t c =
    let p = err_from_is_err_and c.from_residual-in_err-arms.result c.from_residual-in_err-arms.ensures.1 in
    rw (p.1, p.2, case_is c.args.depth_left c.args.at c.args.words.now c.args.next.now c.requires, c.in_ok-value.ensures) (fails_then _ _ _ c.in_err-arms.ensures)

pub case_stmt-returns : goal.case_stmt-returns
case_stmt-returns t c =
    c.made.ensures (stmt_at c.args.depth_left c.args.words.now) (rw (tree-Case c.args.at c.in_ok-value.value c.in_ok-arms.arms c.in_ok-arms.otherwise) (case_is c.args.depth_left c.args.at c.args.words.now c.args.next.now c.requires ∙ rw (c.in_ok-value.ensures, c.in_ok-arms.ensures) refl))

pub braced-returns-in_err-inside : goal.braced-returns-in_err-inside
braced-returns-in_err-inside t c =
    let p = err_from_is_err_and c.from_residual.result c.from_residual.ensures.1 in
    rw (p.1, p.2) (brace_fails c.args.depth_left c.args.words.now _ c.in_err-inside.ensures.gives)

pub braced-returns-in_err-below : goal.braced-returns-in_err-below
braced-returns-in_err-below t c =
    let p = err_from_is_err_and c.from_residual-in_err-below.result c.from_residual-in_err-below.ensures.1 in
    rw (p.1, p.2, brace_deep c.args.depth_left c.args.words.now c.in_ok-inside.inside.now c.in_err-below.ensures.gives.0 c.in_ok-inside.ensures.gives) (c.in_err-below.ensures.gives.1)

pub braced-returns : goal.braced-returns
braced-returns t c =
    gives_along _ c.arms.result _ _ (braced_is c.args.depth_left c.in_ok-below.below c.args.words.now c.in_ok-inside.inside.now c.in_ok-below.ensures.gives c.in_ok-inside.ensures.gives) c.arms.ensures

pub arms-loop-rest-init : goal.arms-loop-rest-init
arms-loop-rest-init t c =
    let none : c.new-found.result.items ≡ [] = search rules in
    record { behind = rw none tt; reading = rw none refl }

pub arms-returns-in_err-arm : goal.arms-returns-in_err-arm
arms-returns-in_err-arm t c =
    let p = err_from_is_err_and c.from_residual.result c.from_residual.ensures.1 in
    rw (p.1, p.2) (fails_along _ _ _ (c.loop-rest.invariant.reading ∙ arms_next c.args.depth_left (arms_of c.loop-rest.found.items) c.loop-rest.rest.now c.loop-rest.invariant.behind (flip c.is_behind_arms.ensures ∙ c.loop-rest-test.true)) (c.in_err-arm.ensures (with_label (arms_of c.loop-rest.found.items))))

pub arms-loop-rest-smaller : goal.arms-loop-rest-smaller
arms-loop-rest-smaller t c =
    omega (arith, c.in_ok-arm.ensures.1)

pub arms-loop-rest-preserved : goal.arms-loop-rest-preserved
arms-loop-rest-preserved t c =
    let xs = c.loop-rest.found.items in
    let a = c.in_ok-arm.arm in
    let end = c.in_ok-arm.next.now in
    let pushed : c.push_tight.new.list.items ≡ xs ++ a ∷ [] = search rules in
    record {
      behind = rw pushed (still_behind xs a end c.in_ok-arm.ensures.0);
      reading = rw pushed (c.loop-rest.invariant.reading ∙ arms_next c.args.depth_left (arms_of xs) c.loop-rest.rest.now c.loop-rest.invariant.behind (flip c.is_behind_arms.ensures ∙ c.loop-rest-test.true) ∙ c.in_ok-arm.ensures.2 (with_label (arms_of xs)) ∙ flip (one_more_arm c.args.depth_left xs a end));
    }

pub arms-returns-in_err-otherwise : goal.arms-returns-in_err-otherwise
arms-returns-in_err-otherwise t c =
    let p = err_from_is_err_and c.from_residual-in_err-otherwise.result c.from_residual-in_err-otherwise.ensures.1 in
    rw (p.1, p.2) (fails_along _ _ _ (c.loop-rest.invariant.reading ∙ arms_finish c.args.depth_left (arms_of c.loop-rest.found.items) c.loop-rest.rest.now (flip c.is_behind_arms.ensures ∙ c.loop-rest-test.false)) (c.in_err-otherwise.ensures (arms_row (arms_of c.loop-rest.found.items))))

pub arms-returns : goal.arms-returns
arms-returns t c =
    c.loop-rest.invariant.reading ∙ arms_finish c.args.depth_left (arms_of c.loop-rest.found.items) c.loop-rest.rest.now (flip c.is_behind_arms.ensures ∙ c.loop-rest-test.false) ∙ c.in_ok-otherwise.ensures (arms_row (arms_of c.loop-rest.found.items))

pub arm-returns-in_err-labels : goal.arm-returns-in_err-labels
arm-returns-in_err-labels t c =
    let p = err_from_is_err_and c.from_residual.result c.from_residual.ensures.1 in
    rw (p.1, p.2) (λ row_with. labelled_fails c.args.depth_left row_with c.args.words.now _ c.in_err-labels.ensures)

pub arm-returns-in_err-body : goal.arm-returns-in_err-body
arm-returns-in_err-body t c =
    let p = err_from_is_err_and c.from_residual-in_err-body.result c.from_residual-in_err-body.ensures.1 in
    let l = label_tree c.in_ok-labels.labels.items in
    rw (p.1, p.2) (λ row_with. fails_along _ _ _ (labelled_got c.args.depth_left row_with c.args.words.now l c.in_ok-labels.rest.now c.in_ok-labels.ensures) (c.in_err-body.ensures (row_with l)))

pub arm-returns : goal.arm-returns
arm-returns t c =
    let l = label_tree c.in_ok-labels.labels.items in (
      c.in_ok-body.ensures.0,
      omega (arith, label_shorter c.args.depth_left c.args.words.now l c.in_ok-labels.rest.now c.in_ok-labels.ensures, c.in_ok-body.ensures.1),
      λ row_with. labelled_got c.args.depth_left row_with c.args.words.now l c.in_ok-labels.rest.now c.in_ok-labels.ensures ∙ c.in_ok-body.ensures.2 (row_with l),
    )

pub arm_body-loop-alloc-init : goal.arm_body-loop-alloc-init
arm_body-loop-alloc-init t c =
    let none : c.new-body.result.items ≡ [] = search rules in
    record {
      shorter = omega arith;
      reading = λ x. rw none refl;
    }

pub arm_body-returns-in_err-stmt : goal.arm_body-returns-in_err-stmt
arm_body-returns-in_err-stmt t c =
    let p = err_from_is_err_and c.from_residual.result c.from_residual.ensures.1 in
    rw (p.1, p.2) (λ x. arm_fails c.args.depth_left (more_arms_at c.args.depth_left x c.args.words.now) _ c.loop-alloc.rest.now _ (c.loop-alloc.invariant.reading x) (flip c.is_behind_arm.ensures ∙ c.loop-alloc-test.true) c.in_err-stmt.ensures)

pub arm_body-loop-alloc-smaller : goal.arm_body-loop-alloc-smaller
arm_body-loop-alloc-smaller t c =
    omega (arith, stmt_shorter c.args.depth_left c.loop-alloc.rest.now _ c.in_ok-stmt.next.now c.in_ok-stmt.ensures)

pub arm_body-loop-alloc-preserved : goal.arm_body-loop-alloc-preserved
arm_body-loop-alloc-preserved t c =
    let ss = c.loop-alloc.body.items in
    let s = c.in_ok-stmt.stmt.value in
    let end = c.in_ok-stmt.next.now in
    let pushed : c.put.new.found.items ≡ ss ++ s ∷ [] = search rules in
    record {
      shorter = omega (arith, c.loop-alloc.invariant.shorter, stmt_shorter c.args.depth_left c.loop-alloc.rest.now _ end c.in_ok-stmt.ensures);
      reading = λ x. rw pushed (arm_more c.args.depth_left (more_arms_at c.args.depth_left x c.args.words.now) x ss s c.loop-alloc.rest.now end (c.loop-alloc.invariant.reading x) (flip c.is_behind_arm.ensures ∙ c.loop-alloc-test.true) c.in_ok-stmt.ensures);
    }

pub arm_body-returns : goal.arm_body-returns
arm_body-returns t c =
    ((flip c.is_behind_arm.ensures ∙ c.loop-alloc-test.false), c.loop-alloc.invariant.shorter, c.loop-alloc.invariant.reading)

pub otherwise-returns-in_err-statements-in-Some : goal.otherwise-returns-in_err-statements-in-Some
otherwise-returns-in_err-statements-in-Some t c =
    let p = err_from_is_err_and c.from_residual.result c.from_residual.ensures.1 in
    rw (p.1, p.2) (λ row. end_else_fails c.args.depth_left row c.args.words.now c.in-Some.inside.now _ c.in-Some.ensures c.in_err-statements-in-Some.ensures)

pub otherwise-returns-in_ok-statements-in-Some : goal.otherwise-returns-in_ok-statements-in-Some
otherwise-returns-in_ok-statements-in-Some t c =
    λ row. end_else_got c.args.depth_left row c.args.words.now c.in-Some.inside.now _ _ c.in_ok-statements-in-Some.rest.now c.in-Some.ensures c.in_ok-statements-in-Some.ensures

pub otherwise-returns-in_err-rest-in-None : goal.otherwise-returns-in_err-rest-in-None
otherwise-returns-in_err-rest-in-None t c =
    let p = err_from_is_err_and c.from_residual-in_err-rest-in-None.result c.from_residual-in_err-rest-in-None.ensures.1 in
    rw (p.1, p.2) (λ row. end_brace_fails c.args.depth_left row c.args.words.now _ c.in-None.ensures c.in_err-rest-in-None.ensures.gives)

pub otherwise-returns-in_ok-rest-in-None : goal.otherwise-returns-in_ok-rest-in-None
otherwise-returns-in_ok-rest-in-None t c =
    λ row. end_brace_got c.args.depth_left row c.args.words.now c.in_ok-rest-in-None.rest.now c.in-None.ensures c.in_ok-rest-in-None.ensures.gives
