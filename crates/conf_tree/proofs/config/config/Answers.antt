use Rattle.std.proofs.Common.{◌≡◌, ◌<◌, [], ◌∷◌, ◌++◌, length, refl, sym as flip, ◌∙◌, arith, rules}
use Rattle.std.specs.Prelude.{map}
use Rattle.std.proofs.lemmas.Result.{err_from_is_err_and}
use Rattle.expr_syntax.specs.Rows.{row_tree}
use Rattle.conf_tree.specs.View.{statement_tree}
use Rattle.conf_tree.proofs.ConfigSteps.{whole_end, whole_fails, no_words, some_words, statement_shorter, one_more_statement}
use Rattle.conf_tree.proofs.RowSteps.{IsRow, row_none, row_more, row_last}
use Rattle.conf_tree.proofs.config.config.Goals as goal

pub loop-alloc-init : goal.loop-alloc-init
loop-alloc-init c =
    let none : c.new-statements.result.items ≡ [] = search rules in
    (rw none (row_none c.args.depth_left c.args.words.now), refl)

pub returns-in_err-statement-clause-read : goal.returns-in_err-statement-clause-read
returns-in_err-statement-clause-read c =
    let p = err_from_is_err_and c.from_residual.result c.from_residual.ensures.1 in
    let some : 0 < length c.loop-alloc.rest.now = some_words c.loop-alloc.rest.now (flip c.is_empty.ensures ∙ c.loop-alloc-test.true) in
    rw (p.1, p.2) (rw c.loop-alloc.invariant.0.reads (whole_fails c.args.depth_left (row_tree (map statement_tree c.loop-alloc.statements.items)) c.loop-alloc.rest.now _ some c.in_err-statement.ensures))

pub returns-in_err-statement-clause-last : goal.returns-in_err-statement-clause-last
returns-in_err-statement-clause-last c = row_last c.args.depth_left c.args.words.now _ c.loop-alloc.rest.now _ c.loop-alloc.invariant.0 c.loop-alloc.invariant.1

pub loop-alloc-smaller : goal.loop-alloc-smaller
loop-alloc-smaller c =
    omega (arith, statement_shorter c.args.depth_left c.loop-alloc.rest.now _ c.in_ok-statement.end.now c.in_ok-statement.ensures)

pub loop-alloc-preserved : goal.loop-alloc-preserved
loop-alloc-preserved c =
    let ss = c.loop-alloc.statements.items in
    let s = c.in_ok-statement.statement in
    let end = c.in_ok-statement.end.now in
    let pushed : c.push.new.self.items ≡ ss ++ s ∷ [] = search rules in
    let row : IsRow c.args.depth_left c.args.words.now (row_tree (map statement_tree (ss ++ s ∷ []))) end =
    rw (one_more_statement ss s) (row_more c.args.depth_left c.args.words.now (row_tree (map statement_tree ss)) c.loop-alloc.rest.now (statement_tree s) end c.loop-alloc.invariant.0 c.in_ok-statement.ensures) in
    (rw pushed row, refl)

pub returns-clause-read : goal.returns-clause-read
returns-clause-read c =
    let none : c.loop-alloc.rest.now ≡ [] = no_words c.loop-alloc.rest.now (flip c.is_empty.ensures ∙ c.loop-alloc-test.false) in
    c.loop-alloc.invariant.0.reads ∙ whole_end c.args.depth_left (row_tree (map statement_tree c.loop-alloc.statements.items)) c.loop-alloc.rest.now none

pub returns-clause-last : goal.returns-clause-last
returns-clause-last c = row_last c.args.depth_left c.args.words.now _ c.loop-alloc.rest.now _ c.loop-alloc.invariant.0 c.loop-alloc.invariant.1

pub returns-in_err-push-clause-last : goal.returns-in_err-push-clause-last
returns-in_err-push-clause-last c = row_last c.args.depth_left c.args.words.now _ c.loop-alloc.rest.now _ c.loop-alloc.invariant.0 c.loop-alloc.invariant.1
