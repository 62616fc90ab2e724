use Rattle.std.proofs.Common.{refl, ◌∙◌, Some, None}
use Rattle.std.proofs.lemmas.Result.{err_from_is_err_and}
use Rattle.conf_lex.proofs.PartShapes.{fails_then}
use Rattle.filt_syntax.specs.StatementReaders.{stmt_at}
use Rattle.filt_syntax.proofs.StatementSteps.{return_none, return_some}
use Rattle.filt_syntax.proofs.StatementTrees.{tree-Return}
use Rattle.filt_syntax.proofs.simple_statement.return_stmt.Goals as goal

pub returns-in-Some : goal.returns-in-Some
returns-in-Some c =
    c.made.ensures (stmt_at c.args.depth_left c.args.words.now) (rw (tree-Return c.args.at None) (return_none c.args.depth_left c.args.at c.args.words.now c.args.next.now c.in-Some.rest.now c.requires c.in-Some.ensures))

pub returns-in_err-value : goal.returns-in_err-value
returns-in_err-value c =
    let p = err_from_is_err_and c.from_residual.result c.from_residual.ensures.1 in
    rw (p.1, p.2, return_some c.args.depth_left c.args.at c.args.words.now c.args.next.now c.requires c.in_default.ensures) (search (fails_then, c.in_err-value.ensures))

pub returns : goal.returns
returns c =
    c.made-2.ensures (stmt_at c.args.depth_left c.args.words.now) (rw (tree-Return c.args.at (Some c.in_ok-value.value)) (return_some c.args.depth_left c.args.at c.args.words.now c.args.next.now c.requires c.in_default.ensures ∙ rw c.in_ok-value.ensures refl))
