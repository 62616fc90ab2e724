use Rattle.std.proofs.Common.{refl, ◌∙◌}
use Rattle.std.proofs.lemmas.Result.{err_from_is_err_and}
use Rattle.conf_lex.proofs.PartShapes.{fails_then}
use Rattle.filt_syntax.specs.StatementReaders.{stmt_at}
use Rattle.filt_syntax.proofs.StatementSteps.{printn_is}
use Rattle.filt_syntax.proofs.StatementTrees.{tree-Printn}
use Rattle.filt_syntax.proofs.simple_statement.printn.Goals as goal

pub returns-in_err-values : goal.returns-in_err-values
returns-in_err-values c =
    let p = err_from_is_err_and c.from_residual.result c.from_residual.ensures.1 in
    rw (p.1, p.2, printn_is c.args.depth_left c.args.words.now c.args.next.now c.requires) (search (fails_then, c.in_err-values.ensures))

pub returns : goal.returns
returns c =
    c.made.ensures (stmt_at c.args.depth_left c.args.words.now) (rw (tree-Printn c.in_ok-values.values) (printn_is c.args.depth_left c.args.words.now c.args.next.now c.requires ∙ rw c.in_ok-values.ensures refl))
