use Rattle.std.proofs.Common.{refl, ◌∙◌}
use Rattle.std.proofs.lemmas.Result.{err_from_is_err_and}
use Rattle.conf_lex.proofs.PartShapes.{fails_then}
use Rattle.filt_syntax.specs.StatementReaders.{stmt_at}
use Rattle.filt_syntax.proofs.StatementSteps.{unset_is}
use Rattle.filt_syntax.proofs.StatementTrees.{tree-Unset}
use Rattle.filt_syntax.proofs.simple_statement.unset.Goals as goal

pub returns-in_err-attribute_at : goal.returns-in_err-attribute_at
returns-in_err-attribute_at c =
    let p = err_from_is_err_and c.from_residual.result c.from_residual.ensures.1 in
    rw (p.1, p.2, unset_is c.args.depth_left c.args.words.now c.args.next.now c.requires) (search (fails_then, c.in_err-attribute_at.ensures))

pub returns-in_err-rest : goal.returns-in_err-rest
returns-in_err-rest c =
    let p = err_from_is_err_and c.from_residual-in_err-rest.result c.from_residual-in_err-rest.ensures.1 in
    rw (p.1, p.2, unset_is c.args.depth_left c.args.words.now c.args.next.now c.requires, c.in_ok-attribute_at.ensures) (fails_then _ _ _ (fails_then _ _ _ c.in_err-rest.ensures.gives))

pub returns : goal.returns
returns c =
    c.made.ensures (stmt_at c.args.depth_left c.args.words.now) (rw (tree-Unset c.in_ok-attribute_at.open c.in_ok-attribute_at.attribute_at c.in_ok-attribute_at.attribute) (unset_is c.args.depth_left c.args.words.now c.args.next.now c.requires ∙ rw (c.in_ok-attribute_at.ensures, c.in_ok-rest.ensures.gives) refl))
