use Rattle.std.proofs.Common.{refl, ◌∙◌}
use Rattle.std.proofs.lemmas.Result.{err_from_is_err_and}
use Rattle.conf_lex.proofs.PartShapes.{fails_then}
use Rattle.filt_syntax.specs.StatementReaders.{of_name_at}
use Rattle.filt_syntax.proofs.StatementSteps.{name_called}
use Rattle.filt_syntax.proofs.StatementTrees.{tree-Call}
use Rattle.filt_syntax.proofs.simple_statement.call.Goals as goal

pub returns-in_err-arguments : goal.returns-in_err-arguments
returns-in_err-arguments c =
    let p = err_from_is_err_and c.from_residual.result c.from_residual.ensures.1 in
    rw (p.1, p.2, name_called c.args.depth_left c.args.name c.args.words.now c.requires.equal c.requires.dot) (search (fails_then, c.in_err-arguments.ensures))

pub returns-in_err-rest : goal.returns-in_err-rest
returns-in_err-rest c =
    let p = err_from_is_err_and c.from_residual-in_err-rest.result c.from_residual-in_err-rest.ensures.1 in
    rw (p.1, p.2, name_called c.args.depth_left c.args.name c.args.words.now c.requires.equal c.requires.dot, c.in_ok-arguments.ensures) (fails_then _ _ _ (fails_then _ _ _ c.in_err-rest.ensures.gives))

pub returns : goal.returns
returns c =
    c.made.ensures (of_name_at c.args.depth_left c.args.name c.args.words.now) (rw (tree-Call c.args.name c.in_ok-arguments.open c.in_ok-arguments.arguments) (name_called c.args.depth_left c.args.name c.args.words.now c.requires.equal c.requires.dot ∙ rw (c.in_ok-arguments.ensures, c.in_ok-rest.ensures.gives) refl))
