use Rattle.std.proofs.Common.{refl, ◌∙◌}
use Rattle.std.proofs.lemmas.Result.{err_from_is_err_and}
use Rattle.conf_lex.proofs.PartShapes.{fails_then}
use Rattle.filt_syntax.proofs.StatementSteps.{change_empty, change_method}
use Rattle.filt_syntax.proofs.simple_statement.change.Goals as goal

pub returns-in_err-rest : goal.returns-in_err-rest
returns-in_err-rest c =
    let p = err_from_is_err_and c.from_residual.result c.from_residual.ensures.1 in
    rw (p.1, p.2, change_empty c.args.depth_left c.args.words.now c.in-Some.end.now c.in-Some.ensures) (fails_then _ _ _ c.in_err-rest.ensures.gives)

pub returns-in-Some : goal.returns-in-Some
returns-in-Some c =
    change_empty c.args.depth_left c.args.words.now c.in-Some.end.now c.in-Some.ensures ∙ rw c.in_ok-rest.ensures.gives refl

pub returns-in_err-method : goal.returns-in_err-method
returns-in_err-method c =
    let p = err_from_is_err_and c.from_residual-in_err-method.result c.from_residual-in_err-method.ensures.1 in
    rw (p.1, p.2, change_method c.args.depth_left c.args.words.now c.in_default.ensures) (fails_then _ _ _ c.in_err-method.ensures)

pub returns-in_err-rest-2 : goal.returns-in_err-rest-2
returns-in_err-rest-2 c =
    let p = err_from_is_err_and c.from_residual-in_err-rest-2.result c.from_residual-in_err-rest-2.ensures.1 in
    rw (p.1, p.2, change_method c.args.depth_left c.args.words.now c.in_default.ensures, c.in_ok-method.ensures) (fails_then _ _ _ c.in_err-rest-2.ensures.gives)

pub returns : goal.returns
returns c =
    change_method c.args.depth_left c.args.words.now c.in_default.ensures ∙ rw (c.in_ok-method.ensures, c.in_ok-rest-2.ensures.gives) refl
