use Rattle.std.proofs.Common.{refl, ◌∙◌}
use Rattle.std.proofs.lemmas.Result.{err_from_is_err_and}
use Rattle.conf_lex.proofs.PartShapes.{fails_then}
use Rattle.filt_syntax.proofs.StatementSteps.{initial_none, initial_some}
use Rattle.filt_syntax.proofs.simple_statement.initial.Goals as goal

pub returns-in-None : goal.returns-in-None
returns-in-None c =
    initial_none c.args.depth_left c.args.words.now c.in-None.ensures

pub returns-in_err-value-in-Some : goal.returns-in_err-value-in-Some
returns-in_err-value-in-Some c =
    let p = err_from_is_err_and c.from_residual.result c.from_residual.ensures.1 in
    rw (p.1, p.2, initial_some c.args.depth_left c.args.words.now c.in-Some.next.now c.in-Some.ensures) (search (fails_then, c.in_err-value-in-Some.ensures))

pub returns-in_ok-value-in-Some : goal.returns-in_ok-value-in-Some
returns-in_ok-value-in-Some c =
    initial_some c.args.depth_left c.args.words.now c.in-Some.next.now c.in-Some.ensures ∙ rw c.in_ok-value-in-Some.ensures refl
