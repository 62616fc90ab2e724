use Rattle.std.proofs.Common.{◌≡◌, [], refl, rules}
use Rattle.std.proofs.lemmas.Result.{err_from_is_err_and}
use Rattle.conf_lex.proofs.PartShapes.{fails_then}
use Rattle.conf_tree.proofs.FunctionSteps.{parameters_none, parameters_some, parameters_fail}
use Rattle.conf_tree.proofs.function.parameters.Goals as goal

pub returns-in-Some : goal.returns-in-Some
returns-in-Some c =
    let none : c.new.result.items ≡ [] = search rules in
    rw none (parameters_none c.args.words.now c.in-Some.rest.now c.in-Some.ensures)

pub returns-in_err-parameters-in-None : goal.returns-in_err-parameters-in-None
returns-in_err-parameters-in-None c =
    let p = err_from_is_err_and c.from_residual.result c.from_residual.ensures.1 in
    rw (p.1, p.2) (parameters_fail c.args.words.now _ c.in-None.ensures c.in_err-parameters-in-None.ensures)

pub returns-in_err-rest-in-None : goal.returns-in_err-rest-in-None
returns-in_err-rest-in-None c =
    let p = err_from_is_err_and c.from_residual-in_err-rest-in-None.result c.from_residual-in_err-rest-in-None.ensures.1 in
    rw (p.1, p.2, parameters_some c.args.words.now _ c.in_ok-parameters-in-None.rest.now c.in_ok-parameters-in-None.ensures) (fails_then _ _ _ c.in_err-rest-in-None.ensures.gives)

pub returns-in_ok-rest-in-None : goal.returns-in_ok-rest-in-None
returns-in_ok-rest-in-None c =
    rw (parameters_some c.args.words.now _ c.in_ok-parameters-in-None.rest.now c.in_ok-parameters-in-None.ensures, c.in_ok-rest-in-None.ensures.gives) refl
