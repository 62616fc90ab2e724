use Rattle.std.proofs.Common.{refl}
use Rattle.std.proofs.lemmas.Result.{err_from_is_err_and}
use Rattle.conf_lex.proofs.PartShapes.{fails_then}
use Rattle.conf_tree.proofs.policy.where_policy.Goals as goal

pub returns-in_err-at : goal.returns-in_err-at
returns-in_err-at c =
    let p = err_from_is_err_and c.from_residual.result c.from_residual.ensures.1 in
    rw (p.1, p.2) (fails_then _ _ _ (fails_then _ _ _ c.in_err-at.ensures.gives))

pub returns-in_err-condition : goal.returns-in_err-condition
returns-in_err-condition c =
    let p = err_from_is_err_and c.from_residual-in_err-condition.result c.from_residual-in_err-condition.ensures.1 in
    rw (p.1, p.2, c.in_ok-at.ensures.gives) (fails_then _ _ _ (fails_then _ _ _ c.in_err-condition.ensures))

pub returns : goal.returns
returns c =
    rw (c.in_ok-at.ensures.gives, c.in_ok-condition.ensures) refl
