use Rattle.std.proofs.Common.{refl, ◌∙◌}
use Rattle.std.proofs.lemmas.Result.{err_from_is_err_and}
use Rattle.conf_lex.proofs.PartShapes.{fails_then}
use Rattle.expr_syntax.proofs.ItemSteps.{bounds_is}
use Rattle.expr_syntax.proofs.items.bounds.Goals as goal

pub returns-in_err-low : goal.returns-in_err-low
returns-in_err-low c =
    let p = err_from_is_err_and c.from_residual.result c.from_residual.ensures.1 in
    rw (p.1, p.2, bounds_is 0 c.args.words.now) (fails_then _ _ _ c.in_err-low.ensures.gives)

pub returns-in_err-rest : goal.returns-in_err-rest
returns-in_err-rest c =
    let p = err_from_is_err_and c.from_residual-in_err-rest.result c.from_residual-in_err-rest.ensures.1 in
    rw (p.1, p.2, bounds_is 0 c.args.words.now, c.in_ok-low.ensures.gives) (fails_then _ _ _ (fails_then _ _ _ c.in_err-rest.ensures.gives))

pub returns-in_err-high : goal.returns-in_err-high
returns-in_err-high c =
    let p = err_from_is_err_and c.from_residual-in_err-high.result c.from_residual-in_err-high.ensures.1 in
    rw (p.1, p.2, bounds_is 0 c.args.words.now, c.in_ok-low.ensures.gives, c.in_ok-rest.ensures.gives) (fails_then _ _ _ (fails_then _ _ _ c.in_err-high.ensures.gives))

pub returns : goal.returns
returns c =
    bounds_is 0 c.args.words.now ∙ rw (c.in_ok-low.ensures.gives, c.in_ok-rest.ensures.gives, c.in_ok-high.ensures.gives) refl
