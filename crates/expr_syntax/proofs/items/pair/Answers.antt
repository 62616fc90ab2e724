use Rattle.std.proofs.Common.{refl, ◌∙◌}
use Rattle.std.proofs.lemmas.Result.{err_from_is_err_and}
use Rattle.conf_lex.proofs.PartShapes.{fails_then}
use Rattle.expr_syntax.proofs.ItemSteps.{pair_is}
use Rattle.expr_syntax.proofs.items.pair.Goals as goal

pub returns-in_err-first : goal.returns-in_err-first
returns-in_err-first c =
    let p = err_from_is_err_and c.from_residual.result c.from_residual.ensures.1 in
    rw (p.1, p.2, pair_is 0 c.args.words.now) (fails_then _ _ _ c.in_err-first.ensures)

pub returns-in_err-rest : goal.returns-in_err-rest
returns-in_err-rest c =
    let p = err_from_is_err_and c.from_residual-in_err-rest.result c.from_residual-in_err-rest.ensures.1 in
    rw (p.1, p.2, pair_is 0 c.args.words.now, c.in_ok-first.ensures) (fails_then _ _ _ (fails_then _ _ _ c.in_err-rest.ensures.gives))

pub returns-in_err-second : goal.returns-in_err-second
returns-in_err-second c =
    let p = err_from_is_err_and c.from_residual-in_err-second.result c.from_residual-in_err-second.ensures.1 in
    rw (p.1, p.2, pair_is 0 c.args.words.now, c.in_ok-first.ensures, c.in_ok-rest.ensures.gives) (fails_then _ _ _ (fails_then _ _ _ c.in_err-second.ensures))

pub returns : goal.returns
returns c =
    pair_is 0 c.args.words.now ∙ rw (c.in_ok-first.ensures, c.in_ok-rest.ensures.gives, c.in_ok-second.ensures) refl
