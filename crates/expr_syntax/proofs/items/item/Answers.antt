use Rattle.std.proofs.Common.{refl, ◌∙◌}
use Rattle.std.proofs.lemmas.Result.{err_from_is_err_and}
use Rattle.conf_lex.proofs.PartShapes.{fails_then}
use Rattle.expr_syntax.proofs.ItemSteps.{item_part}
use Rattle.expr_syntax.proofs.items.item.Goals as goal

pub returns-in_err-part-in-None : goal.returns-in_err-part-in-None
returns-in_err-part-in-None c =
    let p = err_from_is_err_and c.from_residual.result c.from_residual.ensures.1 in
    rw (p.1, p.2, item_part c.args.depth_left c.args.words.now c.in_default.ensures c.in-None.ensures) (fails_then _ _ _ c.in_err-part-in-None.ensures)

pub returns-in_ok-part-in-None : goal.returns-in_ok-part-in-None
returns-in_ok-part-in-None c =
    item_part c.args.depth_left c.args.words.now c.in_default.ensures c.in-None.ensures ∙ rw c.in_ok-part-in-None.ensures refl
