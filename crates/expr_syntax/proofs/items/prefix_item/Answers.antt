use Rattle.std.proofs.Common.{refl, ◌∙◌}
use Rattle.std.proofs.lemmas.Result.{err_from_is_err_and}
use Rattle.conf_lex.proofs.PartShapes.{fails_then}
use Rattle.expr_syntax.proofs.ItemSteps.{prefix_item_is}
use Rattle.expr_syntax.proofs.items.prefix_item.Goals as goal

pub returns-in_err-lengths : goal.returns-in_err-lengths
returns-in_err-lengths c =
    let p = err_from_is_err_and c.from_residual.result c.from_residual.ensures.1 in
    rw (p.1, p.2, prefix_item_is c.args.depth_left c.args.at c.args.net c.args.words.now c.args.behind.now c.requires) (fails_then _ _ _ c.in_err-lengths.ensures)

pub returns : goal.returns
returns c =
    prefix_item_is c.args.depth_left c.args.at c.args.net c.args.words.now c.args.behind.now c.requires ∙ rw c.in_ok-lengths.ensures refl
