use Rattle.std.proofs.lemmas.Result.{err_from_is_err_and}
use Rattle.expr_syntax.proofs.ItemSteps.{mask_item_fails, mask_item_many, mask_item_once}
use Rattle.expr_syntax.proofs.items.mask_item.Goals as goal

pub returns-in_err-atom : goal.returns-in_err-atom
returns-in_err-atom c =
    let p = err_from_is_err_and c.from_residual.result c.from_residual.ensures.1 in
    rw (p.1, p.2) (mask_item_fails 0 c.args.words.now _ c.in_err-atom.ensures)

pub returns-in-Some : goal.returns-in-Some
returns-in-Some c =
    mask_item_many 0 c.args.words.now _ c.in_ok-atom.rest.now c.in-Some.rest.now c.in_ok-atom.ensures c.in-Some.ensures

pub returns-in-None : goal.returns-in-None
returns-in-None c =
    mask_item_once 0 c.args.words.now _ c.in_ok-atom.rest.now c.in_ok-atom.ensures c.in-None.ensures
