use Rattle.std.proofs.lemmas.Result.{err_from_is_err_and}
use Rattle.expr_syntax.proofs.ItemSteps.{label_items_fail, label_colon_fails, label_got}
use Rattle.expr_syntax.proofs.items.label.Goals as goal

pub returns-in_err-items : goal.returns-in_err-items
returns-in_err-items c =
    let p = err_from_is_err_and c.from_residual.result c.from_residual.ensures.1 in
    rw (p.1, p.2) (label_items_fail c.args.depth_left c.args.words.now _ c.in_err-items.ensures.tree)

pub returns-in_err-rest : goal.returns-in_err-rest
returns-in_err-rest c =
    let p = err_from_is_err_and c.from_residual-in_err-rest.result c.from_residual-in_err-rest.ensures.1 in
    rw (p.1, p.2) (label_colon_fails c.args.depth_left c.args.words.now _ c.in_ok-items.rest.now _ c.in_ok-items.ensures.tree c.in_err-rest.ensures.gives)

pub returns : goal.returns
returns c =
    label_got c.args.depth_left c.args.words.now c.in_ok-items.items.items c.in_ok-items.rest.now c.in_ok-rest.rest.now c.in_ok-items.ensures.some c.in_ok-items.ensures.tree c.in_ok-rest.ensures.gives
