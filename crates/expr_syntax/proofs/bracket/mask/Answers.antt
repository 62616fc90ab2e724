use Rattle.std.proofs.lemmas.Result.{err_from_is_err_and}
use Rattle.expr_syntax.proofs.Steps.{mask_items_fail, mask_end_fails, mask_got}
use Rattle.expr_syntax.proofs.Derived.{derivations-Mask}
use Rattle.expr_syntax.proofs.bracket.mask.Goals as goal

pub returns-in_err-items-clause-tree : goal.returns-in_err-items-clause-tree
returns-in_err-items-clause-tree c =
    let p = err_from_is_err_and c.from_residual.result c.from_residual.ensures.1 in
    rw (p.1, p.2) (mask_items_fail c.args.depth_left c.args.at c.args.words.now c.args.inside.now c.in_err-items.field-0.0 c.requires c.in_err-items.ensures)

pub returns-in_err-rest-clause-tree : goal.returns-in_err-rest-clause-tree
returns-in_err-rest-clause-tree c =
    let p = err_from_is_err_and c.from_residual-in_err-rest.result c.from_residual-in_err-rest.ensures.1 in
    rw (p.1, p.2) (mask_end_fails c.args.depth_left c.args.at c.args.words.now c.args.inside.now _ c.in_ok-items.end.now c.in_err-rest.field-0.0 c.requires c.in_ok-items.ensures c.in_err-rest.ensures.gives)

pub returns-clause-tree : goal.returns-clause-tree
returns-clause-tree c = rw (derivations-Mask c.args.at c.in_ok-items.items) (mask_got c.args.depth_left c.args.at c.args.words.now c.args.inside.now _ c.in_ok-items.end.now c.in_ok-rest.rest.now c.requires c.in_ok-items.ensures c.in_ok-rest.ensures.gives)
