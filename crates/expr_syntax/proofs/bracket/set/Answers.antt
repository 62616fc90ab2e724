use Rattle.std.proofs.lemmas.Result.{err_from_is_err_and}
use Rattle.expr_syntax.proofs.Steps.{set_too_deep, set_items_fail, set_end_fails, set_got}
use Rattle.expr_syntax.proofs.Derived.{derivations-Set}
use Rattle.expr_syntax.proofs.bracket.set.Goals as goal

pub returns-in_err-below-clause-tree : goal.returns-in_err-below-clause-tree
returns-in_err-below-clause-tree c =
    let p = err_from_is_err_and c.from_residual.result c.from_residual.ensures.1 in
    rw (p.1, p.2) (set_too_deep c.args.depth_left c.args.at c.args.words.now c.args.inside.now c.in_err-below.field-0.0 c.in_err-below.ensures.gives.0 c.requires c.in_err-below.ensures.gives.1)

pub returns-in_err-items-clause-tree : goal.returns-in_err-items-clause-tree
returns-in_err-items-clause-tree c =
    let p = err_from_is_err_and c.from_residual-in_err-items.result c.from_residual-in_err-items.ensures.1 in
    rw (p.1, p.2) (set_items_fail c.args.depth_left c.in_ok-below.below c.args.at c.args.words.now c.args.inside.now c.in_err-items.field-0.0 c.in_ok-below.ensures.gives c.requires c.in_err-items.ensures.tree)

pub returns-in_err-rest-clause-tree : goal.returns-in_err-rest-clause-tree
returns-in_err-rest-clause-tree c =
    let p = err_from_is_err_and c.from_residual-in_err-rest.result c.from_residual-in_err-rest.ensures.1 in
    rw (p.1, p.2) (set_end_fails c.args.depth_left c.in_ok-below.below c.args.at c.args.words.now c.args.inside.now _ c.in_ok-items.end.now c.in_err-rest.field-0.0 c.in_ok-below.ensures.gives c.requires c.in_ok-items.ensures.tree c.in_err-rest.ensures.gives)

pub returns-clause-tree : goal.returns-clause-tree
returns-clause-tree c = rw (derivations-Set c.args.at c.in_ok-items.items) (set_got c.args.depth_left c.in_ok-below.below c.args.at c.args.words.now c.args.inside.now _ c.in_ok-items.end.now c.in_ok-rest.rest.now c.in_ok-below.ensures.gives c.requires c.in_ok-items.ensures.tree c.in_ok-rest.ensures.gives)
