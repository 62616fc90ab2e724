use Rattle.std.proofs.Common.{◌≡◌, [], ◌∷◌, ◌++◌, sym as flip, ap, ◌∙◌, arith, rules}
use Rattle.std.proofs.lemmas.Result.{err_from_is_err_and}
use Rattle.conf_lex.specs.Grammar.{ParseTree}
use Rattle.expr_syntax.specs.ItemView.{mask_item_tree, mask_items_tree}
use Rattle.expr_syntax.specs.ItemReaders.{mask_row_at}
use Rattle.expr_syntax.proofs.ItemSteps.{mask_is, mask_row_end, mask_row_more, mask_row_fails, mask_item_shorter, one_more_mask_item}
use Rattle.expr_syntax.proofs.items.mask_items.Goals as goal

pub loop-rest-init : goal.loop-rest-init
loop-rest-init c =
    let none : c.new-found.result.items ≡ [] = search rules in
    rw none (mask_is 0 c.args.words.now)

pub returns-in_err-item : goal.returns-in_err-item
returns-in_err-item c =
    let p = err_from_is_err_and c.from_residual.result c.from_residual.ensures.1 in
    rw (p.1, p.2) (rw c.loop-rest.invariant (mask_row_fails (mask_items_tree c.loop-rest.found.items) c.loop-rest.rest.now _ (flip c.begins_mask_item.ensures ∙ c.loop-rest-test.true) c.in_err-item.ensures))

pub loop-rest-smaller : goal.loop-rest-smaller
loop-rest-smaller c =
    omega (arith, mask_item_shorter c.loop-rest.rest.now _ c.in_ok-item.end.now c.in_ok-item.ensures)

pub loop-rest-preserved : goal.loop-rest-preserved
loop-rest-preserved c =
    let ms = c.loop-rest.found.items in
    let m = c.in_ok-item.item in
    let end = c.in_ok-item.end.now in
    let pushed : c.push_tight.new.list.items ≡ ms ++ m ∷ [] = search rules in
    rw pushed (c.loop-rest.invariant ∙ mask_row_more (mask_items_tree ms) c.loop-rest.rest.now (mask_item_tree m) end (flip c.begins_mask_item.ensures ∙ c.loop-rest-test.true) c.in_ok-item.ensures ∙ ap (λ (t : ParseTree). mask_row_at t end) (flip (one_more_mask_item ms m)))

pub returns : goal.returns
returns c =
    c.loop-rest.invariant ∙ mask_row_end (mask_items_tree c.loop-rest.found.items) c.loop-rest.rest.now (flip c.begins_mask_item.ensures ∙ c.loop-rest-test.false)
