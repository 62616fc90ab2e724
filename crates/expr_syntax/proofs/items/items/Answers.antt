use Rattle.std.proofs.Common.{◌≡◌, List, [], ◌∷◌, ◌++◌, length, refl, sym as flip, ap, ◌∙◌, arith, rules}
use Rattle.std.proofs.lemmas.List.{length-append}
use Rattle.conf_lex.specs.declared.symbol.Symbol.TheVariants as sym
use Rattle.conf_lex.specs.declared.word.Word.{Word}
use Rattle.conf_lex.specs.declared.word.Word.TheVariants as words
use Rattle.conf_lex.specs.Kind.{symbol}
use Rattle.conf_lex.specs.Grammar.{ParseTree}
use Rattle.conf_lex.specs.PartShapes.{links}
use Rattle.conf_lex.proofs.PartShapes.{fails_then, fails_along, links_more, links_fail, links_end}
use Rattle.expr_syntax.specs.ItemView.{item_tree, items_tree}
use Rattle.expr_syntax.specs.ItemReaders.{item_at}
use Rattle.expr_syntax.proofs.ItemSteps.{item_turns, items_is, item_shorter, one_more_item}
use Rattle.expr_syntax.proofs.items.items.Goals as goal

pub returns-in-Err-clause-tree : goal.returns-in-Err-clause-tree
returns-in-Err-clause-tree c =
    fails_along _ _ _ (items_is c.args.depth_left c.args.words.now) (fails_then _ _ _ c.in-Err.ensures)

pub loop-next-init : goal.loop-next-init
loop-next-init c =
    let pushed : c.push_tight.new.list.items ≡ c.in-Ok.found.0 ∷ [] = search rules in
    record {
      some = rw pushed (omega arith);
      reading = rw pushed (items_is c.args.depth_left c.args.words.now ∙ rw c.in-Ok.ensures refl);
    }

pub returns-in-Err-item-clause-tree : goal.returns-in-Err-item-clause-tree
returns-in-Err-item-clause-tree c =
    rw c.loop-next.invariant.reading (search (links_fail, item_turns, c.in-Some.ensures, c.in-Err-item.ensures))

pub loop-next-smaller : goal.loop-next-smaller
loop-next-smaller c =
    omega (arith, item_shorter c.args.depth_left c.in-Some.next.now _ c.in-Ok-item.found.1.now c.in-Ok-item.ensures, ap (λ (ws : List Word). length ws) c.in-Some.ensures)

pub loop-next-preserved : goal.loop-next-preserved
loop-next-preserved c =
    let ps = c.loop-next.found.items in
    let p = c.in-Ok-item.found.0 in
    let end = c.in-Ok-item.found.1.now in
    let pushed : c.push_tight-in-Some.new.list.items ≡ ps ++ p ∷ [] = search rules in
    let turn = links_more (symbol sym.Comma) (item_at c.args.depth_left) (item_turns c.args.depth_left) (items_tree ps) c.loop-next.rest.now (words.Symbol sym.Comma) c.in-Some.next.now (item_tree p) end c.in-Some.ensures refl c.in-Ok-item.ensures in
    record {
      some = rw pushed (omega (arith, length-append ps (p ∷ [])));
      reading = rw pushed (c.loop-next.invariant.reading ∙ turn ∙ ap (λ (t : ParseTree). links (symbol sym.Comma) (item_at c.args.depth_left) t end) (flip (one_more_item ps p c.loop-next.invariant.some)));
    }

pub returns-clause-tree : goal.returns-clause-tree
returns-clause-tree c =
    rw c.shrink_to_fit.ensures.items (c.loop-next.invariant.reading ∙ search (links_end, item_turns, c.in_default.ensures))

pub returns-clause-some : goal.returns-clause-some
returns-clause-some c =
    rw c.shrink_to_fit.ensures.items c.loop-next.invariant.some
