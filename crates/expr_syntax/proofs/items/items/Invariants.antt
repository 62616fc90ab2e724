use Rattle.std.proofs.Common.{◌≡◌, ◌<◌, length}
use Rattle.conf_lex.specs.declared.symbol.Symbol.TheVariants as sym
use Rattle.conf_lex.specs.Kind.{symbol}
use Rattle.conf_lex.specs.PartShapes.{links}
use Rattle.expr_syntax.specs.ItemView.{items_tree}
use Rattle.expr_syntax.specs.ItemReaders.{item_at, items_at}
use Rattle.expr_syntax.proofs.items.items.Given as goal

abbrev pub invariant-loop-next : goal.invariant-loop-next
invariant-loop-next l = record {
  some : 0 < length l.found.items;
  reading : items_at l.depth_left l.words ≡ links (symbol sym.Comma) (item_at l.depth_left) (items_tree l.found.items) l.rest;
}

abbrev pub decreases-loop-next : goal.decreases-loop-next
decreases-loop-next l = length l.rest
