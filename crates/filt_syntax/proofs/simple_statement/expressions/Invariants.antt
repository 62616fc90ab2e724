use Rattle.std.proofs.Common.{◌≡◌, ◌<◌, length}
use Rattle.conf_lex.specs.declared.symbol.Symbol.TheVariants as sym
use Rattle.conf_lex.specs.Kind.{symbol}
use Rattle.conf_lex.specs.PartShapes.{links}
use Rattle.expr_syntax.specs.View.{listed_tree, expr_trees}
use Rattle.expr_syntax.specs.Readers.{expr_at}
use Rattle.filt_syntax.specs.StatementReaders.{exprs_at}
use Rattle.filt_syntax.proofs.simple_statement.expressions.Given as goal

abbrev pub invariant-loop-next : goal.invariant-loop-next
invariant-loop-next l = record {
  some : 0 < length l.found.items;
  reading : exprs_at l.depth_left l.words ≡ links (symbol sym.Comma) (expr_at l.depth_left) (listed_tree (expr_trees l.found.items)) l.rest;
}

abbrev pub decreases-loop-next : goal.decreases-loop-next
decreases-loop-next l = length l.rest
