use Rattle.std.proofs.Common.{◌≡◌, ℕ, true, ◌≤◌, ◌+◌, ◌*◌, List, ◌∷◌, length, map}
use Rattle.conf_lex.specs.declared.word.Word.{Word}
use Rattle.conf_lex.specs.declared.word.Word.TheVariants as words
use Rattle.conf_lex.specs.declared.symbol.Symbol.TheVariants as symbols
use Rattle.conf_lex.specs.Kind.{symbol}
use Rattle.conf_lex.specs.Grammar.{Left, Single, begins}
use Rattle.conf_lex.specs.Reading.{Parsed, and_then}
use Rattle.conf_lex.specs.PartShapes.{links}
use Rattle.expr_syntax.specs.Syntax.{is_add_op, is_mul_op, is_logical_op}
use Rattle.expr_syntax.specs.Levels.{arguments_level}
use Rattle.expr_syntax.specs.View.{derivations, parts_after, listed_tree, expr_trees}
use Rattle.expr_syntax.specs.Inside.{access_of, mul_op_of, add_op_of, logical_op_of}
use Rattle.expr_syntax.specs.Readers.{expr_at, comparison_at, sum_at, product_at, unary_at, postfix_at, behind_dot_at, inside_at}
use Rattle.expr_syntax.proofs.expression.+expression.Given as goal

-- A level is worth more than the functions within it.
abbrev pub decreases-expression : goal.decreases-expression
decreases-expression l = 16 * l.depth_left + 10

abbrev pub decreases-boxed : goal.decreases-boxed
decreases-boxed l = 16 * l.depth_left + 11

abbrev pub decreases-comparison : goal.decreases-comparison
decreases-comparison l = 16 * l.depth_left + 9

abbrev pub decreases-sum : goal.decreases-sum
decreases-sum l = 16 * l.depth_left + 8

abbrev pub decreases-product : goal.decreases-product
decreases-product l = 16 * l.depth_left + 7

abbrev pub decreases-unary : goal.decreases-unary
decreases-unary l = 16 * l.depth_left + 6

abbrev pub decreases-postfix : goal.decreases-postfix
decreases-postfix l = 16 * l.depth_left + 5

abbrev pub decreases-access : goal.decreases-access
decreases-access l = 16 * l.depth_left + 4

abbrev pub decreases-primary : goal.decreases-primary
decreases-primary l = 16 * l.depth_left + 4

abbrev pub decreases-method : goal.decreases-method
decreases-method l = 16 * l.depth_left + 3

abbrev pub decreases-group : goal.decreases-group
decreases-group l = 16 * l.depth_left + 3

abbrev pub decreases-method_call : goal.decreases-method_call
decreases-method_call l = 16 * l.depth_left + 3

abbrev pub decreases-call : goal.decreases-call
decreases-call l = 16 * l.depth_left + 3

abbrev pub decreases-arguments : goal.decreases-arguments
decreases-arguments l = 16 * l.depth_left + 2

abbrev pub invariant-expression-loop-logical_op : goal.invariant-expression-loop-logical_op
invariant-expression-loop-logical_op l = record {
  some : length l.more.items ≡ 0 → begins is_logical_op l.rest ≡ true;
  reading : expr_at l.depth_left l.words ≡ links is_logical_op (comparison_at l.depth_left) (parts_after (Single (derivations l.first.value).comparison) (map logical_op_of l.more.items)) l.rest;
}

abbrev pub decreases-expression-loop-logical_op : goal.decreases-expression-loop-logical_op
decreases-expression-loop-logical_op l = length l.rest

abbrev pub invariant-sum-loop-add_op : goal.invariant-sum-loop-add_op
invariant-sum-loop-add_op l = record {
  some : length l.more.items ≡ 0 → begins is_add_op l.rest ≡ true;
  reading : sum_at l.depth_left l.words ≡ links is_add_op (product_at l.depth_left) (parts_after (Single (derivations l.first.value).product) (map add_op_of l.more.items)) l.rest;
}

abbrev pub decreases-sum-loop-add_op : goal.decreases-sum-loop-add_op
decreases-sum-loop-add_op l = length l.rest

abbrev pub invariant-product-loop-mul_op : goal.invariant-product-loop-mul_op
invariant-product-loop-mul_op l = record {
  some : length l.more.items ≡ 0 → begins is_mul_op l.rest ≡ true;
  reading : product_at l.depth_left l.words ≡ links is_mul_op (unary_at l.depth_left) (parts_after (Single (derivations l.first.value).unary) (map mul_op_of l.more.items)) l.rest;
}

abbrev pub decreases-product-loop-mul_op : goal.decreases-product-loop-mul_op
decreases-product-loop-mul_op l = length l.rest

abbrev pub invariant-postfix-loop-next : goal.invariant-postfix-loop-next
invariant-postfix-loop-next l = record {
  some : length l.more.items ≡ 0 → begins (symbol symbols.Dot) l.rest ≡ true;
  reading : postfix_at l.depth_left l.words ≡ links (symbol symbols.Dot) (behind_dot_at l.depth_left) (parts_after (Single (derivations l.first.value).primary) (map access_of l.more.items)) l.rest;
}

abbrev pub decreases-postfix-loop-next : goal.decreases-postfix-loop-next
decreases-postfix-loop-next l = length l.rest

abbrev pub invariant-arguments-loop-next : goal.invariant-arguments-loop-next
invariant-arguments-loop-next l = record {
  some : 1 ≤ length l.found.items;
  reading : (at : ℕ) (inside : List Word) → l.words ≡ words.Placed at symbols.OpenParenthesis ∷ inside → inside_at arguments_level l.below inside ≡ and_then (links (symbol symbols.Comma) (expr_at l.below) (listed_tree (expr_trees l.found.items)) l.rest) (λ t rest. Parsed (Left t) rest);
}

abbrev pub decreases-arguments-loop-next : goal.decreases-arguments-loop-next
decreases-arguments-loop-next l = length l.rest
