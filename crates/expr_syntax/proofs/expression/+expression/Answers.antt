use Rattle.std.proofs.Common.{◌≡◌, Bool, true, false, List, [], ◌∷◌, ◌++◌, length, drop, map, refl, sym, ap, ◌∙◌, arith, rules}
use Rattle.std.proofs.lemmas.Result.{err_from_is_err_and}
use Rattle.std.proofs.lemmas.List.{length-append}
use Rattle.conf_lex.specs.declared.symbol.Symbol.TheVariants as symbols
use Rattle.conf_lex.specs.declared.word.Word.{Word}
use Rattle.conf_lex.specs.declared.word.Word.TheVariants as words
use Rattle.conf_lex.specs.Grammar.{ParseTree, Left, Single, begins}
use Rattle.conf_lex.specs.Kind.{Kind, kind_of, symbol}
use Rattle.conf_lex.specs.Reading.{Read, Parsed, and_then}
use Rattle.conf_lex.specs.PartShapes.{links}
use Rattle.conf_lex.proofs.PartShapes.{fails_along, fails_then, gives_along, links_more, links_fail, links_end, optional_alone, optional_pair, optional_first_fails, optional_second_fails}
use Rattle.conf_ast.specs.declared.filters.Expr.{Expr}
use Rattle.conf_ast.specs.declared.filters.Access.{Access}
use Rattle.conf_ast.specs.declared.filters.MulOp.{MulOp}
use Rattle.conf_ast.specs.declared.filters.AddOp.{AddOp}
use Rattle.conf_ast.specs.declared.filters.LogicalOp.{LogicalOp}
use Rattle.expr_syntax.specs.Syntax.{is_compare_op, is_add_op, is_mul_op, is_logical_op}
use Rattle.expr_syntax.specs.Levels.{group_level, arguments_level, argument_level, two_level}
use Rattle.expr_syntax.specs.View.{derivations, parts_after, listed_tree, expr_trees, compare_op_symbol, add_op_symbol, mul_op_symbol, logical_op_symbol}
use Rattle.expr_syntax.specs.Inside.{access_of, mul_op_of, add_op_of, logical_op_of}
use Rattle.expr_syntax.specs.Readers.{expr_at, comparison_at, sum_at, product_at, unary_at, postfix_at, primary_at, behind_dot_at, named_at, inside_at}
use Rattle.expr_syntax.proofs.Steps.{logical_op_turns, expr_is, add_op_turns, sum_is, mul_op_turns, product_is, dot_turns, postfix_is, comma_turns, comparison_is, group_is, expr_shorter, comparison_shorter, product_shorter, unary_shorter, behind_shorter, logical_op_passes, compare_op_passes, add_op_passes, mul_op_passes, level_unopened, level_deep, level_inside_fails, level_end_fails, level_got, argument_inside, two_first_fails, two_comma_fails, two_second_fails, two_got, primary_atom, primary_named, group_fails, group_got, method_call_fails, method_call_got, primary_bad, not_too_deep, not_fails, not_got, unary_postfix, behind_property, behind_fails, behind_got, method_bad, method_fails, method_got, named_none, named_fails, named_got, arguments_empty, arguments_some, arguments_fail}
use Rattle.expr_syntax.proofs.Derived.{lifts, derivations-Atom, derivations-Name, derivations-Call, derivations-Product, derivations-Sum, derivations-Logical, derivations-Postfix, derivations-Group, derivations-Pair, derivations-MethodCall, compare_op_of, not_of, one_more, chain_some, one_more_access, one_more_expr, arguments_listed, gives_unary}
use Rattle.expr_syntax.proofs.expression.+expression.Goals as goal

same_tail : (v w : Word) (us vs ws : List Word) → ws ≡ v ∷ us → ws ≡ w ∷ vs → us ≡ vs
same_tail v w us vs ws p q = ap (λ (x : List Word). drop 1 x) (sym p ∙ q)

more_than_none : {X : Type 0} (xs : List X) (x : X) → length (xs ++ x ∷ []) ≡ 0 → ⊥
more_than_none xs x none = omega (arith, none, length-append xs (x ∷ []))

not_both : (P : Type 0) (b : Bool) → (P → b ≡ true) → b ≡ false → P → ⊥
not_both P b must off p = let e = must p in cc

begins_with : (p : Kind → Bool) (ws : List Word) (w : Word) (us : List Word) → ws ≡ w ∷ us → p (kind_of w) ≡ true → begins p ws ≡ true
begins_with p ws w us is passes = rw is passes

-- ---- expression

pub expression-returns-in_err-value : goal.expression-returns-in_err-value
expression-returns-in_err-value t c =
    let p = err_from_is_err_and c.from_residual.result c.from_residual.ensures.1 in
    let k = c.args.depth_left in
    rw (p.1, p.2) (fails_along _ _ _ (expr_is k c.args.words.now) (fails_then c.in_err-value.field-0.0 (comparison_at k c.args.words.now) (λ a rest. links is_logical_op (comparison_at k) (Single a) rest) c.in_err-value.ensures.tree))

pub expression-loop-logical_op-init : goal.expression-loop-logical_op-init
expression-loop-logical_op-init t c =
    let none : c.new-more.result.items ≡ [] = search rules in
    let boxed : c.in_ok-first.first.value ≡ c.in_ok-value.value = search rules in
    record { some = λ none_yet. begins_with is_logical_op _ _ _ c.in-Some.ensures (logical_op_passes c.in-Some.field-0.0); reading = rw (none, boxed) (expr_is c.args.depth_left c.args.words.now ∙ rw c.in_ok-value.ensures.tree refl) }

pub expression-returns-in_err-operand : goal.expression-returns-in_err-operand
expression-returns-in_err-operand t c =
    let p = err_from_is_err_and c.from_residual-in_err-operand.result c.from_residual-in_err-operand.ensures.1 in
    let k = c.args.depth_left in
    rw (p.1, p.2) (fails_along _ _ _ c.loop-logical_op.invariant.reading (links_fail is_logical_op (comparison_at k) (logical_op_turns k) _ c.loop-logical_op.rest.now (words.Symbol (logical_op_symbol c.in-Some-next_logical_op.logical_op)) c.in-Some-next_logical_op.next.now c.in_err-operand.field-0.0 c.in-Some-next_logical_op.ensures (logical_op_passes c.in-Some-next_logical_op.logical_op) c.in_err-operand.ensures.tree))

pub expression-loop-logical_op-smaller : goal.expression-loop-logical_op-smaller
expression-loop-logical_op-smaller t c = omega (arith, comparison_shorter c.args.depth_left c.in-Some-next_logical_op.next.now _ c.in_ok-operand.end.now c.in_ok-operand.ensures.tree, ap (λ (ws : List Word). length ws) c.in-Some-next_logical_op.ensures)

pub expression-loop-logical_op-preserved : goal.expression-loop-logical_op-preserved
expression-loop-logical_op-preserved t c =
    let k = c.args.depth_left in
    let x : LogicalOp × Expr = (c.in-Some-next_logical_op.logical_op, c.in_ok-operand.operand) in
    let xs = c.loop-logical_op.more.items in
    let first = Single (derivations c.in_ok-first.first.value).comparison in
    let pushed : c.push_tight.new.list.items ≡ xs ++ x ∷ [] = search rules in
    let turn = links_more is_logical_op (comparison_at k) (logical_op_turns k) (parts_after first (map logical_op_of xs)) c.loop-logical_op.rest.now (words.Symbol (logical_op_symbol c.in-Some-next_logical_op.logical_op)) c.in-Some-next_logical_op.next.now (logical_op_of x).1 c.in_ok-operand.end.now c.in-Some-next_logical_op.ensures (logical_op_passes c.in-Some-next_logical_op.logical_op) c.in_ok-operand.ensures.tree in
    record { some = λ none. absurd (more_than_none xs x (rw pushed at none)); reading = rw pushed (c.loop-logical_op.invariant.reading ∙ turn ∙ ap (λ (u : ParseTree). links is_logical_op (comparison_at k) u c.in_ok-operand.end.now) (sym (one_more logical_op_of first xs x))) }

pub expression-returns-in_default : goal.expression-returns-in_default
expression-returns-in_default t c =
    let k = c.args.depth_left in
    let v = c.in_ok-value.value in
    rw ((lifts v).expr c.in_ok-value.ensures.precedence) (expr_is k c.args.words.now ∙ rw c.in_ok-value.ensures.tree (links_end is_logical_op (comparison_at k) (logical_op_turns k) (Single (derivations v).comparison) c.in_ok-value.rest.now c.in_default.ensures))

pub expression-returns : goal.expression-returns
expression-returns t c =
    let k = c.args.depth_left in
    let some = not_both _ (begins is_logical_op c.loop-logical_op.rest.now) c.loop-logical_op.invariant.some c.in_default-next_logical_op.ensures in
    rw (derivations-Logical c.in_ok-first.first c.loop-logical_op.more, chain_some logical_op_of (Single (derivations c.in_ok-first.first.value).comparison) c.loop-logical_op.more.items some) (c.loop-logical_op.invariant.reading ∙ links_end is_logical_op (comparison_at k) (logical_op_turns k) _ c.loop-logical_op.rest.now c.in_default-next_logical_op.ensures)

-- ---- boxed

pub boxed-returns-in_err-value : goal.boxed-returns-in_err-value
boxed-returns-in_err-value t c =
    let p = err_from_is_err_and c.from_residual.result c.from_residual.ensures.1 in
    rw (p.1, p.2) c.in_err-value.ensures

pub boxed-returns : goal.boxed-returns
boxed-returns t c =
    let same : c.in_ok-boxed.boxed.value ≡ c.in_ok-value.value = search rules in
    rw same c.in_ok-value.ensures

-- ---- sum

pub sum-returns-in_err-value-clause-tree : goal.sum-returns-in_err-value-clause-tree
sum-returns-in_err-value-clause-tree t c =
    let p = err_from_is_err_and c.from_residual.result c.from_residual.ensures.1 in
    let k = c.args.depth_left in
    rw (p.1, p.2) (fails_along _ _ _ (sum_is k c.args.words.now) (fails_then c.in_err-value.field-0.0 (product_at k c.args.words.now) (λ a rest. links is_add_op (product_at k) (Single a) rest) c.in_err-value.ensures.tree))

pub sum-loop-add_op-init : goal.sum-loop-add_op-init
sum-loop-add_op-init t c =
    let none : c.new-more.result.items ≡ [] = search rules in
    let boxed : c.in_ok-first.first.value ≡ c.in_ok-value.value = search rules in
    record { some = λ none_yet. begins_with is_add_op _ _ _ c.in-Some.ensures (add_op_passes c.in-Some.field-0.0); reading = rw (none, boxed) (sum_is c.args.depth_left c.args.words.now ∙ rw c.in_ok-value.ensures.tree refl) }

pub sum-returns-in_err-operand-clause-tree : goal.sum-returns-in_err-operand-clause-tree
sum-returns-in_err-operand-clause-tree t c =
    let p = err_from_is_err_and c.from_residual-in_err-operand.result c.from_residual-in_err-operand.ensures.1 in
    let k = c.args.depth_left in
    rw (p.1, p.2) (fails_along _ _ _ c.loop-add_op.invariant.reading (links_fail is_add_op (product_at k) (add_op_turns k) _ c.loop-add_op.rest.now (words.Symbol (add_op_symbol c.in-Some-next_add_op.add_op)) c.in-Some-next_add_op.next.now c.in_err-operand.field-0.0 c.in-Some-next_add_op.ensures (add_op_passes c.in-Some-next_add_op.add_op) c.in_err-operand.ensures.tree))

pub sum-loop-add_op-smaller : goal.sum-loop-add_op-smaller
sum-loop-add_op-smaller t c = omega (arith, product_shorter c.args.depth_left c.in-Some-next_add_op.next.now _ c.in_ok-operand.end.now c.in_ok-operand.ensures.tree, ap (λ (ws : List Word). length ws) c.in-Some-next_add_op.ensures)

pub sum-loop-add_op-preserved : goal.sum-loop-add_op-preserved
sum-loop-add_op-preserved t c =
    let k = c.args.depth_left in
    let x : AddOp × Expr = (c.in-Some-next_add_op.add_op, c.in_ok-operand.operand) in
    let xs = c.loop-add_op.more.items in
    let first = Single (derivations c.in_ok-first.first.value).product in
    let pushed : c.push_tight.new.list.items ≡ xs ++ x ∷ [] = search rules in
    let turn = links_more is_add_op (product_at k) (add_op_turns k) (parts_after first (map add_op_of xs)) c.loop-add_op.rest.now (words.Symbol (add_op_symbol c.in-Some-next_add_op.add_op)) c.in-Some-next_add_op.next.now (add_op_of x).1 c.in_ok-operand.end.now c.in-Some-next_add_op.ensures (add_op_passes c.in-Some-next_add_op.add_op) c.in_ok-operand.ensures.tree in
    record { some = λ none. absurd (more_than_none xs x (rw pushed at none)); reading = rw pushed (c.loop-add_op.invariant.reading ∙ turn ∙ ap (λ (u : ParseTree). links is_add_op (product_at k) u c.in_ok-operand.end.now) (sym (one_more add_op_of first xs x))) }

pub sum-returns-in_default-clause-tree : goal.sum-returns-in_default-clause-tree
sum-returns-in_default-clause-tree t c =
    let k = c.args.depth_left in
    let v = c.in_ok-value.value in
    rw ((lifts v).sum c.in_ok-value.ensures.precedence) (sum_is k c.args.words.now ∙ rw c.in_ok-value.ensures.tree (links_end is_add_op (product_at k) (add_op_turns k) (Single (derivations v).product) c.in_ok-value.rest.now c.in_default.ensures))

pub sum-returns-in_default-clause-precedence : goal.sum-returns-in_default-clause-precedence
sum-returns-in_default-clause-precedence t c = omega (arith, c.in_ok-value.ensures.precedence)

pub sum-returns-clause-tree : goal.sum-returns-clause-tree
sum-returns-clause-tree t c =
    let k = c.args.depth_left in
    let some = not_both _ (begins is_add_op c.loop-add_op.rest.now) c.loop-add_op.invariant.some c.in_default-next_add_op.ensures in
    rw (derivations-Sum c.in_ok-first.first c.loop-add_op.more, chain_some add_op_of (Single (derivations c.in_ok-first.first.value).product) c.loop-add_op.more.items some) (c.loop-add_op.invariant.reading ∙ links_end is_add_op (product_at k) (add_op_turns k) _ c.loop-add_op.rest.now c.in_default-next_add_op.ensures)

-- ---- product

pub product-returns-in_err-value-clause-tree : goal.product-returns-in_err-value-clause-tree
product-returns-in_err-value-clause-tree t c =
    let p = err_from_is_err_and c.from_residual.result c.from_residual.ensures.1 in
    let k = c.args.depth_left in
    rw (p.1, p.2) (fails_along _ _ _ (product_is k c.args.words.now) (fails_then c.in_err-value.field-0.0 (unary_at k c.args.words.now) (λ a rest. links is_mul_op (unary_at k) (Single a) rest) c.in_err-value.ensures.tree))

pub product-loop-mul_op-init : goal.product-loop-mul_op-init
product-loop-mul_op-init t c =
    let none : c.new-more.result.items ≡ [] = search rules in
    let boxed : c.in_ok-first.first.value ≡ c.in_ok-value.value = search rules in
    record { some = λ none_yet. begins_with is_mul_op _ _ _ c.in-Some.ensures (mul_op_passes c.in-Some.field-0.0); reading = rw (none, boxed) (product_is c.args.depth_left c.args.words.now ∙ rw c.in_ok-value.ensures.tree refl) }

pub product-returns-in_err-second-clause-tree : goal.product-returns-in_err-second-clause-tree
product-returns-in_err-second-clause-tree t c =
    let p = err_from_is_err_and c.from_residual-in_err-second.result c.from_residual-in_err-second.ensures.1 in
    let k = c.args.depth_left in
    rw (p.1, p.2) (fails_along _ _ _ c.loop-mul_op.invariant.reading (links_fail is_mul_op (unary_at k) (mul_op_turns k) _ c.loop-mul_op.rest.now (words.Symbol (mul_op_symbol c.in-Some-next_mul_op.mul_op)) c.in-Some-next_mul_op.next.now c.in_err-second.field-0.0 c.in-Some-next_mul_op.ensures (mul_op_passes c.in-Some-next_mul_op.mul_op) c.in_err-second.ensures.tree))

pub product-loop-mul_op-smaller : goal.product-loop-mul_op-smaller
product-loop-mul_op-smaller t c = omega (arith, unary_shorter c.args.depth_left c.in-Some-next_mul_op.next.now _ c.in_ok-second.end.now c.in_ok-second.ensures.tree, ap (λ (ws : List Word). length ws) c.in-Some-next_mul_op.ensures)

pub product-loop-mul_op-preserved : goal.product-loop-mul_op-preserved
product-loop-mul_op-preserved t c =
    let k = c.args.depth_left in
    let x : MulOp × Expr = (c.in-Some-next_mul_op.mul_op, c.in_ok-second.second) in
    let xs = c.loop-mul_op.more.items in
    let first = Single (derivations c.in_ok-first.first.value).unary in
    let pushed : c.push_tight.new.list.items ≡ xs ++ x ∷ [] = search rules in
    let turn = links_more is_mul_op (unary_at k) (mul_op_turns k) (parts_after first (map mul_op_of xs)) c.loop-mul_op.rest.now (words.Symbol (mul_op_symbol c.in-Some-next_mul_op.mul_op)) c.in-Some-next_mul_op.next.now (mul_op_of x).1 c.in_ok-second.end.now c.in-Some-next_mul_op.ensures (mul_op_passes c.in-Some-next_mul_op.mul_op) c.in_ok-second.ensures.tree in
    record { some = λ none. absurd (more_than_none xs x (rw pushed at none)); reading = rw pushed (c.loop-mul_op.invariant.reading ∙ turn ∙ ap (λ (u : ParseTree). links is_mul_op (unary_at k) u c.in_ok-second.end.now) (sym (one_more mul_op_of first xs x))) }

pub product-returns-in_default-clause-tree : goal.product-returns-in_default-clause-tree
product-returns-in_default-clause-tree t c =
    let k = c.args.depth_left in
    let v = c.in_ok-value.value in
    rw ((lifts v).product c.in_ok-value.ensures.precedence) (product_is k c.args.words.now ∙ rw c.in_ok-value.ensures.tree (links_end is_mul_op (unary_at k) (mul_op_turns k) (Single (derivations v).unary) c.in_ok-value.rest.now c.in_default.ensures))

pub product-returns-in_default-clause-precedence : goal.product-returns-in_default-clause-precedence
product-returns-in_default-clause-precedence t c = omega (arith, c.in_ok-value.ensures.precedence)

pub product-returns-clause-tree : goal.product-returns-clause-tree
product-returns-clause-tree t c =
    let k = c.args.depth_left in
    let some = not_both _ (begins is_mul_op c.loop-mul_op.rest.now) c.loop-mul_op.invariant.some c.in_default-next_mul_op.ensures in
    rw (derivations-Product c.in_ok-first.first c.loop-mul_op.more, chain_some mul_op_of (Single (derivations c.in_ok-first.first.value).unary) c.loop-mul_op.more.items some) (c.loop-mul_op.invariant.reading ∙ links_end is_mul_op (unary_at k) (mul_op_turns k) _ c.loop-mul_op.rest.now c.in_default-next_mul_op.ensures)

-- ---- accessed

pub postfix-returns-in_err-value-clause-tree : goal.postfix-returns-in_err-value-clause-tree
postfix-returns-in_err-value-clause-tree t c =
    let p = err_from_is_err_and c.from_residual.result c.from_residual.ensures.1 in
    let k = c.args.depth_left in
    rw (p.1, p.2) (fails_along _ _ _ (postfix_is k c.args.words.now) (fails_then c.in_err-value.field-0.0 (primary_at k c.args.words.now) (λ a rest. links (symbol symbols.Dot) (behind_dot_at k) (Single a) rest) c.in_err-value.ensures.tree))

pub postfix-loop-next-init : goal.postfix-loop-next-init
postfix-loop-next-init t c =
    let none : c.new-more.result.items ≡ [] = search rules in
    let boxed : c.in_ok-first.first.value ≡ c.in_ok-value.value = search rules in
    record { some = λ none_yet. begins_with (symbol symbols.Dot) _ _ _ c.in-Some.ensures refl; reading = rw (none, boxed) (postfix_is c.args.depth_left c.args.words.now ∙ rw c.in_ok-value.ensures.tree refl) }

pub postfix-returns-in_err-postfix-clause-tree : goal.postfix-returns-in_err-postfix-clause-tree
postfix-returns-in_err-postfix-clause-tree t c =
    let p = err_from_is_err_and c.from_residual-in_err-postfix.result c.from_residual-in_err-postfix.ensures.1 in
    let k = c.args.depth_left in
    rw (p.1, p.2) (fails_along _ _ _ c.loop-next.invariant.reading (links_fail (symbol symbols.Dot) (behind_dot_at k) (dot_turns k) _ c.loop-next.rest.now (words.Symbol symbols.Dot) c.in-Some-after.next.now c.in_err-postfix.field-0.0 c.in-Some-after.ensures refl c.in_err-postfix.ensures))

pub postfix-loop-next-smaller : goal.postfix-loop-next-smaller
postfix-loop-next-smaller t c = omega (arith, behind_shorter c.args.depth_left c.in-Some-after.next.now _ c.in_ok-postfix.end.now c.in_ok-postfix.ensures, ap (λ (ws : List Word). length ws) c.in-Some-after.ensures)

pub postfix-loop-next-preserved : goal.postfix-loop-next-preserved
postfix-loop-next-preserved t c =
    let k = c.args.depth_left in
    let x : Access Expr = c.in_ok-postfix.postfix in
    let xs = c.loop-next.more.items in
    let first = Single (derivations c.in_ok-first.first.value).primary in
    let pushed : c.push_tight.new.list.items ≡ xs ++ x ∷ [] = search rules in
    let turn = links_more (symbol symbols.Dot) (behind_dot_at k) (dot_turns k) (parts_after first (map access_of xs)) c.loop-next.rest.now (words.Symbol symbols.Dot) c.in-Some-after.next.now (access_of x).1 c.in_ok-postfix.end.now c.in-Some-after.ensures refl c.in_ok-postfix.ensures in
    record { some = λ none. absurd (more_than_none xs x (rw pushed at none)); reading = rw pushed (c.loop-next.invariant.reading ∙ turn ∙ ap (λ (u : ParseTree). links (symbol symbols.Dot) (behind_dot_at k) u c.in_ok-postfix.end.now) (sym (one_more_access first xs x))) }

pub postfix-returns-in_default-clause-tree : goal.postfix-returns-in_default-clause-tree
postfix-returns-in_default-clause-tree t c =
    let k = c.args.depth_left in
    let v = c.in_ok-value.value in
    rw ((lifts v).postfix c.in_ok-value.ensures.precedence) (postfix_is k c.args.words.now ∙ rw c.in_ok-value.ensures.tree (links_end (symbol symbols.Dot) (behind_dot_at k) (dot_turns k) (Single (derivations v).primary) c.in_ok-value.rest.now c.in_default.ensures))

pub postfix-returns-in_default-clause-precedence : goal.postfix-returns-in_default-clause-precedence
postfix-returns-in_default-clause-precedence t c = omega (arith, c.in_ok-value.ensures.precedence)

pub postfix-returns-clause-tree : goal.postfix-returns-clause-tree
postfix-returns-clause-tree t c =
    let k = c.args.depth_left in
    let some = not_both _ (begins (symbol symbols.Dot) c.loop-next.rest.now) c.loop-next.invariant.some c.in_default-after.ensures in
    rw (derivations-Postfix c.in_ok-first.first c.loop-next.more, chain_some access_of (Single (derivations c.in_ok-first.first.value).primary) c.loop-next.more.items some) (c.loop-next.invariant.reading ∙ links_end (symbol symbols.Dot) (behind_dot_at k) (dot_turns k) _ c.loop-next.rest.now c.in_default-after.ensures)

-- ---- comparisons

pub comparison-returns-in_err-value-clause-tree : goal.comparison-returns-in_err-value-clause-tree
comparison-returns-in_err-value-clause-tree t c =
    let p = err_from_is_err_and c.from_residual.result c.from_residual.ensures.1 in
    let k = c.args.depth_left in
    rw (p.1, p.2) (fails_along _ _ _ (comparison_is k c.args.words.now) (optional_first_fails is_compare_op (sum_at k) (sum_at k) c.args.words.now c.in_err-value.field-0.0 c.in_err-value.ensures.tree))

pub comparison-returns-in_err-operand-in-Some-clause-tree : goal.comparison-returns-in_err-operand-in-Some-clause-tree
comparison-returns-in_err-operand-in-Some-clause-tree t c =
    let p = err_from_is_err_and c.from_residual-in_err-operand-in-Some.result c.from_residual-in_err-operand-in-Some.ensures.1 in
    let k = c.args.depth_left in
    rw (p.1, p.2) (fails_along _ _ _ (comparison_is k c.args.words.now) (optional_second_fails is_compare_op (sum_at k) (sum_at k) c.args.words.now _ c.in_ok-value.rest.now (words.Symbol (compare_op_symbol c.in-Some.compare_op)) c.in-Some.rest.now c.in_err-operand-in-Some.field-0.0 c.in_ok-value.ensures.tree c.in-Some.ensures (compare_op_passes c.in-Some.compare_op) c.in_err-operand-in-Some.ensures.tree))

pub comparison-returns-in_ok-second-in-Some-clause-tree : goal.comparison-returns-in_ok-second-in-Some-clause-tree
comparison-returns-in_ok-second-in-Some-clause-tree t c =
    let k = c.args.depth_left in
    let op = c.in-Some.compare_op in
    let first : c.in_ok-first-in-Some.first.value ≡ c.in_ok-value.value = search rules in
    let second : c.in_ok-second-in-Some.second.value ≡ c.in_ok-operand-in-Some.operand = search rules in
    let seen = compare_op_of op c.in_ok-first-in-Some.first c.in_ok-second-in-Some.second c.in_ok-value.value c.in_ok-operand-in-Some.operand first second in
    rw seen (comparison_is k c.args.words.now ∙ optional_pair is_compare_op (sum_at k) (sum_at k) c.args.words.now _ c.in_ok-value.rest.now (words.Symbol (compare_op_symbol op)) c.in-Some.rest.now _ c.in_ok-operand-in-Some.rest.now c.in_ok-value.ensures.tree c.in-Some.ensures (compare_op_passes op) c.in_ok-operand-in-Some.ensures.tree)

pub comparison-returns-in-None-clause-tree : goal.comparison-returns-in-None-clause-tree
comparison-returns-in-None-clause-tree t c =
    let k = c.args.depth_left in
    let one = comparison_is k c.args.words.now ∙ optional_alone is_compare_op (sum_at k) (sum_at k) c.args.words.now _ c.in_ok-value.rest.now c.in_ok-value.ensures.tree c.in-None.ensures in
    rw ((lifts c.in_ok-value.value).comparison c.in_ok-value.ensures.precedence) one

-- ---- operands

pub unary-returns-in_err-below-in-Some-clause-tree : goal.unary-returns-in_err-below-in-Some-clause-tree
unary-returns-in_err-below-in-Some-clause-tree t c =
    let p = err_from_is_err_and c.from_residual.result c.from_residual.ensures.1 in
    rw (p.1, p.2) (not_too_deep c.args.depth_left c.in-Some.at c.args.words.now c.in-Some.inside.now c.in_err-below-in-Some.field-0.0 c.in_err-below-in-Some.ensures.gives.0 c.in-Some.ensures c.in_err-below-in-Some.ensures.gives.1)

pub unary-returns-in_err-inner-in-Some-clause-tree : goal.unary-returns-in_err-inner-in-Some-clause-tree
unary-returns-in_err-inner-in-Some-clause-tree t c =
    let p = err_from_is_err_and c.from_residual-in_err-inner-in-Some.result c.from_residual-in_err-inner-in-Some.ensures.1 in
    rw (p.1, p.2) (not_fails c.args.depth_left c.in_ok-below-in-Some.below c.in-Some.at c.args.words.now c.in-Some.inside.now c.in_err-inner-in-Some.field-0.0 c.in_ok-below-in-Some.ensures.gives c.in-Some.ensures c.in_err-inner-in-Some.ensures.tree)

pub unary-returns-in_ok-operand-in-Some-clause-tree : goal.unary-returns-in_ok-operand-in-Some-clause-tree
unary-returns-in_ok-operand-in-Some-clause-tree t c =
    let boxed : c.in_ok-operand-in-Some.operand.value ≡ c.in_ok-inner-in-Some.inner = search rules in
    rw (not_of c.in-Some.at c.in_ok-operand-in-Some.operand c.in_ok-inner-in-Some.inner boxed) (not_got c.args.depth_left c.in_ok-below-in-Some.below c.in-Some.at c.args.words.now c.in-Some.inside.now _ c.in_ok-inner-in-Some.rest.now c.in_ok-below-in-Some.ensures.gives c.in-Some.ensures c.in_ok-inner-in-Some.ensures.tree)

pub unary-returns-in-None-clause-tree : goal.unary-returns-in-None-clause-tree
unary-returns-in-None-clause-tree t c = gives_unary c.postfix.result (postfix_at c.args.depth_left c.args.words.now) (unary_at c.args.depth_left c.args.words.now) c.postfix.ensures.precedence (unary_postfix c.args.depth_left c.args.words.now c.in-None.ensures) c.postfix.ensures.tree

-- ---- behind a dot

pub access-returns-in-Some : goal.access-returns-in-Some
access-returns-in-Some t c = behind_property c.args.depth_left c.in-Some.property c.args.words.now c.in-Some.rest.now c.in-Some.ensures

pub access-returns-in_err-method-in-None : goal.access-returns-in_err-method-in-None
access-returns-in_err-method-in-None t c =
    let p = err_from_is_err_and c.from_residual.result c.from_residual.ensures.1 in
    rw (p.1, p.2) (behind_fails c.args.depth_left c.args.words.now c.in_err-method-in-None.field-0.0 c.in-None.ensures c.in_err-method-in-None.ensures)

pub access-returns-in_ok-method-in-None : goal.access-returns-in_ok-method-in-None
access-returns-in_ok-method-in-None t c = behind_got c.args.depth_left c.args.words.now _ c.in_ok-method-in-None.rest.now c.in-None.ensures c.in_ok-method-in-None.ensures

-- ---- methods

pub method-returns-in_default : goal.method-returns-in_default
method-returns-in_default t c = method_bad c.args.depth_left c.args.words.now c.in_default.ensures

pub method-returns-in_err-below : goal.method-returns-in_err-below
method-returns-in_err-below t c =
    let p = err_from_is_err_and c.from_residual.result c.from_residual.ensures.1 in
    let e = c.in_err-below.field-0.0 in
    rw (p.1, p.2) (method_fails c.args.depth_left c.in-Some.method c.args.words.now c.in-Some.next.now e c.in-Some.ensures (level_unopened argument_level c.args.depth_left c.in-Some.next.now e (c.in_err-below.ensures argument_level)))

pub method-returns-in_err-argument : goal.method-returns-in_err-argument
method-returns-in_err-argument t c =
    let p = err_from_is_err_and c.from_residual-in_err-argument.result c.from_residual-in_err-argument.ensures.1 in
    let e = c.in_err-argument.field-0.0 in
    let b = c.in_ok-below.below in
    let u = c.in_ok-below.inside.now in
    let failed = fails_along e (inside_at argument_level b u) (expr_at b u) (argument_inside b u) c.in_err-argument.ensures in
    rw (p.1, p.2) (method_fails c.args.depth_left c.in-Some.method c.args.words.now c.in-Some.next.now e c.in-Some.ensures (level_inside_fails argument_level c.args.depth_left b c.in_ok-below.open c.in-Some.next.now u e c.in_ok-below.ensures.1 c.in_ok-below.ensures.0 failed))

pub method-returns-in_err-rest : goal.method-returns-in_err-rest
method-returns-in_err-rest t c =
    let p = err_from_is_err_and c.from_residual-in_err-rest.result c.from_residual-in_err-rest.ensures.1 in
    let e = c.in_err-rest.field-0.0 in
    let b = c.in_ok-below.below in
    let u = c.in_ok-below.inside.now in
    rw (p.1, p.2) (method_fails c.args.depth_left c.in-Some.method c.args.words.now c.in-Some.next.now e c.in-Some.ensures (level_end_fails argument_level c.args.depth_left b c.in_ok-below.open c.in-Some.next.now u _ c.in_ok-argument.end.now e c.in_ok-below.ensures.1 c.in_ok-below.ensures.0 (argument_inside b u ∙ c.in_ok-argument.ensures) c.in_err-rest.ensures.gives))

pub method-returns : goal.method-returns
method-returns t c =
    let b = c.in_ok-below.below in
    let u = c.in_ok-below.inside.now in
    method_got c.args.depth_left c.in_ok-below.open c.in-Some.method c.args.words.now c.in-Some.next.now _ c.in_ok-rest.rest.now c.in-Some.ensures (level_got argument_level c.args.depth_left b c.in_ok-below.open c.in-Some.next.now u _ c.in_ok-argument.end.now c.in_ok-rest.rest.now c.in_ok-below.ensures.1 c.in_ok-below.ensures.0 (argument_inside b u ∙ c.in_ok-argument.ensures) c.in_ok-rest.ensures.gives)

-- ---- groups

pub group-returns-in_err-below-clause-tree : goal.group-returns-in_err-below-clause-tree
group-returns-in_err-below-clause-tree t c =
    let p = err_from_is_err_and c.from_residual.result c.from_residual.ensures.1 in
    let e = c.in_err-below.field-0.0 in
    rw (p.1, p.2) (group_fails c.args.depth_left c.args.at c.args.words.now c.args.inside.now e c.requires (level_deep group_level c.args.depth_left c.args.at c.args.words.now c.args.inside.now e c.in_err-below.ensures.gives.0 c.requires c.in_err-below.ensures.gives.1))

pub group-returns-in_err-first-clause-tree : goal.group-returns-in_err-first-clause-tree
group-returns-in_err-first-clause-tree t c =
    let p = err_from_is_err_and c.from_residual-in_err-first.result c.from_residual-in_err-first.ensures.1 in
    let e = c.in_err-first.field-0.0 in
    let b = c.in_ok-below.below in
    let u = c.args.inside.now in
    let failed = fails_along e (inside_at group_level b u) _ (group_is b u) (optional_first_fails (symbol symbols.Comma) (expr_at b) (expr_at b) u e c.in_err-first.ensures) in
    rw (p.1, p.2) (group_fails c.args.depth_left c.args.at c.args.words.now u e c.requires (level_inside_fails group_level c.args.depth_left b c.args.at c.args.words.now u e c.in_ok-below.ensures.gives c.requires failed))

pub group-returns-in_err-rest-in-None-clause-tree : goal.group-returns-in_err-rest-in-None-clause-tree
group-returns-in_err-rest-in-None-clause-tree t c =
    let p = err_from_is_err_and c.from_residual-in_err-rest-in-None.result c.from_residual-in_err-rest-in-None.ensures.1 in
    let e = c.in_err-rest-in-None.field-0.0 in
    let b = c.in_ok-below.below in
    let u = c.args.inside.now in
    let got = group_is b u ∙ optional_alone (symbol symbols.Comma) (expr_at b) (expr_at b) u _ c.in_ok-first.end.now c.in_ok-first.ensures c.in-None.ensures in
    rw (p.1, p.2) (group_fails c.args.depth_left c.args.at c.args.words.now u e c.requires (level_end_fails group_level c.args.depth_left b c.args.at c.args.words.now u _ c.in_ok-first.end.now e c.in_ok-below.ensures.gives c.requires got c.in_err-rest-in-None.ensures.gives))

pub group-returns-in_ok-rest-in-None-clause-tree : goal.group-returns-in_ok-rest-in-None-clause-tree
group-returns-in_ok-rest-in-None-clause-tree t c =
    let b = c.in_ok-below.below in
    let u = c.args.inside.now in
    let got = group_is b u ∙ optional_alone (symbol symbols.Comma) (expr_at b) (expr_at b) u _ c.in_ok-first.end.now c.in_ok-first.ensures c.in-None.ensures in
    rw (derivations-Group c.args.at c.in_ok-first.first) (group_got c.args.depth_left b c.args.at c.args.words.now u _ c.in_ok-first.end.now c.in_ok-rest-in-None.rest.now c.in_ok-below.ensures.gives c.requires got c.in_ok-rest-in-None.ensures.gives)

pub group-returns-in_err-second-in-Some-clause-tree : goal.group-returns-in_err-second-in-Some-clause-tree
group-returns-in_err-second-in-Some-clause-tree t c =
    let p = err_from_is_err_and c.from_residual-in_err-second-in-Some.result c.from_residual-in_err-second-in-Some.ensures.1 in
    let e = c.in_err-second-in-Some.field-0.0 in
    let b = c.in_ok-below.below in
    let u = c.args.inside.now in
    let failed = fails_along e (inside_at group_level b u) _ (group_is b u) (optional_second_fails (symbol symbols.Comma) (expr_at b) (expr_at b) u _ c.in_ok-first.end.now (words.Symbol symbols.Comma) c.in-Some.next.now e c.in_ok-first.ensures c.in-Some.ensures refl c.in_err-second-in-Some.ensures) in
    rw (p.1, p.2) (group_fails c.args.depth_left c.args.at c.args.words.now u e c.requires (level_inside_fails group_level c.args.depth_left b c.args.at c.args.words.now u e c.in_ok-below.ensures.gives c.requires failed))

pub group-returns-in_err-rest-in-Some-clause-tree : goal.group-returns-in_err-rest-in-Some-clause-tree
group-returns-in_err-rest-in-Some-clause-tree t c =
    let p = err_from_is_err_and c.from_residual-in_err-rest-in-Some.result c.from_residual-in_err-rest-in-Some.ensures.1 in
    let e = c.in_err-rest-in-Some.field-0.0 in
    let b = c.in_ok-below.below in
    let u = c.args.inside.now in
    let got = group_is b u ∙ optional_pair (symbol symbols.Comma) (expr_at b) (expr_at b) u _ c.in_ok-first.end.now (words.Symbol symbols.Comma) c.in-Some.next.now _ c.in_ok-second-in-Some.end.now c.in_ok-first.ensures c.in-Some.ensures refl c.in_ok-second-in-Some.ensures in
    rw (p.1, p.2) (group_fails c.args.depth_left c.args.at c.args.words.now u e c.requires (level_end_fails group_level c.args.depth_left b c.args.at c.args.words.now u _ c.in_ok-second-in-Some.end.now e c.in_ok-below.ensures.gives c.requires got c.in_err-rest-in-Some.ensures.gives))

pub group-returns-in_ok-rest-in-Some-clause-tree : goal.group-returns-in_ok-rest-in-Some-clause-tree
group-returns-in_ok-rest-in-Some-clause-tree t c =
    let b = c.in_ok-below.below in
    let u = c.args.inside.now in
    let got = group_is b u ∙ optional_pair (symbol symbols.Comma) (expr_at b) (expr_at b) u _ c.in_ok-first.end.now (words.Symbol symbols.Comma) c.in-Some.next.now _ c.in_ok-second-in-Some.end.now c.in_ok-first.ensures c.in-Some.ensures refl c.in_ok-second-in-Some.ensures in
    rw (derivations-Pair c.args.at c.in_ok-first.first c.in_ok-second-in-Some.second) (group_got c.args.depth_left b c.args.at c.args.words.now u _ c.in_ok-second-in-Some.end.now c.in_ok-rest-in-Some.rest.now c.in_ok-below.ensures.gives c.requires got c.in_ok-rest-in-Some.ensures.gives)

-- ---- calls of methods

pub method_call-returns-in_err-below-clause-tree : goal.method_call-returns-in_err-below-clause-tree
method_call-returns-in_err-below-clause-tree t c =
    let p = err_from_is_err_and c.from_residual.result c.from_residual.ensures.1 in
    let e = c.in_err-below.field-0.0 in
    rw (p.1, p.2) (method_call_fails c.args.depth_left c.args.method c.args.words.now c.args.next.now e c.requires (level_unopened two_level c.args.depth_left c.args.next.now e (c.in_err-below.ensures two_level)))

pub method_call-returns-in_err-list-clause-tree : goal.method_call-returns-in_err-list-clause-tree
method_call-returns-in_err-list-clause-tree t c =
    let p = err_from_is_err_and c.from_residual-in_err-list.result c.from_residual-in_err-list.ensures.1 in
    let e = c.in_err-list.field-0.0 in
    let b = c.in_ok-below.below in
    let u = c.in_ok-below.inside.now in
    rw (p.1, p.2) (method_call_fails c.args.depth_left c.args.method c.args.words.now c.args.next.now e c.requires (level_inside_fails two_level c.args.depth_left b c.in_ok-below.open c.args.next.now u e c.in_ok-below.ensures.1 c.in_ok-below.ensures.0 (two_first_fails b u e c.in_err-list.ensures)))

pub method_call-returns-in_err-second-clause-tree : goal.method_call-returns-in_err-second-clause-tree
method_call-returns-in_err-second-clause-tree t c =
    let p = err_from_is_err_and c.from_residual-in_err-second.result c.from_residual-in_err-second.ensures.1 in
    let e = c.in_err-second.field-0.0 in
    let b = c.in_ok-below.below in
    let u = c.in_ok-below.inside.now in
    rw (p.1, p.2) (method_call_fails c.args.depth_left c.args.method c.args.words.now c.args.next.now e c.requires (level_inside_fails two_level c.args.depth_left b c.in_ok-below.open c.args.next.now u e c.in_ok-below.ensures.1 c.in_ok-below.ensures.0 (two_comma_fails b u _ c.in_ok-list.end.now e c.in_ok-list.ensures c.in_err-second.ensures.gives)))

pub method_call-returns-in_err-argument-clause-tree : goal.method_call-returns-in_err-argument-clause-tree
method_call-returns-in_err-argument-clause-tree t c =
    let p = err_from_is_err_and c.from_residual-in_err-argument.result c.from_residual-in_err-argument.ensures.1 in
    let e = c.in_err-argument.field-0.0 in
    let b = c.in_ok-below.below in
    let u = c.in_ok-below.inside.now in
    rw (p.1, p.2) (method_call_fails c.args.depth_left c.args.method c.args.words.now c.args.next.now e c.requires (level_inside_fails two_level c.args.depth_left b c.in_ok-below.open c.args.next.now u e c.in_ok-below.ensures.1 c.in_ok-below.ensures.0 (two_second_fails b u _ c.in_ok-list.end.now c.in_ok-second.second.now e c.in_ok-list.ensures c.in_ok-second.ensures.gives c.in_err-argument.ensures)))

pub method_call-returns-in_err-rest-clause-tree : goal.method_call-returns-in_err-rest-clause-tree
method_call-returns-in_err-rest-clause-tree t c =
    let p = err_from_is_err_and c.from_residual-in_err-rest.result c.from_residual-in_err-rest.ensures.1 in
    let e = c.in_err-rest.field-0.0 in
    let b = c.in_ok-below.below in
    let u = c.in_ok-below.inside.now in
    let got = two_got b u _ c.in_ok-list.end.now c.in_ok-second.second.now _ c.in_ok-argument.end.now c.in_ok-list.ensures c.in_ok-second.ensures.gives c.in_ok-argument.ensures in
    rw (p.1, p.2) (method_call_fails c.args.depth_left c.args.method c.args.words.now c.args.next.now e c.requires (level_end_fails two_level c.args.depth_left b c.in_ok-below.open c.args.next.now u _ c.in_ok-argument.end.now e c.in_ok-below.ensures.1 c.in_ok-below.ensures.0 got c.in_err-rest.ensures.gives))

pub method_call-returns-clause-tree : goal.method_call-returns-clause-tree
method_call-returns-clause-tree t c =
    let b = c.in_ok-below.below in
    let u = c.in_ok-below.inside.now in
    let got = two_got b u _ c.in_ok-list.end.now c.in_ok-second.second.now _ c.in_ok-argument.end.now c.in_ok-list.ensures c.in_ok-second.ensures.gives c.in_ok-argument.ensures in
    rw (derivations-MethodCall c.args.method c.in_ok-below.open c.in_ok-list.list c.in_ok-argument.argument) (method_call_got c.args.depth_left c.in_ok-below.open c.args.method c.args.words.now c.args.next.now _ _ c.in_ok-rest.rest.now c.requires (level_got two_level c.args.depth_left b c.in_ok-below.open c.args.next.now u _ c.in_ok-argument.end.now c.in_ok-rest.rest.now c.in_ok-below.ensures.1 c.in_ok-below.ensures.0 got c.in_ok-rest.ensures.gives))

-- ---- calls

pub call-returns-in-None-clause-tree : goal.call-returns-in-None-clause-tree
call-returns-in-None-clause-tree t c = rw (derivations-Name c.args.name) (named_none c.args.depth_left c.args.name c.args.words.now c.in-None.ensures)

pub call-returns-in_err-arguments-in-Some-clause-tree : goal.call-returns-in_err-arguments-in-Some-clause-tree
call-returns-in_err-arguments-in-Some-clause-tree t c =
    let p = err_from_is_err_and c.from_residual.result c.from_residual.ensures.1 in
    rw (p.1, p.2) (named_fails c.args.depth_left _ c.args.name c.args.words.now _ c.in_err-arguments-in-Some.field-0.0 c.in-Some.ensures c.in_err-arguments-in-Some.ensures)

pub call-returns-in_ok-arguments-in-Some-clause-tree : goal.call-returns-in_ok-arguments-in-Some-clause-tree
call-returns-in_ok-arguments-in-Some-clause-tree t c =
    rw (derivations-Call c.args.name c.in_ok-arguments-in-Some.open c.in_ok-arguments-in-Some.arguments) (named_got c.args.depth_left _ c.args.name c.args.words.now _ _ c.in_ok-arguments-in-Some.rest.now c.in-Some.ensures c.in_ok-arguments-in-Some.ensures)

-- ---- arguments

pub arguments-returns-in_err-below : goal.arguments-returns-in_err-below
arguments-returns-in_err-below t c =
    let p = err_from_is_err_and c.from_residual.result c.from_residual.ensures.1 in
    let e = c.in_err-below.field-0.0 in
    rw (p.1, p.2) (level_unopened arguments_level c.args.depth_left c.args.words.now e (c.in_err-below.ensures arguments_level))

pub arguments-returns-in-Some : goal.arguments-returns-in-Some
arguments-returns-in-Some t c =
    let none : c.new-found.result.items ≡ [] = search rules in
    rw none (arguments_empty c.args.depth_left c.in_ok-below.below c.in_ok-below.open c.args.words.now c.in_ok-below.inside.now c.in-Some.rest.now c.in_ok-below.ensures.1 c.in_ok-below.ensures.0 c.in-Some.ensures)

pub arguments-returns-in_err-first : goal.arguments-returns-in_err-first
arguments-returns-in_err-first t c =
    let p = err_from_is_err_and c.from_residual-in_err-first.result c.from_residual-in_err-first.ensures.1 in
    rw (p.1, p.2) (arguments_fail c.args.depth_left c.in_ok-below.below c.in_ok-below.open c.args.words.now c.in_ok-below.inside.now c.in_err-first.field-0.0 c.in_ok-below.ensures.1 c.in_ok-below.ensures.0 c.in_default.ensures c.in_err-first.ensures)

pub arguments-loop-next-init : goal.arguments-loop-next-init
arguments-loop-next-init t c =
    let pushed : c.push_tight.new.list.items ≡ c.in_ok-first.first ∷ [] = search rules in
    record {
      some = rw pushed (omega arith);
      reading = λ at u is.
          let same : u ≡ c.in_ok-below.inside.now = same_tail (words.Placed at symbols.OpenParenthesis) (words.Placed c.in_ok-below.open symbols.OpenParenthesis) u c.in_ok-below.inside.now c.args.words.now is c.in_ok-below.ensures.0 in
          rw (same, pushed) (arguments_some c.in_ok-below.below c.in_ok-below.inside.now _ c.in_ok-first.rest.now c.in_ok-first.ensures);
    }

pub arguments-returns-in_err-argument : goal.arguments-returns-in_err-argument
arguments-returns-in_err-argument t c =
    let p = err_from_is_err_and c.from_residual-in_err-argument.result c.from_residual-in_err-argument.ensures.1 in
    let b = c.in_ok-below.below in
    let e = c.in_err-argument.field-0.0 in
    let failed = links_fail (symbol symbols.Comma) (expr_at b) (comma_turns b) (listed_tree (expr_trees c.loop-next.found.items)) c.loop-next.rest.now (words.Symbol symbols.Comma) c.in-Some-after.next.now e c.in-Some-after.ensures refl c.in_err-argument.ensures in
    rw (p.1, p.2) (level_inside_fails arguments_level c.args.depth_left b c.in_ok-below.open c.args.words.now c.in_ok-below.inside.now e c.in_ok-below.ensures.1 c.in_ok-below.ensures.0 (fails_along e _ _ (c.loop-next.invariant.reading c.in_ok-below.open c.in_ok-below.inside.now c.in_ok-below.ensures.0) (fails_then e _ (λ a rest. Parsed (Left a) rest) failed)))

pub arguments-loop-next-smaller : goal.arguments-loop-next-smaller
arguments-loop-next-smaller t c = omega (arith, expr_shorter c.in_ok-below.below c.in-Some-after.next.now _ c.in_ok-argument.end.now c.in_ok-argument.ensures, ap (λ (ws : List Word). length ws) c.in-Some-after.ensures)

pub arguments-loop-next-preserved : goal.arguments-loop-next-preserved
arguments-loop-next-preserved t c =
    let b = c.in_ok-below.below in
    let es = c.loop-next.found.items in
    let e = c.in_ok-argument.argument in
    let end = c.in_ok-argument.end.now in
    let pushed : c.push_tight-in-Some-after.new.list.items ≡ es ++ e ∷ [] = search rules in
    let turn = links_more (symbol symbols.Comma) (expr_at b) (comma_turns b) (listed_tree (expr_trees es)) c.loop-next.rest.now (words.Symbol symbols.Comma) c.in-Some-after.next.now (derivations e).expr end c.in-Some-after.ensures refl c.in_ok-argument.ensures in
    let listed = turn ∙ ap (λ (x : ParseTree). links (symbol symbols.Comma) (expr_at b) x end) (sym (one_more_expr es e c.loop-next.invariant.some)) in
    record {
      some = rw pushed (omega (arith, length-append es (e ∷ [])));
      reading = λ at u is. rw pushed (c.loop-next.invariant.reading at u is ∙ ap (λ (x : Read). and_then x (λ a rest. Parsed (Left a) rest)) listed);
    }

pub arguments-returns-in_err-rest : goal.arguments-returns-in_err-rest
arguments-returns-in_err-rest t c =
    let p = err_from_is_err_and c.from_residual-in_err-rest.result c.from_residual-in_err-rest.ensures.1 in
    let b = c.in_ok-below.below in
    let ended = links_end (symbol symbols.Comma) (expr_at b) (comma_turns b) (listed_tree (expr_trees c.loop-next.found.items)) c.loop-next.rest.now c.in_default-after.ensures in
    let got = c.loop-next.invariant.reading c.in_ok-below.open c.in_ok-below.inside.now c.in_ok-below.ensures.0 ∙ ap (λ (x : Read). and_then x (λ a rest. Parsed (Left a) rest)) ended in
    rw (p.1, p.2) (level_end_fails arguments_level c.args.depth_left b c.in_ok-below.open c.args.words.now c.in_ok-below.inside.now (Left (listed_tree (expr_trees c.loop-next.found.items))) c.loop-next.rest.now c.in_err-rest.field-0.0 c.in_ok-below.ensures.1 c.in_ok-below.ensures.0 got c.in_err-rest.ensures.gives)

pub arguments-returns : goal.arguments-returns
arguments-returns t c =
    let b = c.in_ok-below.below in
    let es = c.loop-next.found.items in
    let ended = links_end (symbol symbols.Comma) (expr_at b) (comma_turns b) (listed_tree (expr_trees es)) c.loop-next.rest.now c.in_default-after.ensures in
    let got = c.loop-next.invariant.reading c.in_ok-below.open c.in_ok-below.inside.now c.in_ok-below.ensures.0 ∙ ap (λ (x : Read). and_then x (λ a rest. Parsed (Left a) rest)) ended in
    rw (arguments_listed es c.loop-next.invariant.some) (level_got arguments_level c.args.depth_left b c.in_ok-below.open c.args.words.now c.in_ok-below.inside.now (Left (listed_tree (expr_trees es))) c.loop-next.rest.now c.in_ok-rest.rest.now c.in_ok-below.ensures.1 c.in_ok-below.ensures.0 got c.in_ok-rest.ensures.gives)

-- ---- primary expressions

pub primary-returns-in-Some-clause-tree : goal.primary-returns-in-Some-clause-tree
primary-returns-in-Some-clause-tree t c = rw (derivations-Atom c.in-Some.atom) (primary_atom c.args.depth_left c.args.words.now c.in-Some.atom c.in-Some.rest.now c.in-Some.ensures)

pub primary-returns-in-Some-next_name-clause-tree : goal.primary-returns-in-Some-next_name-clause-tree
primary-returns-in-Some-next_name-clause-tree t c = gives_along (λ e. (derivations e).primary) c.call.result (primary_at c.args.depth_left c.args.words.now) (named_at c.args.depth_left c.in-Some-next_name.name c.in-Some-next_name.rest.now) (primary_named c.args.depth_left c.args.words.now c.in-Some-next_name.name c.in-Some-next_name.rest.now c.in-Some-next_name.ensures) c.call.ensures.tree

pub primary-returns-in-None-clause-tree : goal.primary-returns-in-None-clause-tree
primary-returns-in-None-clause-tree t c = primary_bad c.args.depth_left c.args.words.now c.in_default.ensures c.in_default-next_name.ensures c.in_default-after_placed.ensures c.in_default-after_placed-2.ensures c.in_default-after_placed-3.ensures c.in_default-after_placed-4.ensures c.in-None.ensures
