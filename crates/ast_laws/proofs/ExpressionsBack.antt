-- Expressions: back from their trees, and the trees that they are of.
use Rattle.std.proofs.Common.{◌≡◌, List, [], ◌∷◌, map, refl, sym as flip, ap, subst, ◌∙◌}
use Rattle.conf_lex.specs.declared.word.Word.{Word}
use Rattle.conf_lex.specs.declared.word.Word.TheVariants as words
use Rattle.conf_lex.specs.declared.symbol.Symbol.TheVariants as sym
use Rattle.conf_lex.specs.Grammar.{Terminal, Seq, Repeat, ParseTree, Leaf, NoWords, Pair, Left, Right, Single, Snoc, Deeper, DerivesLongest}
use Rattle.conf_lex.specs.Leaves.{symbol_leaf}
use Rattle.conf_ast.specs.declared.filters.Access.{Access}
use Rattle.conf_ast.specs.declared.filters.Access.TheVariants as accesses
use Rattle.conf_ast.specs.declared.attribute.Attribute.{Attribute}
use Rattle.conf_ast.specs.declared.filters.CompareOp.{CompareOp}
use Rattle.conf_ast.specs.declared.filters.Item.{Item}
use Rattle.conf_ast.specs.declared.filters.MaskItem.{MaskItem}
use Rattle.conf_ast.specs.declared.filters.Method.{Method}
use Rattle.conf_ast.specs.declared.filters.Property.{Property}
use Rattle.conf_ast.specs.declared.filters.Atom.{Atom}
use Rattle.conf_ast.specs.declared.filters.MulOp.{MulOp}
use Rattle.conf_ast.specs.declared.filters.AddOp.{AddOp}
use Rattle.conf_ast.specs.declared.filters.LogicalOp.{LogicalOp}
use Rattle.conf_ast.specs.declared.filters.Expr.{Expr, fold-Expr}
use Rattle.conf_ast.specs.declared.filters.Expr.TheOpen.{Expr-F}
use Rattle.conf_ast.specs.declared.filters.Expr.TheViews.{roll-Expr}
use Rattle.conf_ast.specs.declared.filters.Expr.TheFolds.{map-Expr, fold-roll-Expr, ind-Expr}
use Rattle.conf_ast.specs.declared.filters.Expr.TheShapes.{former-Expr-Postfix-1-at-4}
use Rattle.expr_syntax.specs.Syntax.{rule, primary, postfix, unary, product, sum, comparison, expr, listed, optional}
use Rattle.expr_syntax.specs.Levels.{Form}
use Rattle.expr_syntax.specs.Syntax as forms
use Rattle.expr_syntax.specs.View.{Derivations, derivations, derivations_step, as_primary, as_postfix, as_unary, as_product, as_sum, as_comparison, as_expr, chain_of, parts_after, listed_after, arguments_tree, listed_tree, access_part, mul_op_part, add_op_part, logical_op_part, property_tree, method_tree, mul_op_symbol, add_op_symbol, logical_op_symbol, alone, atom_tree, atom_word, named_tree, group_tree, set_tree, mask_tree, defined_tree, method_call_tree, in_parentheses, second_part, compare_op_symbol}
use Rattle.conf_ast.specs.Filters.{Expression, Plain, Named, Called, Grouped, Paired, SetOf, MaskOf, IsDefined, MethodOf, PropertyOf, Changed, Negated, Multiplied, Added, Compared, Joined, Expressions, NoExpressions, AndExpressions, expressions, accessed, multiplied, added, joined, expression_step, expression_of}
use Rattle.ast_laws.proofs.Equations.{two, two_maps, three_maps}
use Rattle.ast_laws.proofs.WordsBack.{place_of, name_from, attribute_from, simple_from, property_from, method_from, mul_op_from, add_op_from, compare_op_from, logical_op_from, attribute_back, simple_back, property_back, method_back, mul_op_back, add_op_back, compare_op_back, logical_op_back}
use Rattle.ast_laws.proofs.ItemsBack.{items_from, mask_from, items_back, mask_back}
use Rattle.expr_syntax.specs.ItemView.{items_tree, mask_items_tree}

-- ---- back from trees

abbrev no_expression : Expression
no_expression = SetOf 0 []

abbrev mutual
  pub expr_from : ParseTree → Expression
  expr_from (Single a) = comparison_from a
  expr_from (Snoc t (Pair (Leaf w) b)) = Joined (expr_from t) (logical_op_from w) (comparison_from b)
  expr_from _ = no_expression

  pub comparison_from : ParseTree → Expression
  comparison_from (Pair a (Right b)) = sum_from a
  comparison_from (Pair a (Left (Pair (Leaf w) b))) = Compared (sum_from a) (compare_op_from w) (sum_from b)
  comparison_from _ = no_expression

  pub sum_from : ParseTree → Expression
  sum_from (Single a) = product_from a
  sum_from (Snoc t (Pair (Leaf w) b)) = Added (sum_from t) (add_op_from w) (product_from b)
  sum_from _ = no_expression

  pub product_from : ParseTree → Expression
  product_from (Single a) = unary_from a
  product_from (Snoc t (Pair (Leaf w) b)) = Multiplied (product_from t) (mul_op_from w) (unary_from b)
  product_from _ = no_expression

  pub unary_from : ParseTree → Expression
  unary_from (Left (Deeper w t)) = Negated (place_of w) (unary_from t)
  unary_from (Right t) = postfix_from t
  unary_from _ = no_expression

  pub postfix_from : ParseTree → Expression
  postfix_from (Single a) = primary_from a
  postfix_from (Snoc t (Pair dot (Left (Leaf w)))) = PropertyOf (postfix_from t) (property_from w)
  postfix_from (Snoc t (Pair dot (Right (Pair (Leaf w) (Pair (Deeper v e) c))))) = Changed (postfix_from t) (method_from w) (place_of v) (expr_from e)
  postfix_from _ = no_expression

  pub primary_from : ParseTree → Expression
  primary_from (Left (Leaf w)) = Plain (simple_from w)
  primary_from (Right (Left (Pair (Leaf w) (Right b)))) = Named (name_from w)
  primary_from (Right (Left (Pair (Leaf w) (Left (Pair (Deeper v t) c))))) = Called (name_from w) (place_of v) (arguments_from t)
  primary_from (Right (Right (Left (Pair (Deeper v (Pair a (Right b))) c)))) = Grouped (place_of v) (expr_from a)
  primary_from (Right (Right (Left (Pair (Deeper v (Pair a (Left (Pair comma b)))) c)))) = Paired (place_of v) (expr_from a) (expr_from b)
  primary_from (Right (Right (Right (Left (Pair (Deeper v t) c))))) = SetOf (place_of v) (items_from t [])
  primary_from (Right (Right (Right (Right (Left (Pair (Pair (Leaf v) t) c)))))) = MaskOf (place_of v) (mask_from t [])
  primary_from (Right (Right (Right (Right (Right (Left (Pair (Leaf w) (Pair (Deeper v (Leaf u)) c)))))))) = IsDefined (place_of w) (place_of v) (place_of u) (attribute_from u)
  primary_from (Right (Right (Right (Right (Right (Right (Pair (Leaf w) (Pair (Deeper v (Pair a (Pair comma b))) c)))))))) = MethodOf (method_from w) (place_of v) (expr_from a) (expr_from b)
  primary_from _ = no_expression

  pub arguments_from : ParseTree → Expressions
  arguments_from (Left t) = listed_from t NoExpressions
  arguments_from _ = NoExpressions

  -- the expressions of a chain, before others
  pub listed_from : ParseTree → Expressions → Expressions
  listed_from (Single a) more = AndExpressions (expr_from a) more
  listed_from (Snoc t (Pair comma b)) more = listed_from t (AndExpressions (expr_from b) more)
  listed_from _ more = more

-- ---- the trees of an expression

abbrev mutual
  pub seen : Expression → Derivations
  seen (Plain s) = as_primary (atom_tree (atom_word s))
  seen (Named n) = as_primary (named_tree n (Right NoWords))
  seen (Called n place es) = as_primary (named_tree n (Left (in_parentheses place (arguments_tree (all_seen es)))))
  seen (Grouped at e) = as_primary (group_tree at (alone (seen e).expr))
  seen (Paired at a b) = as_primary (group_tree at (Pair (seen a).expr (Left (second_part (seen b).expr))))
  seen (SetOf at items) = as_primary (set_tree at (items_tree items))
  seen (MaskOf at items) = as_primary (mask_tree at (mask_items_tree items))
  seen (IsDefined at place attribute_at a) = as_primary (defined_tree at place (words.Attribute attribute_at a))
  seen (MethodOf m place a b) = as_primary (method_call_tree m place (seen a).expr (seen b).expr)
  seen (PropertyOf a p) = as_postfix (Snoc (seen a).postfix (Pair (symbol_leaf sym.Dot) (property_tree p)))
  seen (Changed a m place e) = as_postfix (Snoc (seen a).postfix (Pair (symbol_leaf sym.Dot) (Right (method_tree m place (seen e).expr))))
  seen (Negated at e) = as_unary (Left (Deeper (words.Placed at sym.Not) (seen e).unary))
  seen (Multiplied a f b) = as_product (Snoc (seen a).product (Pair (symbol_leaf (mul_op_symbol f)) (seen b).unary))
  seen (Added a t b) = as_sum (Snoc (seen a).sum (Pair (symbol_leaf (add_op_symbol t)) (seen b).product))
  seen (Compared a op b) = as_comparison (Pair (seen a).sum (Left (Pair (symbol_leaf (compare_op_symbol op)) (seen b).sum)))
  seen (Joined a j b) = as_expr (Snoc (seen a).expr (Pair (symbol_leaf (logical_op_symbol j)) (seen b).comparison))

  pub all_seen : Expressions → List ParseTree
  all_seen NoExpressions = []
  all_seen (AndExpressions e es) = (seen e).expr ∷ all_seen es

-- ---- an expression as each form that it is

-- It comes back from its tree as a form that fits, and then it has all trees that its value has.
record Back (s : Derivations) (x : Expression) : Type 0 where
  pub primary_back : DerivesLongest rule s.primary primary → primary_from s.primary ≡ x
  pub postfix_back : DerivesLongest rule s.postfix postfix → postfix_from s.postfix ≡ x
  pub unary_back : DerivesLongest rule s.unary unary → unary_from s.unary ≡ x
  pub product_back : DerivesLongest rule s.product product → product_from s.product ≡ x
  pub sum_back : DerivesLongest rule s.sum sum → sum_from s.sum ≡ x
  pub comparison_back : DerivesLongest rule s.comparison comparison → comparison_from s.comparison ≡ x
  pub expr_back : DerivesLongest rule s.expr expr → expr_from s.expr ≡ x
  pub primary_again : DerivesLongest rule s.primary primary → seen x ≡ s
  pub postfix_again : DerivesLongest rule s.postfix postfix → seen x ≡ s
  pub unary_again : DerivesLongest rule s.unary unary → seen x ≡ s
  pub product_again : DerivesLongest rule s.product product → seen x ≡ s
  pub sum_again : DerivesLongest rule s.sum sum → seen x ≡ s
  pub comparison_again : DerivesLongest rule s.comparison comparison → seen x ≡ s
  pub expr_again : DerivesLongest rule s.expr expr → seen x ≡ s
  pub primary_lift : DerivesLongest rule s.primary primary → s.postfix ≡ Single s.primary
  pub unary_lift : DerivesLongest rule s.unary unary → s.product ≡ Single s.unary
  pub product_lift : DerivesLongest rule s.product product → s.sum ≡ Single s.product
  pub comparison_lift : DerivesLongest rule s.comparison comparison → s.expr ≡ Single s.comparison

back_primary : (t : ParseTree) (x : Expression) → (DerivesLongest rule t primary → primary_from t ≡ x) → (DerivesLongest rule t primary → seen x ≡ as_primary t) → Back (as_primary t) x
back_primary t x h g = record { primary_back = h; postfix_back = h; unary_back = h; product_back = h; sum_back = h; comparison_back = λ f. h f.0; expr_back = λ f. h f.0; primary_again = g; postfix_again = g; unary_again = g; product_again = g; sum_again = g; comparison_again = λ f. g f.0; expr_again = λ f. g f.0; primary_lift = λ f. refl; unary_lift = λ f. refl; product_lift = λ f. refl; comparison_lift = λ f. refl }

back_postfix : (t : ParseTree) (x : Expression) → (DerivesLongest rule t postfix → postfix_from t ≡ x) → (DerivesLongest rule t postfix → seen x ≡ as_postfix t) → Back (as_postfix t) x
back_postfix t x h g = record { primary_back = λ f. absurd f; postfix_back = h; unary_back = h; product_back = h; sum_back = h; comparison_back = λ f. h f.0; expr_back = λ f. h f.0; primary_again = λ f. absurd f; postfix_again = g; unary_again = g; product_again = g; sum_again = g; comparison_again = λ f. g f.0; expr_again = λ f. g f.0; primary_lift = λ f. absurd f; unary_lift = λ f. refl; product_lift = λ f. refl; comparison_lift = λ f. refl }

back_unary : (t : ParseTree) (x : Expression) → (DerivesLongest rule t unary → unary_from t ≡ x) → (DerivesLongest rule t unary → seen x ≡ as_unary t) → Back (as_unary t) x
back_unary t x h g = record { primary_back = λ f. absurd f; postfix_back = λ f. absurd f; unary_back = h; product_back = h; sum_back = h; comparison_back = λ f. h f.0; expr_back = λ f. h f.0; primary_again = λ f. absurd f; postfix_again = λ f. absurd f; unary_again = g; product_again = g; sum_again = g; comparison_again = λ f. g f.0; expr_again = λ f. g f.0; primary_lift = λ f. absurd f; unary_lift = λ f. refl; product_lift = λ f. refl; comparison_lift = λ f. refl }

back_product : (t : ParseTree) (x : Expression) → (DerivesLongest rule t product → product_from t ≡ x) → (DerivesLongest rule t product → seen x ≡ as_product t) → Back (as_product t) x
back_product t x h g = record { primary_back = λ f. absurd f; postfix_back = λ f. absurd f; unary_back = λ f. absurd f; product_back = h; sum_back = h; comparison_back = λ f. h f.0; expr_back = λ f. h f.0; primary_again = λ f. absurd f; postfix_again = λ f. absurd f; unary_again = λ f. absurd f; product_again = g; sum_again = g; comparison_again = λ f. g f.0; expr_again = λ f. g f.0; primary_lift = λ f. absurd f; unary_lift = λ f. absurd f; product_lift = λ f. refl; comparison_lift = λ f. refl }

back_sum : (t : ParseTree) (x : Expression) → (DerivesLongest rule t sum → sum_from t ≡ x) → (DerivesLongest rule t sum → seen x ≡ as_sum t) → Back (as_sum t) x
back_sum t x h g = record { primary_back = λ f. absurd f; postfix_back = λ f. absurd f; unary_back = λ f. absurd f; product_back = λ f. absurd f; sum_back = h; comparison_back = λ f. h f.0; expr_back = λ f. h f.0; primary_again = λ f. absurd f; postfix_again = λ f. absurd f; unary_again = λ f. absurd f; product_again = λ f. absurd f; sum_again = g; comparison_again = λ f. g f.0; expr_again = λ f. g f.0; primary_lift = λ f. absurd f; unary_lift = λ f. absurd f; product_lift = λ f. absurd f; comparison_lift = λ f. refl }

back_comparison : (t : ParseTree) (x : Expression) → (DerivesLongest rule t comparison → comparison_from t ≡ x) → (DerivesLongest rule t comparison → seen x ≡ as_comparison t) → Back (as_comparison t) x
back_comparison t x h g = record { primary_back = λ f. absurd f; postfix_back = λ f. absurd f; unary_back = λ f. absurd f; product_back = λ f. absurd f; sum_back = λ f. absurd f; comparison_back = h; expr_back = h; primary_again = λ f. absurd f; postfix_again = λ f. absurd f; unary_again = λ f. absurd f; product_again = λ f. absurd f; sum_again = λ f. absurd f; comparison_again = g; expr_again = g; primary_lift = λ f. absurd f; unary_lift = λ f. absurd f; product_lift = λ f. absurd f; comparison_lift = λ f. refl }

back_expr : (t : ParseTree) (x : Expression) → (DerivesLongest rule t expr → expr_from t ≡ x) → (DerivesLongest rule t expr → seen x ≡ as_expr t) → Back (as_expr t) x
back_expr t x h g = record { primary_back = λ f. absurd f; postfix_back = λ f. absurd f; unary_back = λ f. absurd f; product_back = λ f. absurd f; sum_back = λ f. absurd f; comparison_back = λ f. absurd f; expr_back = h; primary_again = λ f. absurd f; postfix_again = λ f. absurd f; unary_again = λ f. absurd f; product_again = λ f. absurd f; sum_again = λ f. absurd f; comparison_again = λ f. absurd f; expr_again = g; primary_lift = λ f. absurd f; unary_lift = λ f. absurd f; product_lift = λ f. absurd f; comparison_lift = λ f. absurd f }

-- what is known of each part
abbrev Known : Type 0
Known = (e : Expr) × Back (derivations e) (expression_of e)

-- ---- chains

abbrev join_all : {X : Type 0} → (Expression → X → Expression) → Expression → List X → Expression
join_all join a [] = a
join_all join a (x ∷ xs) = join_all join (join a x) xs

module _ {X : Type 0} (part : X → Word × ParseTree) (f g : Form) (from : ParseTree → Expression) (join : Expression → X → Expression) (turn : (t : ParseTree) (x : X) → DerivesLongest rule (Pair (Leaf (part x).0) (part x).1) g → from (Snoc t (Pair (Leaf (part x).0) (part x).1)) ≡ join (from t) x) where
  chain_back : (xs : List X) (t : ParseTree) (a : Expression) → (DerivesLongest rule t (Repeat f g) → from t ≡ a) → DerivesLongest rule (parts_after t (map part xs)) (Repeat f g) → from (parts_after t (map part xs)) ≡ join_all join a xs
  chain_back [] t a first h = first h
  chain_back (x ∷ xs) t a first h = chain_back xs (Snoc t (Pair (Leaf (part x).0) (part x).1)) (join a x) (λ k. turn t x k.1 ∙ ap (λ (u : Expression). join u x) (first k.0)) h

module _ {X : Type 0} (part : X → Word × ParseTree) (f g : Form) (as_form : ParseTree → Derivations) (form : Derivations → ParseTree) (is : (t : ParseTree) → form (as_form t) ≡ t) (join : Expression → X → Expression) (turn : (a : Expression) (t : ParseTree) (x : X) → form (seen a) ≡ t → DerivesLongest rule (Pair (Leaf (part x).0) (part x).1) g → seen (join a x) ≡ as_form (Snoc t (Pair (Leaf (part x).0) (part x).1))) where
  later_again : (xs : List X) (t : ParseTree) (a : Expression) → (DerivesLongest rule t (Repeat f g) → seen a ≡ as_form t) → DerivesLongest rule (parts_after t (map part xs)) (Repeat f g) → seen (join_all join a xs) ≡ as_form (parts_after t (map part xs))
  later_again [] t a first h = first h
  later_again (x ∷ xs) t a first h = later_again xs (Snoc t (Pair (Leaf (part x).0) (part x).1)) (join a x) (λ k. turn a t x (ap (λ (s : Derivations). form s) (first k.0) ∙ is t) k.1) h

  chain_again : (x : X) (xs : List X) (t : ParseTree) (a : Expression) → (DerivesLongest rule t (Repeat f g) → form (seen a) ≡ t) → DerivesLongest rule (parts_after t (map part (x ∷ xs))) (Repeat f g) → seen (join_all join a (x ∷ xs)) ≡ as_form (parts_after t (map part (x ∷ xs)))
  chain_again x xs t a first h = later_again xs (Snoc t (Pair (Leaf (part x).0) (part x).1)) (join a x) (λ k. turn a t x (first k.0) k.1) h

-- ---- products, sums and what joins comparisons

abbrev mul_op_known : MulOp × Known → Word × ParseTree
mul_op_known x = (words.Symbol (mul_op_symbol x.0), (derivations x.1.0).unary)

abbrev mul_op_value : MulOp × Known → MulOp × Expression
mul_op_value x = (x.0, expression_of x.1.0)

abbrev mul_op_join : Expression → MulOp × Known → Expression
mul_op_join a x = Multiplied a x.0 (expression_of x.1.0)

mul_op_turn : (t : ParseTree) (x : MulOp × Known) → DerivesLongest rule (Pair (Leaf (mul_op_known x).0) (mul_op_known x).1) (Seq (Terminal forms.is_mul_op) unary) → product_from (Snoc t (Pair (Leaf (mul_op_known x).0) (mul_op_known x).1)) ≡ mul_op_join (product_from t) x
mul_op_turn t x h = ap (λ (f : MulOp). Multiplied (product_from t) f (unary_from (derivations x.1.0).unary)) (mul_op_back x.0) ∙ ap (λ (b : Expression). Multiplied (product_from t) x.0 b) (x.1.1.unary_back h.1)

mul_op_turn_again : (a : Expression) (t : ParseTree) (x : MulOp × Known) → (seen a).product ≡ t → DerivesLongest rule (Pair (Leaf (mul_op_known x).0) (mul_op_known x).1) (Seq (Terminal forms.is_mul_op) unary) → seen (mul_op_join a x) ≡ as_product (Snoc t (Pair (Leaf (mul_op_known x).0) (mul_op_known x).1))
mul_op_turn_again a t x is h = two (λ (u : ParseTree) (s : Derivations). as_product (Snoc u (Pair (symbol_leaf (mul_op_symbol x.0)) s.unary))) _ _ _ _ is (x.1.1.unary_again h.1)

mul_op_all : (a : Expression) (xs : List (MulOp × Known)) → join_all mul_op_join a xs ≡ multiplied a (map mul_op_value xs)
mul_op_all a [] = refl
mul_op_all a (x ∷ xs) = mul_op_all (mul_op_join a x) xs

product_by : (e : Known) (xs : List (MulOp × Known)) → Back (as_product (chain_of (Single (derivations e.0).unary) (map mul_op_known xs))) (multiplied (expression_of e.0) (map mul_op_value xs))
product_by e [] = back_product NoWords _ (λ f. absurd f) (λ f. absurd f)
product_by e (x ∷ xs) = back_product _ _ (λ f. chain_back mul_op_known unary (Seq (Terminal forms.is_mul_op) unary) product_from mul_op_join mul_op_turn (x ∷ xs) (Single (derivations e.0).unary) (expression_of e.0) (λ h. e.1.unary_back h) f ∙ mul_op_all (expression_of e.0) (x ∷ xs))
    (λ f. ap (λ (v : Expression). seen v) (flip (mul_op_all (expression_of e.0) (x ∷ xs))) ∙ chain_again mul_op_known unary (Seq (Terminal forms.is_mul_op) unary) (λ t. as_product t) (λ s. s.product) (λ t. refl) mul_op_join mul_op_turn_again x xs (Single (derivations e.0).unary) (expression_of e.0) (λ h. ap (λ (s : Derivations). s.product) (e.1.unary_again h) ∙ e.1.unary_lift h) f)

product_chain : (e : Known) (xs : List (MulOp × Known)) (parts : List (Word × ParseTree)) (values : List (MulOp × Expression)) → parts ≡ map mul_op_known xs → values ≡ map mul_op_value xs → Back (as_product (chain_of (Single (derivations e.0).unary) parts)) (multiplied (expression_of e.0) values)
product_chain e xs parts values p q = rw (p, q) (product_by e xs)

abbrev add_op_known : AddOp × Known → Word × ParseTree
add_op_known x = (words.Symbol (add_op_symbol x.0), (derivations x.1.0).product)

abbrev add_op_value : AddOp × Known → AddOp × Expression
add_op_value x = (x.0, expression_of x.1.0)

abbrev add_op_join : Expression → AddOp × Known → Expression
add_op_join a x = Added a x.0 (expression_of x.1.0)

add_op_turn : (t : ParseTree) (x : AddOp × Known) → DerivesLongest rule (Pair (Leaf (add_op_known x).0) (add_op_known x).1) (Seq (Terminal forms.is_add_op) product) → sum_from (Snoc t (Pair (Leaf (add_op_known x).0) (add_op_known x).1)) ≡ add_op_join (sum_from t) x
add_op_turn t x h = ap (λ (f : AddOp). Added (sum_from t) f (product_from (derivations x.1.0).product)) (add_op_back x.0) ∙ ap (λ (b : Expression). Added (sum_from t) x.0 b) (x.1.1.product_back h.1)

add_op_turn_again : (a : Expression) (t : ParseTree) (x : AddOp × Known) → (seen a).sum ≡ t → DerivesLongest rule (Pair (Leaf (add_op_known x).0) (add_op_known x).1) (Seq (Terminal forms.is_add_op) product) → seen (add_op_join a x) ≡ as_sum (Snoc t (Pair (Leaf (add_op_known x).0) (add_op_known x).1))
add_op_turn_again a t x is h = two (λ (u : ParseTree) (s : Derivations). as_sum (Snoc u (Pair (symbol_leaf (add_op_symbol x.0)) s.product))) _ _ _ _ is (x.1.1.product_again h.1)

add_op_all : (a : Expression) (xs : List (AddOp × Known)) → join_all add_op_join a xs ≡ added a (map add_op_value xs)
add_op_all a [] = refl
add_op_all a (x ∷ xs) = add_op_all (add_op_join a x) xs

sum_by : (e : Known) (xs : List (AddOp × Known)) → Back (as_sum (chain_of (Single (derivations e.0).product) (map add_op_known xs))) (added (expression_of e.0) (map add_op_value xs))
sum_by e [] = back_sum NoWords _ (λ f. absurd f) (λ f. absurd f)
sum_by e (x ∷ xs) = back_sum _ _ (λ f. chain_back add_op_known product (Seq (Terminal forms.is_add_op) product) sum_from add_op_join add_op_turn (x ∷ xs) (Single (derivations e.0).product) (expression_of e.0) (λ h. e.1.product_back h) f ∙ add_op_all (expression_of e.0) (x ∷ xs))
    (λ f. ap (λ (v : Expression). seen v) (flip (add_op_all (expression_of e.0) (x ∷ xs))) ∙ chain_again add_op_known product (Seq (Terminal forms.is_add_op) product) (λ t. as_sum t) (λ s. s.sum) (λ t. refl) add_op_join add_op_turn_again x xs (Single (derivations e.0).product) (expression_of e.0) (λ h. ap (λ (s : Derivations). s.sum) (e.1.product_again h) ∙ e.1.product_lift h) f)

sum_chain : (e : Known) (xs : List (AddOp × Known)) (parts : List (Word × ParseTree)) (values : List (AddOp × Expression)) → parts ≡ map add_op_known xs → values ≡ map add_op_value xs → Back (as_sum (chain_of (Single (derivations e.0).product) parts)) (added (expression_of e.0) values)
sum_chain e xs parts values p q = rw (p, q) (sum_by e xs)

abbrev logical_op_known : LogicalOp × Known → Word × ParseTree
logical_op_known x = (words.Symbol (logical_op_symbol x.0), (derivations x.1.0).comparison)

abbrev logical_op_value : LogicalOp × Known → LogicalOp × Expression
logical_op_value x = (x.0, expression_of x.1.0)

abbrev logical_op_join : Expression → LogicalOp × Known → Expression
logical_op_join a x = Joined a x.0 (expression_of x.1.0)

logical_op_turn : (t : ParseTree) (x : LogicalOp × Known) → DerivesLongest rule (Pair (Leaf (logical_op_known x).0) (logical_op_known x).1) (Seq (Terminal forms.is_logical_op) comparison) → expr_from (Snoc t (Pair (Leaf (logical_op_known x).0) (logical_op_known x).1)) ≡ logical_op_join (expr_from t) x
logical_op_turn t x h = ap (λ (f : LogicalOp). Joined (expr_from t) f (comparison_from (derivations x.1.0).comparison)) (logical_op_back x.0) ∙ ap (λ (b : Expression). Joined (expr_from t) x.0 b) (x.1.1.comparison_back h.1)

logical_op_turn_again : (a : Expression) (t : ParseTree) (x : LogicalOp × Known) → (seen a).expr ≡ t → DerivesLongest rule (Pair (Leaf (logical_op_known x).0) (logical_op_known x).1) (Seq (Terminal forms.is_logical_op) comparison) → seen (logical_op_join a x) ≡ as_expr (Snoc t (Pair (Leaf (logical_op_known x).0) (logical_op_known x).1))
logical_op_turn_again a t x is h = two (λ (u : ParseTree) (s : Derivations). as_expr (Snoc u (Pair (symbol_leaf (logical_op_symbol x.0)) s.comparison))) _ _ _ _ is (x.1.1.comparison_again h.1)

logical_op_all : (a : Expression) (xs : List (LogicalOp × Known)) → join_all logical_op_join a xs ≡ joined a (map logical_op_value xs)
logical_op_all a [] = refl
logical_op_all a (x ∷ xs) = logical_op_all (logical_op_join a x) xs

logical_op_by : (e : Known) (xs : List (LogicalOp × Known)) → Back (as_expr (chain_of (Single (derivations e.0).comparison) (map logical_op_known xs))) (joined (expression_of e.0) (map logical_op_value xs))
logical_op_by e [] = back_expr NoWords _ (λ f. absurd f) (λ f. absurd f)
logical_op_by e (x ∷ xs) = back_expr _ _ (λ f. chain_back logical_op_known comparison (Seq (Terminal forms.is_logical_op) comparison) expr_from logical_op_join logical_op_turn (x ∷ xs) (Single (derivations e.0).comparison) (expression_of e.0) (λ h. e.1.comparison_back h) f ∙ logical_op_all (expression_of e.0) (x ∷ xs))
    (λ f. ap (λ (v : Expression). seen v) (flip (logical_op_all (expression_of e.0) (x ∷ xs))) ∙ chain_again logical_op_known comparison (Seq (Terminal forms.is_logical_op) comparison) (λ t. as_expr t) (λ s. s.expr) (λ t. refl) logical_op_join logical_op_turn_again x xs (Single (derivations e.0).comparison) (expression_of e.0) (λ h. ap (λ (s : Derivations). s.expr) (e.1.comparison_again h) ∙ e.1.comparison_lift h) f)

logical_op_chain : (e : Known) (xs : List (LogicalOp × Known)) (parts : List (Word × ParseTree)) (values : List (LogicalOp × Expression)) → parts ≡ map logical_op_known xs → values ≡ map logical_op_value xs → Back (as_expr (chain_of (Single (derivations e.0).comparison) parts)) (joined (expression_of e.0) values)
logical_op_chain e xs parts values p q = rw (p, q) (logical_op_by e xs)

-- ---- what stands behind dots

abbrev access_known : Access Known → Word × ParseTree
access_known (accesses.Property p) = (words.Symbol sym.Dot, property_tree p)
access_known (accesses.Method m place e) = (words.Symbol sym.Dot, Right (method_tree m place (derivations e.0).expr))

abbrev access_value : Access Known → Access Expression
access_value (accesses.Property p) = accesses.Property p
access_value (accesses.Method m place e) = accesses.Method m place (expression_of e.0)

abbrev access_join : Expression → Access Known → Expression
access_join a (accesses.Property p) = PropertyOf a p
access_join a (accesses.Method m place e) = Changed a m place (expression_of e.0)

access_turn : (t : ParseTree) (x : Access Known) → DerivesLongest rule (Pair (Leaf (access_known x).0) (access_known x).1) forms.access → postfix_from (Snoc t (Pair (Leaf (access_known x).0) (access_known x).1)) ≡ access_join (postfix_from t) x
access_turn t (accesses.Property p) h = ap (λ (q : Property). PropertyOf (postfix_from t) q) (property_back p)
access_turn t (accesses.Method m place e) h = ap (λ (n : Method). Changed (postfix_from t) n place (expr_from (derivations e.0).expr)) (method_back m) ∙ ap (λ (x : Expression). Changed (postfix_from t) m place x) (e.1.expr_back h.1.1.0.1)

access_all : (a : Expression) (xs : List (Access Known)) → join_all access_join a xs ≡ accessed a (map access_value xs)
access_all a [] = refl
access_all a (accesses.Property p ∷ xs) = access_all (PropertyOf a p) xs
access_all a (accesses.Method m place e ∷ xs) = access_all (Changed a m place (expression_of e.0)) xs

access_turn_again : (a : Expression) (t : ParseTree) (x : Access Known) → (seen a).postfix ≡ t → DerivesLongest rule (Pair (Leaf (access_known x).0) (access_known x).1) forms.access → seen (access_join a x) ≡ as_postfix (Snoc t (Pair (Leaf (access_known x).0) (access_known x).1))
access_turn_again a t (accesses.Property p) is h = ap (λ (u : ParseTree). as_postfix (Snoc u (Pair (symbol_leaf sym.Dot) (property_tree p)))) is
access_turn_again a t (accesses.Method m place e) is h = two (λ (u : ParseTree) (s : Derivations). as_postfix (Snoc u (Pair (symbol_leaf sym.Dot) (Right (method_tree m place s.expr))))) _ _ _ _ is (e.1.expr_again h.1.1.0.1)

access_by : (e : Known) (xs : List (Access Known)) → Back (as_postfix (chain_of (Single (derivations e.0).primary) (map access_known xs))) (accessed (expression_of e.0) (map access_value xs))
access_by e [] = back_postfix NoWords _ (λ f. absurd f) (λ f. absurd f)
access_by e (x ∷ xs) = back_postfix _ _ (λ f. chain_back access_known primary forms.access postfix_from access_join access_turn (x ∷ xs) (Single (derivations e.0).primary) (expression_of e.0) (λ h. e.1.primary_back h) f ∙ access_all (expression_of e.0) (x ∷ xs))
    (λ f. ap (λ (v : Expression). seen v) (flip (access_all (expression_of e.0) (x ∷ xs))) ∙ chain_again access_known primary forms.access (λ t. as_postfix t) (λ s. s.postfix) (λ t. refl) access_join access_turn_again x xs (Single (derivations e.0).primary) (expression_of e.0) (λ h. ap (λ (s : Derivations). s.postfix) (e.1.primary_again h) ∙ e.1.primary_lift h) f)

access_chain : (e : Known) (xs : List (Access Known)) (parts : List (Word × ParseTree)) (values : List (Access Expression)) → parts ≡ map access_known xs → values ≡ map access_value xs → Back (as_postfix (chain_of (Single (derivations e.0).primary) parts)) (accessed (expression_of e.0) values)
access_chain e xs parts values p q = rw (p, q) (access_by e xs)

access_seen : (a : Access Known) → access_part ((former-Expr-Postfix-1-at-4).map Expr Derivations (fold-Expr Derivations derivations_step) ((former-Expr-Postfix-1-at-4).map Known Expr (λ p. p.0) a)) ≡ access_known a
access_seen (accesses.Property p) = refl
access_seen (accesses.Method m place e) = refl

access_made : (a : Access Known) → (former-Expr-Postfix-1-at-4).map Expr Expression (fold-Expr Expression expression_step) ((former-Expr-Postfix-1-at-4).map Known Expr (λ p. p.0) a) ≡ access_value a
access_made (accesses.Property p) = refl
access_made (accesses.Method m place e) = refl

-- ---- expressions between commas

abbrev pub ahead : {X : Type 0} → (X → Expression) → List X → Expressions → Expressions
ahead value [] more = more
ahead value (x ∷ xs) more = AndExpressions (value x) (ahead value xs more)

module _ {X : Type 0} (tree : X → ParseTree) (value : X → Expression) (told : (x : X) → DerivesLongest rule (tree x) expr → expr_from (tree x) ≡ value x) where
  after_back : (xs : List X) (t : ParseTree) (done : Expressions → Expressions) → (DerivesLongest rule t (listed expr) → (more : Expressions) → listed_from t more ≡ done more) → DerivesLongest rule (listed_after t (map tree xs)) (listed expr) → (more : Expressions) → listed_from (listed_after t (map tree xs)) more ≡ done (ahead value xs more)
  after_back [] t done first h more = first h more
  after_back (x ∷ xs) t done first h more = after_back xs (Snoc t (Pair (symbol_leaf sym.Comma) (tree x))) (λ m. done (AndExpressions (value x) m)) (λ k m. ap (λ (e : Expression). listed_from t (AndExpressions e m)) (told x k.1.1) ∙ first k.0 (AndExpressions (value x) m)) h more

  pub listed_back : (xs : List X) → DerivesLongest rule (listed_tree (map tree xs)) (listed expr) → listed_from (listed_tree (map tree xs)) NoExpressions ≡ ahead value xs NoExpressions
  listed_back [] h = refl
  listed_back (x ∷ xs) h = after_back xs (Single (tree x)) (λ m. AndExpressions (value x) m) (λ k m. ap (λ (e : Expression). AndExpressions e m) (told x k)) h NoExpressions

  pub arguments_back : (xs : List X) → DerivesLongest rule (arguments_tree (map tree xs)) (optional (listed expr)) → arguments_from (arguments_tree (map tree xs)) ≡ ahead value xs NoExpressions
  arguments_back [] h = refl
  arguments_back (x ∷ xs) h = listed_back (x ∷ xs) h

ahead_made : (ks : List Known) → ahead (λ (k : Known). expression_of k.0) ks NoExpressions ≡ expressions (map (fold-Expr Expression expression_step) (map (λ (k : Known). k.0) ks))
ahead_made [] = refl
ahead_made (k ∷ ks) = ap (λ (es : Expressions). AndExpressions (expression_of k.0) es) (ahead_made ks)

arguments_from_known : (ks : List Known) (ts : List ParseTree) → ts ≡ map (λ (k : Known). (derivations k.0).expr) ks → DerivesLongest rule (arguments_tree ts) (optional (listed expr)) → arguments_from (arguments_tree ts) ≡ expressions (map (fold-Expr Expression expression_step) (map (λ (k : Known). k.0) ks))
arguments_from_known ks ts is h = ap (λ (us : List ParseTree). arguments_from (arguments_tree us)) is ∙ arguments_back (λ k. (derivations k.0).expr) (λ k. expression_of k.0) (λ k f. k.1.expr_back f) ks (subst (λ (us : List ParseTree). DerivesLongest rule (arguments_tree us) (optional (listed expr))) is h) ∙ ahead_made ks

-- their trees, and that what they stand behind fits too
pub record AreSeen (made known : List ParseTree) (t : ParseTree) : Type 0 where
  pub same : made ≡ known
  pub fits : DerivesLongest rule t (listed expr)

abbrev pub made_of : {X : Type 0} → (X → Expression) → List X → Expressions
made_of value [] = NoExpressions
made_of value (x ∷ xs) = AndExpressions (value x) (made_of value xs)

module _ {X : Type 0} (tree : X → ParseTree) (value : X → Expression) (told : (x : X) → DerivesLongest rule (tree x) expr → (seen (value x)).expr ≡ tree x) where
  listed_after_again : (xs : List X) (t : ParseTree) → DerivesLongest rule (listed_after t (map tree xs)) (listed expr) → AreSeen (all_seen (made_of value xs)) (map tree xs) t
  listed_after_again [] t h = record { same = refl; fits = h }
  listed_after_again (x ∷ xs) t h =
      let later = listed_after_again xs (Snoc t (Pair (symbol_leaf sym.Comma) (tree x))) h in
      record { same = two (λ (u : ParseTree) (us : List ParseTree). u ∷ us) _ _ _ _ (told x later.fits.1.1) later.same; fits = later.fits.0 }

  pub listed_again : (xs : List X) → DerivesLongest rule (listed_tree (map tree xs)) (listed expr) → all_seen (made_of value xs) ≡ map tree xs
  listed_again [] h = refl
  listed_again (x ∷ xs) h =
      let later = listed_after_again xs (Single (tree x)) h in
      two (λ (u : ParseTree) (us : List ParseTree). u ∷ us) _ _ _ _ (told x later.fits) later.same

  pub arguments_again : (xs : List X) → DerivesLongest rule (arguments_tree (map tree xs)) (optional (listed expr)) → all_seen (made_of value xs) ≡ map tree xs
  arguments_again [] h = refl
  arguments_again (x ∷ xs) h = listed_again (x ∷ xs) h

made_known : (ks : List Known) → expressions (map (fold-Expr Expression expression_step) (map (λ (k : Known). k.0) ks)) ≡ made_of (λ (k : Known). expression_of k.0) ks
made_known [] = refl
made_known (k ∷ ks) = ap (λ (es : Expressions). AndExpressions (expression_of k.0) es) (made_known ks)

arguments_of_known : (ks : List Known) (ts : List ParseTree) → ts ≡ map (λ (k : Known). (derivations k.0).expr) ks → DerivesLongest rule (arguments_tree ts) (optional (listed expr)) → all_seen (expressions (map (fold-Expr Expression expression_step) (map (λ (k : Known). k.0) ks))) ≡ ts
arguments_of_known ks ts is h = ap (λ (es : Expressions). all_seen es) (made_known ks) ∙ arguments_again (λ k. (derivations k.0).expr) (λ k. expression_of k.0) (λ k f. ap (λ (s : Derivations). s.expr) (k.1.expr_again f)) ks (subst (λ (us : List ParseTree). DerivesLongest rule (arguments_tree us) (optional (listed expr))) is h) ∙ flip is

-- ---- all expressions

abbrev parts : Expr-F Known → Expr-F Expr
parts y = map-Expr Known Expr (λ p. p.0) y

step : (y : Expr-F Known) → Back (derivations_step (map-Expr Expr Derivations (fold-Expr Derivations derivations_step) (parts y))) (expression_step (map-Expr Expr Expression (fold-Expr Expression expression_step) (parts y)))
step (Expr-F.Atom s) = back_primary _ _ (λ f. ap (λ (x : Atom). Plain x) (simple_back s)) (λ f. refl)
step (Expr-F.Name n) = back_primary _ _ (λ f. refl) (λ f. refl)
step (Expr-F.Call n place es) = back_primary _ _ (λ f. ap (λ (x : Expressions). Called n place x) (arguments_from_known es.items _ (three_maps _ _ (λ (s : Derivations). s.expr) (λ (k : Known). (derivations k.0).expr) (λ k. refl) es.items) f.1.0.1)) (λ f. ap (λ (ts : List ParseTree). as_primary (named_tree n (Left (in_parentheses place (arguments_tree ts))))) (arguments_of_known es.items _ (three_maps _ _ (λ (s : Derivations). s.expr) (λ (k : Known). (derivations k.0).expr) (λ k. refl) es.items) f.1.0.1))
step (Expr-F.Group at e) = back_primary _ _ (λ f. ap (λ (x : Expression). Grouped at x) (e.value.1.expr_back f.0.1.0)) (λ f. ap (λ (s : Derivations). as_primary (group_tree at (alone s.expr))) (e.value.1.expr_again f.0.1.0))
step (Expr-F.Pair at a b) = back_primary _ _ (λ f. two (λ x y. Paired at x y) _ _ _ _ (a.value.1.expr_back f.0.1.0) (b.value.1.expr_back f.0.1.1.1)) (λ f. two (λ (s u : Derivations). as_primary (group_tree at (Pair s.expr (Left (second_part u.expr))))) _ _ _ _ (a.value.1.expr_again f.0.1.0) (b.value.1.expr_again f.0.1.1.1))
step (Expr-F.Set at items) = back_primary _ _ (λ f. ap (λ (x : List Item). SetOf at x) (items_back items.items)) (λ f. refl)
step (Expr-F.Mask at items) = back_primary _ _ (λ f. ap (λ (x : List MaskItem). MaskOf at x) (mask_back items.items)) (λ f. refl)
step (Expr-F.Defined at place attribute_at a) = back_primary _ _ (λ f. ap (λ (x : Attribute). IsDefined at place attribute_at x) (attribute_back attribute_at a)) (λ f. refl)
step (Expr-F.MethodCall m place a b) = back_primary _ _ (λ f. ap (λ (n : Method). MethodOf n place (expr_from (derivations a.value.0).expr) (expr_from (derivations b.value.0).expr)) (method_back m) ∙ two (λ x y. MethodOf m place x y) _ _ _ _ (a.value.1.expr_back f.1.0.1.0) (b.value.1.expr_back f.1.0.1.1.1)) (λ f. two (λ (s u : Derivations). as_primary (method_call_tree m place s.expr u.expr)) _ _ _ _ (a.value.1.expr_again f.1.0.1.0) (b.value.1.expr_again f.1.0.1.1.1))
step (Expr-F.Postfix e more) = access_chain e.value more.items _ _ (three_maps _ _ access_part access_known access_seen more.items) (two_maps _ _ access_value access_made more.items)
step (Expr-F.Not at e) = back_unary _ _ (λ f. ap (λ (x : Expression). Negated at x) (e.value.1.unary_back f.1)) (λ f. ap (λ (s : Derivations). as_unary (Left (Deeper (words.Placed at sym.Not) s.unary))) (e.value.1.unary_again f.1))
step (Expr-F.Product e more) = product_chain e.value more.items _ _ (three_maps _ _ mul_op_part mul_op_known (λ x. refl) more.items) (two_maps _ _ mul_op_value (λ x. refl) more.items)
step (Expr-F.Sum e more) = sum_chain e.value more.items _ _ (three_maps _ _ add_op_part add_op_known (λ x. refl) more.items) (two_maps _ _ add_op_value (λ x. refl) more.items)
step (Expr-F.Compare op a b) = back_comparison _ _ (λ f. ap (λ (c : CompareOp). Compared (sum_from (derivations a.value.0).sum) c (sum_from (derivations b.value.0).sum)) (compare_op_back op) ∙ two (λ x y. Compared x op y) _ _ _ _ (a.value.1.sum_back f.0) (b.value.1.sum_back f.1.1)) (λ f. two (λ (s u : Derivations). as_comparison (Pair s.sum (Left (Pair (symbol_leaf (compare_op_symbol op)) u.sum)))) _ _ _ _ (a.value.1.sum_again f.0) (b.value.1.sum_again f.1.1))
step (Expr-F.Logical e more) = logical_op_chain e.value more.items _ _ (three_maps _ _ logical_op_part logical_op_known (λ x. refl) more.items) (two_maps _ _ logical_op_value (λ x. refl) more.items)

back : (e : Expr) → Back (derivations e) (expression_of e)
back = ind-Expr (λ e. Back (derivations e) (expression_of e)) (λ x y is.
    subst (λ (z : Expr-F Expr). Back (derivations (roll-Expr z)) (expression_of (roll-Expr z))) is
    (subst (λ (s : Derivations). Back s (expression_of (roll-Expr (parts y)))) (flip (fold-roll-Expr Derivations derivations_step (parts y)))
    (subst (λ (v : Expression). Back (derivations_step (map-Expr Expr Derivations (fold-Expr Derivations derivations_step) (parts y))) v) (flip (fold-roll-Expr Expression expression_step (parts y))) (step y))))

pub expression_back : (e : Expr) → DerivesLongest rule (derivations e).expr expr → expr_from (derivations e).expr ≡ expression_of e
expression_back e h = (back e).expr_back h

pub one_expression : (c d : Expr) → DerivesLongest rule (derivations c).expr expr → (derivations c).expr ≡ (derivations d).expr → expression_of c ≡ expression_of d
one_expression c d h same = flip (expression_back c h) ∙ ap (λ (t : ParseTree). expr_from t) same ∙ expression_back d (subst (λ (t : ParseTree). DerivesLongest rule t expr) same h)

pub expression_again : (e : Expr) → DerivesLongest rule (derivations e).expr expr → (seen (expression_of e)).expr ≡ (derivations e).expr
expression_again e h = ap (λ (s : Derivations). s.expr) ((back e).expr_again h)

pub one_tree : (c d : Expr) → DerivesLongest rule (derivations c).expr expr → DerivesLongest rule (derivations d).expr expr → expression_of c ≡ expression_of d → (derivations c).expr ≡ (derivations d).expr
one_tree c d h k same = flip (expression_again c h) ∙ ap (λ (x : Expression). (seen x).expr) same ∙ expression_again d k
