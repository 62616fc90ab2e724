-- The places of an expression are those of words of its tree.
use Rattle.std.proofs.Common.{◌≡◌, ℕ, List, [], ◌∷◌, map, refl, sym as flip, ap, subst}
use Rattle.conf_lex.specs.declared.word.Word.{Word}
use Rattle.conf_lex.specs.declared.word.Word.TheVariants as words
use Rattle.conf_lex.specs.declared.symbol.Symbol.TheVariants as sym
use Rattle.conf_lex.specs.Grammar.{Terminal, Seq, Repeat, ParseTree, Leaf, NoWords, Pair, Right, Single, Snoc, DerivesLongest}
use Rattle.conf_lex.specs.Leaves.{symbol_leaf}
use Rattle.conf_ast.specs.declared.filters.Access.{Access}
use Rattle.conf_ast.specs.declared.filters.Access.TheVariants as accesses
use Rattle.conf_ast.specs.declared.filters.MulOp.{MulOp}
use Rattle.conf_ast.specs.declared.filters.AddOp.{AddOp}
use Rattle.conf_ast.specs.declared.filters.LogicalOp.{LogicalOp}
use Rattle.conf_ast.specs.declared.filters.Expr.{Expr, fold-Expr}
use Rattle.conf_ast.specs.declared.filters.Expr.TheOpen.{Expr-F}
use Rattle.conf_ast.specs.declared.filters.Expr.TheViews.{roll-Expr}
use Rattle.conf_ast.specs.declared.filters.Expr.TheFolds.{map-Expr, fold-roll-Expr, ind-Expr}
use Rattle.conf_ast.specs.declared.filters.Expr.TheShapes.{former-Expr-Postfix-1-at-4}
use Rattle.expr_syntax.specs.Syntax.{rule, primary, postfix, unary, product, sum, comparison, expr, listed, optional}
use Rattle.expr_syntax.specs.Levels.{Form}
use Rattle.expr_syntax.specs.Syntax as forms
use Rattle.expr_syntax.specs.View.{Derivations, derivations, derivations_step, as_primary, as_postfix, as_unary, as_product, as_sum, as_comparison, as_expr, chain_of, parts_after, listed_after, arguments_tree, listed_tree, access_part, mul_op_part, add_op_part, logical_op_part, property_tree, method_tree, mul_op_symbol, add_op_symbol, logical_op_symbol}
use Rattle.conf_ast.specs.Filters.{Expression, PropertyOf, Changed, Multiplied, Added, Joined, Expressions, NoExpressions, AndExpressions, expressions, accessed, multiplied, added, joined, expression_step, expression_of}
use Rattle.conf_places.specs.Filters.{of_expression, of_expressions}
use Rattle.conf_places.proofs.Every.{Every, join}
use Rattle.conf_places.proofs.Trees.{On, Before, simple_on, items_on, mask_on}

-- ---- maps one after another

two_maps : {A B C : Type 0} (f : A → B) (g : B → C) (k : A → C) → ((a : A) → g (f a) ≡ k a) → (xs : List A) → map g (map f xs) ≡ map k xs
two_maps f g k same [] = refl
two_maps f g k same (x ∷ xs) = rw (same x, two_maps f g k same xs) refl

pub three_maps : {A B C D : Type 0} (f : A → B) (g : B → C) (h : C → D) (k : A → D) → ((a : A) → h (g (f a)) ≡ k a) → (xs : List A) → map h (map g (map f xs)) ≡ map k xs
three_maps f g h k same [] = refl
three_maps f g h k same (x ∷ xs) = rw (same x, three_maps f g h k same xs) refl

-- ---- an expression as each form that it is

-- Where it fits a form, what holds of the words of that tree holds of the places of the expression.
record Held (P : ℕ → Type 0) (s : Derivations) (x : Expression) : Type 0 where
  pub primary_on : DerivesLongest rule s.primary primary → On P s.primary → Every P (of_expression x)
  pub postfix_on : DerivesLongest rule s.postfix postfix → On P s.postfix → Every P (of_expression x)
  pub unary_on : DerivesLongest rule s.unary unary → On P s.unary → Every P (of_expression x)
  pub product_on : DerivesLongest rule s.product product → On P s.product → Every P (of_expression x)
  pub sum_on : DerivesLongest rule s.sum sum → On P s.sum → Every P (of_expression x)
  pub comparison_on : DerivesLongest rule s.comparison comparison → On P s.comparison → Every P (of_expression x)
  pub expr_on : DerivesLongest rule s.expr expr → On P s.expr → Every P (of_expression x)

module _ (P : ℕ → Type 0) where
  held_primary : (t : ParseTree) (x : Expression) → (DerivesLongest rule t primary → On P t → Every P (of_expression x)) → Held P (as_primary t) x
  held_primary t x h = record { primary_on = h; postfix_on = h; unary_on = h; product_on = h; sum_on = h; comparison_on = λ f o. h f.0 o.0; expr_on = λ f o. h f.0 o.0 }

  held_postfix : (t : ParseTree) (x : Expression) → (DerivesLongest rule t postfix → On P t → Every P (of_expression x)) → Held P (as_postfix t) x
  held_postfix t x h = record { primary_on = λ f o. absurd f; postfix_on = h; unary_on = h; product_on = h; sum_on = h; comparison_on = λ f o. h f.0 o.0; expr_on = λ f o. h f.0 o.0 }

  held_unary : (t : ParseTree) (x : Expression) → (DerivesLongest rule t unary → On P t → Every P (of_expression x)) → Held P (as_unary t) x
  held_unary t x h = record { primary_on = λ f o. absurd f; postfix_on = λ f o. absurd f; unary_on = h; product_on = h; sum_on = h; comparison_on = λ f o. h f.0 o.0; expr_on = λ f o. h f.0 o.0 }

  held_product : (t : ParseTree) (x : Expression) → (DerivesLongest rule t product → On P t → Every P (of_expression x)) → Held P (as_product t) x
  held_product t x h = record { primary_on = λ f o. absurd f; postfix_on = λ f o. absurd f; unary_on = λ f o. absurd f; product_on = h; sum_on = h; comparison_on = λ f o. h f.0 o.0; expr_on = λ f o. h f.0 o.0 }

  held_sum : (t : ParseTree) (x : Expression) → (DerivesLongest rule t sum → On P t → Every P (of_expression x)) → Held P (as_sum t) x
  held_sum t x h = record { primary_on = λ f o. absurd f; postfix_on = λ f o. absurd f; unary_on = λ f o. absurd f; product_on = λ f o. absurd f; sum_on = h; comparison_on = λ f o. h f.0 o.0; expr_on = λ f o. h f.0 o.0 }

  held_comparison : (t : ParseTree) (x : Expression) → (DerivesLongest rule t comparison → On P t → Every P (of_expression x)) → Held P (as_comparison t) x
  held_comparison t x h = record { primary_on = λ f o. absurd f; postfix_on = λ f o. absurd f; unary_on = λ f o. absurd f; product_on = λ f o. absurd f; sum_on = λ f o. absurd f; comparison_on = h; expr_on = h }

  held_expr : (t : ParseTree) (x : Expression) → (DerivesLongest rule t expr → On P t → Every P (of_expression x)) → Held P (as_expr t) x
  held_expr t x h = record { primary_on = λ f o. absurd f; postfix_on = λ f o. absurd f; unary_on = λ f o. absurd f; product_on = λ f o. absurd f; sum_on = λ f o. absurd f; comparison_on = λ f o. absurd f; expr_on = h }

  -- what is known of each part
  abbrev Known : Type 0
  Known = (e : Expr) × Held P (derivations e) (expression_of e)

  -- ---- chains

  abbrev join_all : {X : Type 0} → (Expression → X → Expression) → Expression → List X → Expression
  join_all with a [] = a
  join_all with a (x ∷ xs) = join_all with (with a x) xs

  chain_on : {X : Type 0} (part : X → Word × ParseTree) (f g : Form) (with : Expression → X → Expression) → ((a : Expression) (x : X) → DerivesLongest rule (Pair (Leaf (part x).0) (part x).1) g → On P (part x).1 → Every P (of_expression a) → Every P (of_expression (with a x))) → (xs : List X) (t : ParseTree) (a : Expression) → (DerivesLongest rule t (Repeat f g) → On P t → Every P (of_expression a)) → DerivesLongest rule (parts_after t (map part xs)) (Repeat f g) → On P (parts_after t (map part xs)) → Every P (of_expression (join_all with a xs))
  chain_on part f g with turn [] t a first h o = first h o
  chain_on part f g with turn (x ∷ xs) t a first h o = chain_on part f g with turn xs (Snoc t (Pair (Leaf (part x).0) (part x).1)) (with a x) (λ k p. turn a x k.1 p.1.1 (first k.0 p.0)) h o

  -- ---- products, sums and what joins comparisons

  abbrev mul_op_known : MulOp × Known → Word × ParseTree
  mul_op_known x = (words.Symbol (mul_op_symbol x.0), (derivations x.1.0).unary)

  abbrev mul_op_value : MulOp × Known → MulOp × Expression
  mul_op_value x = (x.0, expression_of x.1.0)

  abbrev mul_op_join : Expression → MulOp × Known → Expression
  mul_op_join a x = Multiplied a x.0 (expression_of x.1.0)

  mul_op_all : (a : Expression) (xs : List (MulOp × Known)) → join_all mul_op_join a xs ≡ multiplied a (map mul_op_value xs)
  mul_op_all a [] = refl
  mul_op_all a (x ∷ xs) = mul_op_all (mul_op_join a x) xs

  product_by : (e : Known) (xs : List (MulOp × Known)) → Held P (as_product (chain_of (Single (derivations e.0).unary) (map mul_op_known xs))) (multiplied (expression_of e.0) (map mul_op_value xs))
  product_by e [] = held_product NoWords _ (λ f o. absurd f)
  product_by e (x ∷ xs) = held_product _ _ (λ f o. subst (λ (v : Expression). Every P (of_expression v)) (mul_op_all (expression_of e.0) (x ∷ xs))
      (chain_on mul_op_known unary (Seq (Terminal forms.is_mul_op) unary) mul_op_join (λ a y k p q. join P (of_expression a) (of_expression (expression_of y.1.0)) q (y.1.1.unary_on k.1 p)) (x ∷ xs) (Single (derivations e.0).unary) (expression_of e.0) (λ k p. e.1.unary_on k p) f o))

  product_chain : (e : Known) (xs : List (MulOp × Known)) (parts : List (Word × ParseTree)) (values : List (MulOp × Expression)) → parts ≡ map mul_op_known xs → values ≡ map mul_op_value xs → Held P (as_product (chain_of (Single (derivations e.0).unary) parts)) (multiplied (expression_of e.0) values)
  product_chain e xs parts values p q = rw (p, q) (product_by e xs)

  abbrev add_op_known : AddOp × Known → Word × ParseTree
  add_op_known x = (words.Symbol (add_op_symbol x.0), (derivations x.1.0).product)

  abbrev add_op_value : AddOp × Known → AddOp × Expression
  add_op_value x = (x.0, expression_of x.1.0)

  abbrev add_op_join : Expression → AddOp × Known → Expression
  add_op_join a x = Added a x.0 (expression_of x.1.0)

  add_op_all : (a : Expression) (xs : List (AddOp × Known)) → join_all add_op_join a xs ≡ added a (map add_op_value xs)
  add_op_all a [] = refl
  add_op_all a (x ∷ xs) = add_op_all (add_op_join a x) xs

  sum_by : (e : Known) (xs : List (AddOp × Known)) → Held P (as_sum (chain_of (Single (derivations e.0).product) (map add_op_known xs))) (added (expression_of e.0) (map add_op_value xs))
  sum_by e [] = held_sum NoWords _ (λ f o. absurd f)
  sum_by e (x ∷ xs) = held_sum _ _ (λ f o. subst (λ (v : Expression). Every P (of_expression v)) (add_op_all (expression_of e.0) (x ∷ xs))
      (chain_on add_op_known product (Seq (Terminal forms.is_add_op) product) add_op_join (λ a y k p q. join P (of_expression a) (of_expression (expression_of y.1.0)) q (y.1.1.product_on k.1 p)) (x ∷ xs) (Single (derivations e.0).product) (expression_of e.0) (λ k p. e.1.product_on k p) f o))

  sum_chain : (e : Known) (xs : List (AddOp × Known)) (parts : List (Word × ParseTree)) (values : List (AddOp × Expression)) → parts ≡ map add_op_known xs → values ≡ map add_op_value xs → Held P (as_sum (chain_of (Single (derivations e.0).product) parts)) (added (expression_of e.0) values)
  sum_chain e xs parts values p q = rw (p, q) (sum_by e xs)

  abbrev logical_op_known : LogicalOp × Known → Word × ParseTree
  logical_op_known x = (words.Symbol (logical_op_symbol x.0), (derivations x.1.0).comparison)

  abbrev logical_op_value : LogicalOp × Known → LogicalOp × Expression
  logical_op_value x = (x.0, expression_of x.1.0)

  abbrev logical_op_join : Expression → LogicalOp × Known → Expression
  logical_op_join a x = Joined a x.0 (expression_of x.1.0)

  logical_op_all : (a : Expression) (xs : List (LogicalOp × Known)) → join_all logical_op_join a xs ≡ joined a (map logical_op_value xs)
  logical_op_all a [] = refl
  logical_op_all a (x ∷ xs) = logical_op_all (logical_op_join a x) xs

  logical_op_by : (e : Known) (xs : List (LogicalOp × Known)) → Held P (as_expr (chain_of (Single (derivations e.0).comparison) (map logical_op_known xs))) (joined (expression_of e.0) (map logical_op_value xs))
  logical_op_by e [] = held_expr NoWords _ (λ f o. absurd f)
  logical_op_by e (x ∷ xs) = held_expr _ _ (λ f o. subst (λ (v : Expression). Every P (of_expression v)) (logical_op_all (expression_of e.0) (x ∷ xs))
      (chain_on logical_op_known comparison (Seq (Terminal forms.is_logical_op) comparison) logical_op_join (λ a y k p q. join P (of_expression a) (of_expression (expression_of y.1.0)) q (y.1.1.comparison_on k.1 p)) (x ∷ xs) (Single (derivations e.0).comparison) (expression_of e.0) (λ k p. e.1.comparison_on k p) f o))

  logical_op_chain : (e : Known) (xs : List (LogicalOp × Known)) (parts : List (Word × ParseTree)) (values : List (LogicalOp × Expression)) → parts ≡ map logical_op_known xs → values ≡ map logical_op_value xs → Held P (as_expr (chain_of (Single (derivations e.0).comparison) parts)) (joined (expression_of e.0) values)
  logical_op_chain e xs parts values p q = rw (p, q) (logical_op_by e xs)

  -- ---- what stands behind dots

  abbrev access_known : Access Known → Word × ParseTree
  access_known (accesses.Property p) = (words.Symbol sym.Dot, property_tree p)
  access_known (accesses.Method m place e) = (words.Symbol sym.Dot, Right (method_tree m place (derivations e.0).expr))

  abbrev access_value : Access Known → Access Expression
  access_value (accesses.Property p) = accesses.Property p
  access_value (accesses.Method m place e) = accesses.Method m place (expression_of e.0)

  abbrev access_join : Expression → Access Known → Expression
  access_join a (accesses.Property p) = PropertyOf a p
  access_join a (accesses.Method m place e) = Changed a m place (expression_of e.0)

  access_turn : (a : Expression) (x : Access Known) → DerivesLongest rule (Pair (Leaf (access_known x).0) (access_known x).1) forms.access → On P (access_known x).1 → Every P (of_expression a) → Every P (of_expression (access_join a x))
  access_turn a (accesses.Property p) k o q = q
  access_turn a (accesses.Method m place e) k o q =
      join P (of_expression a) (m.at ∷ place ∷ of_expression (expression_of e.0)) q (o.0, (o.1.0.0, e.1.expr_on k.1.1.0.1 o.1.0.1))

  access_all : (a : Expression) (xs : List (Access Known)) → join_all access_join a xs ≡ accessed a (map access_value xs)
  access_all a [] = refl
  access_all a (accesses.Property p ∷ xs) = access_all (PropertyOf a p) xs
  access_all a (accesses.Method m place e ∷ xs) = access_all (Changed a m place (expression_of e.0)) xs

  access_by : (e : Known) (xs : List (Access Known)) → Held P (as_postfix (chain_of (Single (derivations e.0).primary) (map access_known xs))) (accessed (expression_of e.0) (map access_value xs))
  access_by e [] = held_postfix NoWords _ (λ f o. absurd f)
  access_by e (x ∷ xs) = held_postfix _ _ (λ f o. subst (λ (v : Expression). Every P (of_expression v)) (access_all (expression_of e.0) (x ∷ xs))
      (chain_on access_known primary forms.access access_join access_turn (x ∷ xs) (Single (derivations e.0).primary) (expression_of e.0) (λ k p. e.1.primary_on k p) f o))

  access_chain : (e : Known) (xs : List (Access Known)) (parts : List (Word × ParseTree)) (values : List (Access Expression)) → parts ≡ map access_known xs → values ≡ map access_value xs → Held P (as_postfix (chain_of (Single (derivations e.0).primary) parts)) (accessed (expression_of e.0) values)
  access_chain e xs parts values p q = rw (p, q) (access_by e xs)

  access_seen : (a : Access Known) → access_part ((former-Expr-Postfix-1-at-4).map Expr Derivations (fold-Expr Derivations derivations_step) ((former-Expr-Postfix-1-at-4).map Known Expr (λ p. p.0) a)) ≡ access_known a
  access_seen (accesses.Property p) = refl
  access_seen (accesses.Method m place e) = refl

  access_made : (a : Access Known) → (former-Expr-Postfix-1-at-4).map Expr Expression (fold-Expr Expression expression_step) ((former-Expr-Postfix-1-at-4).map Known Expr (λ p. p.0) a) ≡ access_value a
  access_made (accesses.Property p) = refl
  access_made (accesses.Method m place e) = refl

  -- ---- expressions between commas

  abbrev pub made_of : {X : Type 0} → (X → Expression) → List X → Expressions
  made_of value [] = NoExpressions
  made_of value (x ∷ xs) = AndExpressions (value x) (made_of value xs)

  after_on : {X : Type 0} (tree : X → ParseTree) (value : X → Expression) → ((x : X) → DerivesLongest rule (tree x) expr → On P (tree x) → Every P (of_expression (value x))) → (xs : List X) (t : ParseTree) → DerivesLongest rule (listed_after t (map tree xs)) (listed expr) → On P (listed_after t (map tree xs)) → Before P t (listed expr) (Every P (of_expressions (made_of value xs)))
  after_on tree value told [] t h o = record { fits = h; on = o; rest = tt }
  after_on tree value told (x ∷ xs) t h o =
      let later = after_on tree value told xs (Snoc t (Pair (symbol_leaf sym.Comma) (tree x))) h o in
      record { fits = later.fits.0; on = later.on.0; rest = join P (of_expression (value x)) (of_expressions (made_of value xs)) (told x later.fits.1.1 later.on.1.1) later.rest }

  pub listed_on : {X : Type 0} (tree : X → ParseTree) (value : X → Expression) → ((x : X) → DerivesLongest rule (tree x) expr → On P (tree x) → Every P (of_expression (value x))) → (xs : List X) → DerivesLongest rule (listed_tree (map tree xs)) (listed expr) → On P (listed_tree (map tree xs)) → Every P (of_expressions (made_of value xs))
  listed_on tree value told [] h o = tt
  listed_on tree value told (x ∷ xs) h o =
      let later = after_on tree value told xs (Single (tree x)) h o in
      join P (of_expression (value x)) (of_expressions (made_of value xs)) (told x later.fits later.on) later.rest

  pub arguments_on : {X : Type 0} (tree : X → ParseTree) (value : X → Expression) → ((x : X) → DerivesLongest rule (tree x) expr → On P (tree x) → Every P (of_expression (value x))) → (xs : List X) → DerivesLongest rule (arguments_tree (map tree xs)) (optional (listed expr)) → On P (arguments_tree (map tree xs)) → Every P (of_expressions (made_of value xs))
  arguments_on tree value told [] h o = tt
  arguments_on tree value told (x ∷ xs) h o = listed_on tree value told (x ∷ xs) h o

  made_known : (ks : List Known) → made_of (λ (k : Known). expression_of k.0) ks ≡ expressions (map (fold-Expr Expression expression_step) (map (λ (k : Known). k.0) ks))
  made_known [] = refl
  made_known (k ∷ ks) = ap (λ (es : Expressions). AndExpressions (expression_of k.0) es) (made_known ks)

  arguments_known : (ks : List Known) (ts : List ParseTree) → map (λ (k : Known). (derivations k.0).expr) ks ≡ ts → DerivesLongest rule (arguments_tree ts) (optional (listed expr)) → On P (arguments_tree ts) → Every P (of_expressions (expressions (map (fold-Expr Expression expression_step) (map (λ (k : Known). k.0) ks))))
  arguments_known ks ts is h o =
      subst (λ (es : Expressions). Every P (of_expressions es)) (made_known ks)
      (arguments_on (λ k. (derivations k.0).expr) (λ k. expression_of k.0) (λ k f p. k.1.expr_on f p) ks
      (subst (λ (us : List ParseTree). DerivesLongest rule (arguments_tree us) (optional (listed expr))) (flip is) h)
      (subst (λ (us : List ParseTree). On P (arguments_tree us)) (flip is) o))

  -- ---- all expressions

  abbrev parts : Expr-F Known → Expr-F Expr
  parts y = map-Expr Known Expr (λ p. p.0) y

  step : (y : Expr-F Known) → Held P (derivations_step (map-Expr Expr Derivations (fold-Expr Derivations derivations_step) (parts y))) (expression_step (map-Expr Expr Expression (fold-Expr Expression expression_step) (parts y)))
  step (Expr-F.Atom s) = held_primary _ _ (λ f o. (simple_on P s o, tt))
  step (Expr-F.Name n) = held_primary _ _ (λ f o. (o.0, tt))
  step (Expr-F.Call n place es) = held_primary _ _ (λ f o. (o.0, (o.1.0.0, arguments_known es.items _ (flip (three_maps _ _ (λ (s : Derivations). s.expr) (λ (k : Known). (derivations k.0).expr) (λ k. refl) es.items)) f.1.0.1 o.1.0.1)))
  step (Expr-F.Group at e) = held_primary _ _ (λ f o. (o.0.0, e.value.1.expr_on f.0.1.0 o.0.1.0))
  step (Expr-F.Pair at a b) = held_primary _ _ (λ f o. (o.0.0, join P (of_expression (expression_of a.value.0)) (of_expression (expression_of b.value.0)) (a.value.1.expr_on f.0.1.0 o.0.1.0) (b.value.1.expr_on f.0.1.1.1 o.0.1.1.1)))
  step (Expr-F.Set at items) = held_primary _ _ (λ f o. (o.0.0, items_on P items.items o.0.1))
  step (Expr-F.Mask at items) = held_primary _ _ (λ f o. (o.0.0, mask_on P items.items o.0.1))
  step (Expr-F.Defined at place attribute_at a) = held_primary _ _ (λ f o. (o.0, (o.1.0.0, (o.1.0.1, tt))))
  step (Expr-F.MethodCall m place a b) = held_primary _ _ (λ f o. (o.0, (o.1.0.0, join P (of_expression (expression_of a.value.0)) (of_expression (expression_of b.value.0)) (a.value.1.expr_on f.1.0.1.0 o.1.0.1.0) (b.value.1.expr_on f.1.0.1.1.1 o.1.0.1.1.1))))
  step (Expr-F.Postfix e more) = access_chain e.value more.items _ _ (three_maps _ _ access_part access_known access_seen more.items) (two_maps _ _ access_value access_made more.items)
  step (Expr-F.Not at e) = held_unary _ _ (λ f o. (o.0, e.value.1.unary_on f.1 o.1))
  step (Expr-F.Product e more) = product_chain e.value more.items _ _ (three_maps _ _ mul_op_part mul_op_known (λ x. refl) more.items) (two_maps _ _ mul_op_value (λ x. refl) more.items)
  step (Expr-F.Sum e more) = sum_chain e.value more.items _ _ (three_maps _ _ add_op_part add_op_known (λ x. refl) more.items) (two_maps _ _ add_op_value (λ x. refl) more.items)
  step (Expr-F.Compare op a b) = held_comparison _ _ (λ f o. join P (of_expression (expression_of a.value.0)) (of_expression (expression_of b.value.0)) (a.value.1.sum_on f.0 o.0) (b.value.1.sum_on f.1.1 o.1.1))
  step (Expr-F.Logical e more) = logical_op_chain e.value more.items _ _ (three_maps _ _ logical_op_part logical_op_known (λ x. refl) more.items) (two_maps _ _ logical_op_value (λ x. refl) more.items)

  held : (e : Expr) → Held P (derivations e) (expression_of e)
  held = ind-Expr (λ e. Held P (derivations e) (expression_of e)) (λ x y is.
      subst (λ (z : Expr-F Expr). Held P (derivations (roll-Expr z)) (expression_of (roll-Expr z))) is
      (subst (λ (s : Derivations). Held P s (expression_of (roll-Expr (parts y)))) (flip (fold-roll-Expr Derivations derivations_step (parts y)))
      (subst (λ (v : Expression). Held P (derivations_step (map-Expr Expr Derivations (fold-Expr Derivations derivations_step) (parts y))) v) (flip (fold-roll-Expr Expression expression_step (parts y))) (step y))))

  pub expression_on : (e : Expr) → DerivesLongest rule (derivations e).expr expr → On P (derivations e).expr → Every P (of_expression (expression_of e))
  expression_on e h o = (held e).expr_on h o
