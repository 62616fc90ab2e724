-- The trees of an expression, by its variants and by the forms that it is.
use Rattle.std.proofs.Common.{◌≡◌, ℕ, suc, ◌≤◌, List, [], ◌∷◌, ◌++◌, length, map, refl, sym, ap, subst, ◌∙◌, arith, rules, Box, Vec, IfOk, Result, Ok, Err}
use Rattle.std.specs.declared.alloc.Global.{Global}
use Rattle.std.specs.Borrow.{Bor}
use Rattle.conf_lex.specs.declared.symbol.Symbol.TheVariants as symbols
use Rattle.conf_lex.specs.declared.word.Word.{Word}
use Rattle.conf_lex.specs.declared.word.Word.TheVariants as words
use Rattle.conf_ast.specs.declared.named.Name.{Name}
use Rattle.conf_lex.specs.declared.refusal.Refusal.{Refusal}
use Rattle.conf_lex.specs.Grammar.{ParseTree, Leaf, NoWords, Pair, Left, Right, Single, Snoc, Deeper}
use Rattle.conf_lex.specs.Reading.{Read, Parsed, and_then}
use Rattle.conf_lex.specs.Leaves.{symbol_leaf}
use Rattle.conf_lex.specs.Agrees.{Agrees}
use Rattle.conf_lex.proofs.PartShapes.{fails_then, fails_along}
use Rattle.conf_ast.specs.declared.filters.Atom.{Atom}
use Rattle.conf_ast.specs.declared.attribute.Attribute.{Attribute}
use Rattle.conf_ast.specs.declared.filters.Item.{Item}
use Rattle.conf_ast.specs.declared.filters.MaskItem.{MaskItem}
use Rattle.conf_ast.specs.declared.filters.Method.{Method}
use Rattle.conf_ast.specs.declared.filters.Access.{Access}
use Rattle.conf_ast.specs.declared.filters.Access.TheVariants as accesses
use Rattle.conf_ast.specs.declared.filters.MulOp.{MulOp}
use Rattle.conf_ast.specs.declared.filters.AddOp.{AddOp}
use Rattle.conf_ast.specs.declared.filters.CompareOp.{CompareOp}
use Rattle.conf_ast.specs.declared.filters.LogicalOp.{LogicalOp}
use Rattle.conf_ast.specs.declared.filters.Expr.{Expr, the_lemmas, fold-Expr}
use Rattle.conf_ast.specs.declared.filters.Expr.TheVariants as exprs
use Rattle.conf_ast.specs.declared.filters.Expr.TheFolds.{fold_out-Expr}
use Rattle.conf_ast.specs.declared.filters.Expr.TheShapes.{former-Expr-Postfix-1-at-4}
use Rattle.conf_ast.specs.declared.filters.Expr.TheOpen.{Expr-F}
use Rattle.expr_syntax.specs.ItemView.{items_tree, mask_items_tree}
use Rattle.expr_syntax.specs.View.{Derivations, derivations, derivations_step, as_primary, as_postfix, as_unary, as_product, as_sum, as_comparison, as_expr, alone, atom_word, atom_tree, named_tree, group_tree, set_tree, mask_tree, defined_tree, method_call_tree, in_parentheses, arguments_tree, listed_after, listed_tree, with_next, second_part, parts_after, chain_of, access_part, mul_op_part, add_op_part, logical_op_part, compare_op_symbol, expr_tree, expr_trees}
use Rattle.expr_syntax.specs.Inside.{access_of, mul_op_of, add_op_of, logical_op_of}

pub exprs-map : (es : List Expr) → map (λ (s : Derivations). s.expr) (map derivations es) ≡ expr_trees es
exprs-map [] = refl
exprs-map (e ∷ es) = ap (λ (ts : List ParseTree). (derivations e).expr ∷ ts) (exprs-map es)

pub add_ops-map : (xs : List (AddOp × Expr)) → map add_op_part (map (λ (x : AddOp × Expr). (x.0, derivations x.1)) xs) ≡ map add_op_of xs
add_ops-map [] = refl
add_ops-map (x ∷ xs) = ap (λ (ts : List (Word × ParseTree)). add_op_of x ∷ ts) (add_ops-map xs)

pub mul_ops-map : (xs : List (MulOp × Expr)) → map mul_op_part (map (λ (x : MulOp × Expr). (x.0, derivations x.1)) xs) ≡ map mul_op_of xs
mul_ops-map [] = refl
mul_ops-map (x ∷ xs) = ap (λ (ts : List (Word × ParseTree)). mul_op_of x ∷ ts) (mul_ops-map xs)

pub logical_ops-map : (xs : List (LogicalOp × Expr)) → map logical_op_part (map (λ (x : LogicalOp × Expr). (x.0, derivations x.1)) xs) ≡ map logical_op_of xs
logical_ops-map [] = refl
logical_ops-map (x ∷ xs) = ap (λ (ts : List (Word × ParseTree)). logical_op_of x ∷ ts) (logical_ops-map xs)

access_one : (a : Access Expr) → access_part ((former-Expr-Postfix-1-at-4).map Expr Derivations (fold-Expr Derivations derivations_step) a) ≡ access_of a
access_one (accesses.Property p) = refl
access_one (accesses.Method m place e) = refl

pub accesses-map : (xs : List (Access Expr)) → map access_part (map ((former-Expr-Postfix-1-at-4).map Expr Derivations (fold-Expr Derivations derivations_step)) xs) ≡ map access_of xs
accesses-map [] = refl
accesses-map (x ∷ xs) = rw (access_one x, accesses-map xs) refl

pub derivations-Atom : (s : Atom) → derivations (exprs.Atom s) ≡ as_primary (atom_tree (atom_word s))
derivations-Atom s = search (rules, the_lemmas)

pub derivations-Name : (n : Name) → derivations (exprs.Name n) ≡ as_primary (named_tree n (Right NoWords))
derivations-Name n = search (rules, the_lemmas)

pub derivations-Call : (n : Name) (at : ℕ) (v : Vec Expr Global) → derivations (exprs.Call n at v) ≡ as_primary (named_tree n (Left (in_parentheses at (arguments_tree (expr_trees v.items)))))
derivations-Call n at v = search (rules, the_lemmas, exprs-map)

pub derivations-Group : (at : ℕ) (e : Box Expr Global) → derivations (exprs.Group at e) ≡ as_primary (group_tree at (alone (derivations e.value).expr))
derivations-Group at e = search (rules, the_lemmas)

pub derivations-Pair : (at : ℕ) (a b : Box Expr Global) → derivations (exprs.Pair at a b) ≡ as_primary (group_tree at (Pair (derivations a.value).expr (Left (second_part (derivations b.value).expr))))
derivations-Pair at a b = search (rules, the_lemmas)

pub derivations-Set : (at : ℕ) (v : Vec Item Global) → derivations (exprs.Set at v) ≡ as_primary (set_tree at (items_tree v.items))
derivations-Set at v = search (rules, the_lemmas)

pub derivations-Mask : (at : ℕ) (v : Vec MaskItem Global) → derivations (exprs.Mask at v) ≡ as_primary (mask_tree at (mask_items_tree v.items))
derivations-Mask at v = search (rules, the_lemmas)

pub derivations-Defined : (at place attribute_at : ℕ) (a : Attribute) → derivations (exprs.Defined at place attribute_at a) ≡ as_primary (defined_tree at place (words.Attribute attribute_at a))
derivations-Defined at place attribute_at a = search (rules, the_lemmas)

pub derivations-MethodCall : (m : Method) (place : ℕ) (a b : Box Expr Global) → derivations (exprs.MethodCall m place a b) ≡ as_primary (method_call_tree m place (derivations a.value).expr (derivations b.value).expr)
derivations-MethodCall m place a b = search (rules, the_lemmas)

pub derivations-Not : (at : ℕ) (e : Box Expr Global) → derivations (exprs.Not at e) ≡ as_unary (Left (Deeper (words.Placed at symbols.Not) (derivations e.value).unary))
derivations-Not at e = search (rules, the_lemmas)

pub derivations-Product : (a : Box Expr Global) (v : Vec (MulOp × Expr) Global) → derivations (exprs.Product a v) ≡ as_product (chain_of (Single (derivations a.value).unary) (map mul_op_of v.items))
derivations-Product a v = search (rules, the_lemmas, mul_ops-map)

pub derivations-Sum : (a : Box Expr Global) (v : Vec (AddOp × Expr) Global) → derivations (exprs.Sum a v) ≡ as_sum (chain_of (Single (derivations a.value).product) (map add_op_of v.items))
derivations-Sum a v = search (rules, the_lemmas, add_ops-map)

pub derivations-Compare : (op : CompareOp) (a b : Box Expr Global) → derivations (exprs.Compare op a b) ≡ as_comparison (Pair (derivations a.value).sum (Left (Pair (symbol_leaf (compare_op_symbol op)) (derivations b.value).sum)))
derivations-Compare op a b = search (rules, the_lemmas)

pub derivations-Logical : (a : Box Expr Global) (v : Vec (LogicalOp × Expr) Global) → derivations (exprs.Logical a v) ≡ as_expr (chain_of (Single (derivations a.value).comparison) (map logical_op_of v.items))
derivations-Logical a v = search (rules, the_lemmas, logical_ops-map)

pub derivations-Postfix : (a : Box Expr Global) (v : Vec (Access Expr) Global) → derivations (exprs.Postfix a v) ≡ as_postfix (chain_of (Single (derivations a.value).primary) (map access_of v.items))
derivations-Postfix a v = search (rules, the_lemmas, accesses-map)

-- ---- a form is also each greater form

pub record Lifts (s : Derivations) : Type 0 where
  pub postfix : s.precedence ≤ 0 → s.postfix ≡ Single s.primary
  pub unary : s.precedence ≤ 1 → s.unary ≡ Right s.postfix
  pub product : s.precedence ≤ 2 → s.product ≡ Single s.unary
  pub sum : s.precedence ≤ 3 → s.sum ≡ Single s.product
  pub comparison : s.precedence ≤ 4 → s.comparison ≡ alone s.sum
  pub expr : s.precedence ≤ 5 → s.expr ≡ Single s.comparison

lifts_primary : (t : ParseTree) → Lifts (as_primary t)
lifts_primary t = record { postfix = λ h. refl; unary = λ h. refl; product = λ h. refl; sum = λ h. refl; comparison = λ h. refl; expr = λ h. refl }

lifts_postfix : (t : ParseTree) → Lifts (as_postfix t)
lifts_postfix t = record { postfix = λ h. absurd (omega arith); unary = λ h. refl; product = λ h. refl; sum = λ h. refl; comparison = λ h. refl; expr = λ h. refl }

lifts_unary : (t : ParseTree) → Lifts (as_unary t)
lifts_unary t = record { postfix = λ h. absurd (omega arith); unary = λ h. absurd (omega arith); product = λ h. refl; sum = λ h. refl; comparison = λ h. refl; expr = λ h. refl }

lifts_product : (t : ParseTree) → Lifts (as_product t)
lifts_product t = record { postfix = λ h. absurd (omega arith); unary = λ h. absurd (omega arith); product = λ h. absurd (omega arith); sum = λ h. refl; comparison = λ h. refl; expr = λ h. refl }

lifts_sum : (t : ParseTree) → Lifts (as_sum t)
lifts_sum t = record { postfix = λ h. absurd (omega arith); unary = λ h. absurd (omega arith); product = λ h. absurd (omega arith); sum = λ h. absurd (omega arith); comparison = λ h. refl; expr = λ h. refl }

lifts_comparison : (t : ParseTree) → Lifts (as_comparison t)
lifts_comparison t = record { postfix = λ h. absurd (omega arith); unary = λ h. absurd (omega arith); product = λ h. absurd (omega arith); sum = λ h. absurd (omega arith); comparison = λ h. absurd (omega arith); expr = λ h. refl }

lifts_expr : (t : ParseTree) → Lifts (as_expr t)
lifts_expr t = record { postfix = λ h. absurd (omega arith); unary = λ h. absurd (omega arith); product = λ h. absurd (omega arith); sum = λ h. absurd (omega arith); comparison = λ h. absurd (omega arith); expr = λ h. absurd (omega arith) }

lifts_step : (x : Expr-F Derivations) → Lifts (derivations_step x)
lifts_step (Expr-F.Atom s) = lifts_primary _
lifts_step (Expr-F.Name n) = lifts_primary _
lifts_step (Expr-F.Call n at es) = lifts_primary _
lifts_step (Expr-F.Group at e) = lifts_primary _
lifts_step (Expr-F.Pair at a b) = lifts_primary _
lifts_step (Expr-F.Set at items) = lifts_primary _
lifts_step (Expr-F.Mask at items) = lifts_primary _
lifts_step (Expr-F.Defined at place attribute_at attribute) = lifts_primary _
lifts_step (Expr-F.MethodCall m place a b) = lifts_primary _
lifts_step (Expr-F.Postfix e more) = lifts_postfix _
lifts_step (Expr-F.Not at e) = lifts_unary _
lifts_step (Expr-F.Product e more) = lifts_product _
lifts_step (Expr-F.Sum e more) = lifts_sum _
lifts_step (Expr-F.Compare op a b) = lifts_comparison _
lifts_step (Expr-F.Logical e more) = lifts_expr _

pub lifts : (e : Expr) → Lifts (derivations e)
lifts e = subst (λ (s : Derivations). Lifts s) (sym (fold_out-Expr Derivations derivations_step e)) (lifts_step _)

-- ---- the same, by what is in the boxes

pub compare_op_of : (op : CompareOp) (a b : Box Expr Global) (x y : Expr) → a.value ≡ x → b.value ≡ y → derivations (exprs.Compare op a b) ≡ as_comparison (Pair (derivations x).sum (Left (Pair (symbol_leaf (compare_op_symbol op)) (derivations y).sum)))
compare_op_of op a b x y p q = rw (← p, ← q) (derivations-Compare op a b)

pub not_of : (at : ℕ) (a : Box Expr Global) (x : Expr) → a.value ≡ x → derivations (exprs.Not at a) ≡ as_unary (Left (Deeper (words.Placed at symbols.Not) (derivations x).unary))
not_of at a x p = rw (← p) (derivations-Not at a)

-- ---- one more part

parts_more : (t : ParseTree) (xs : List (Word × ParseTree)) (x : Word × ParseTree) → parts_after t (xs ++ x ∷ []) ≡ Snoc (parts_after t xs) (Pair (Leaf x.0) x.1)
parts_more t [] x = refl
parts_more t (y ∷ xs) x = parts_more (Snoc t (Pair (Leaf y.0) y.1)) xs x

map_more : {X Y : Type 0} (f : X → Y) (xs : List X) (x : X) → map f (xs ++ x ∷ []) ≡ map f xs ++ f x ∷ []
map_more f [] x = refl
map_more {Y = Y} f (y ∷ xs) x = ap (λ (ys : List Y). f y ∷ ys) (map_more f xs x)

pub one_more : {X : Type 0} (f : X → Word × ParseTree) (t : ParseTree) (xs : List X) (x : X) → parts_after t (map f (xs ++ x ∷ [])) ≡ Snoc (parts_after t (map f xs)) (Pair (Leaf (f x).0) (f x).1)
one_more f t xs x = ap (λ (ys : List (Word × ParseTree)). parts_after t ys) (map_more f xs x) ∙ parts_more t (map f xs) (f x)

-- a chain with parts is one
pub chain_some : {X : Type 0} (f : X → Word × ParseTree) (t : ParseTree) (xs : List X) → (length xs ≡ 0 → ⊥) → chain_of t (map f xs) ≡ parts_after t (map f xs)
chain_some f t [] some = absurd (some refl)
chain_some f t (x ∷ xs) some = refl

dot_word : (a : Access Expr) → (access_of a).0 ≡ words.Symbol symbols.Dot
dot_word (accesses.Property p) = refl
dot_word (accesses.Method m place e) = refl

pub one_more_access : (t : ParseTree) (xs : List (Access Expr)) (x : Access Expr) → parts_after t (map access_of (xs ++ x ∷ [])) ≡ Snoc (parts_after t (map access_of xs)) (Pair (Leaf (words.Symbol symbols.Dot)) (access_of x).1)
one_more_access t xs x = one_more access_of t xs x ∙ rw (dot_word x) refl

listed_more : (t : ParseTree) (xs : List ParseTree) (x : ParseTree) → listed_after t (xs ++ x ∷ []) ≡ with_next (listed_after t xs) x
listed_more t [] x = refl
listed_more t (y ∷ xs) x = listed_more (with_next t y) xs x

listed_tree-more : (xs : List ParseTree) (x : ParseTree) → 1 ≤ length xs → listed_tree (xs ++ x ∷ []) ≡ with_next (listed_tree xs) x
listed_tree-more [] x some = absurd (omega arith)
listed_tree-more (y ∷ xs) x some = listed_more (Single y) xs x

length_trees : (es : List Expr) → length (expr_trees es) ≡ length es
length_trees [] = refl
length_trees (e ∷ es) = ap (λ (n : ℕ). suc n) (length_trees es)

pub one_more_expr : (es : List Expr) (e : Expr) → 1 ≤ length es → listed_tree (expr_trees (es ++ e ∷ [])) ≡ with_next (listed_tree (expr_trees es)) (derivations e).expr
one_more_expr es e some = ap (λ (ts : List ParseTree). listed_tree ts) (map_more expr_tree es e) ∙ listed_tree-more (expr_trees es) (derivations e).expr (omega (arith, length_trees es))

pub arguments_listed : (es : List Expr) → 1 ≤ length es → arguments_tree (expr_trees es) ≡ Left (listed_tree (expr_trees es))
arguments_listed [] some = absurd (omega arith)
arguments_listed (e ∷ es) some = refl

-- an operand without a "!"
pub gives_unary : (r : Result (Expr × Bor (List Word)) Refusal) (x y : Read) → IfOk r (λ found. (derivations found.0).precedence ≤ 1) → y ≡ and_then x (λ t v. Parsed (Right t) v) → Agrees (λ e. (derivations e).postfix) r x → Agrees (λ e. (derivations e).unary) r y
gives_unary (Ok found) x y precedence is h = is ∙ rw (h, (lifts found.0).unary precedence) refl
gives_unary (Err e) x y precedence is h = fails_along e y _ is (fails_then e x (λ t v. Parsed (Right t) v) h)
