-- Chains of one part alone are that part.
use Rattle.std.proofs.Common.{◌≡◌, ℕ, Bool, ◌==◌, List, [], ◌∷◌, length, Option, None, refl, ap, ◌∙◌, sym, Box, Vec}
use Rattle.std.proofs.Math.Dec.{eqb-suc-zero}
use Rattle.std.specs.Global.{Global}
use Rattle.conf_ast.specs.declared.filters.Access.{Access}
use Rattle.conf_ast.specs.declared.filters.Access.TheVariants as parts
use Rattle.conf_ast.specs.declared.filters.Expr.{Expr}
use Rattle.conf_ast.specs.declared.filters.Expr.TheVariants as e
use Rattle.conf_ast.specs.declared.filters.MulOp.{MulOp}
use Rattle.conf_ast.specs.declared.filters.LogicalOp.{LogicalOp}
use Rattle.conf_ast.specs.declared.filters.Method.{Method}
use Rattle.conf_ast.specs.declared.filters.Property.{Property}
use Rattle.conf_ast.specs.declared.filters.AddOp.{AddOp}
use Rattle.conf_ast.specs.Filters.{Expression, Multiplied, Added, Joined, PropertyOf, Changed, multiplied, added, joined, accessed, expression_of}
use Rattle.filt_types.specs.Walk.{operands_of, accesses_of, where_alone}
use Rattle.filt_types.proofs.Lookups.{vec_length}
use Rattle.filt_types.proofs.Trees as tree

-- what is nothing of operators is nothing of a chain with one
module _ {A : Type 0} (w : Expression → Option A) where
  products : ((a b : Expression) (op : MulOp) → w (Multiplied a op b) ≡ None) → (a : Expression) (xs : List (MulOp × Expr)) → w a ≡ None → w (multiplied a (operands_of xs)) ≡ None
  products none a [] is = is
  products none a (x ∷ xs) is = products none (Multiplied a x.0 (expression_of x.1)) xs (none a (expression_of x.1) x.0)

  sums : ((a b : Expression) (op : AddOp) → w (Added a op b) ≡ None) → (a : Expression) (xs : List (AddOp × Expr)) → w a ≡ None → w (added a (operands_of xs)) ≡ None
  sums none a [] is = is
  sums none a (x ∷ xs) is = sums none (Added a x.0 (expression_of x.1)) xs (none a (expression_of x.1) x.0)

  joins : ((a b : Expression) (op : LogicalOp) → w (Joined a op b) ≡ None) → (a : Expression) (xs : List (LogicalOp × Expr)) → w a ≡ None → w (joined a (operands_of xs)) ≡ None
  joins none a [] is = is
  joins none a (x ∷ xs) is = joins none (Joined a x.0 (expression_of x.1)) xs (none a (expression_of x.1) x.0)

  dots : ((a : Expression) (p : Property) → w (PropertyOf a p) ≡ None) → ((a b : Expression) (m : Method) (place : ℕ) → w (Changed a m place b) ≡ None) → (a : Expression) (xs : List (Access Expr)) → w a ≡ None → w (accessed a (accesses_of xs)) ≡ None
  dots none other a [] is = is
  dots none other a (parts.Property p ∷ xs) is = dots none other (PropertyOf a p) xs (none a p)
  dots none other a (parts.Method m place x ∷ xs) is = dots none other (Changed a m place (expression_of x)) xs (other a (expression_of x) m place)

  one_product : ((a b : Expression) (op : MulOp) → w (Multiplied a op b) ≡ None) → (a : Expression) (xs : List (MulOp × Expr)) → w (multiplied a (operands_of xs)) ≡ where_alone (length xs == 0) (w a)
  one_product none a [] = refl
  one_product none a (x ∷ xs) = products none (Multiplied a x.0 (expression_of x.1)) xs (none a (expression_of x.1) x.0) ∙ sym (ap (λ (b : Bool). where_alone b (w a)) (eqb-suc-zero (length xs)))

  one_sum : ((a b : Expression) (op : AddOp) → w (Added a op b) ≡ None) → (a : Expression) (xs : List (AddOp × Expr)) → w (added a (operands_of xs)) ≡ where_alone (length xs == 0) (w a)
  one_sum none a [] = refl
  one_sum none a (x ∷ xs) = sums none (Added a x.0 (expression_of x.1)) xs (none a (expression_of x.1) x.0) ∙ sym (ap (λ (b : Bool). where_alone b (w a)) (eqb-suc-zero (length xs)))

  one_join : ((a b : Expression) (op : LogicalOp) → w (Joined a op b) ≡ None) → (a : Expression) (xs : List (LogicalOp × Expr)) → w (joined a (operands_of xs)) ≡ where_alone (length xs == 0) (w a)
  one_join none a [] = refl
  one_join none a (x ∷ xs) = joins none (Joined a x.0 (expression_of x.1)) xs (none a (expression_of x.1) x.0) ∙ sym (ap (λ (b : Bool). where_alone b (w a)) (eqb-suc-zero (length xs)))

  no_dot : ((a : Expression) (p : Property) → w (PropertyOf a p) ≡ None) → ((a b : Expression) (m : Method) (place : ℕ) → w (Changed a m place b) ≡ None) → (a : Expression) (xs : List (Access Expr)) → w (accessed a (accesses_of xs)) ≡ where_alone (length xs == 0) (w a)
  no_dot none other a [] = refl
  no_dot none other a (parts.Property p ∷ xs) = dots none other (PropertyOf a p) xs (none a p) ∙ sym (ap (λ (b : Bool). where_alone b (w a)) (eqb-suc-zero (length xs)))
  no_dot none other a (parts.Method m place x ∷ xs) = dots none other (Changed a m place (expression_of x)) xs (other a (expression_of x) m place) ∙ sym (ap (λ (b : Bool). where_alone b (w a)) (eqb-suc-zero (length xs)))

  pub alone-Product : ((a b : Expression) (op : MulOp) → w (Multiplied a op b) ≡ None) → (a : Box Expr Global) (v : Vec (MulOp × Expr) Global) → w (expression_of (e.Product a v)) ≡ where_alone (v.len == 0) (w (expression_of a.value))
  alone-Product none a v = ap w (tree.is-Product a v) ∙ one_product none (expression_of a.value) v.items ∙ ap (λ (n : ℕ). where_alone (n == 0) (w (expression_of a.value))) (vec_length v)

  pub alone-Sum : ((a b : Expression) (op : AddOp) → w (Added a op b) ≡ None) → (a : Box Expr Global) (v : Vec (AddOp × Expr) Global) → w (expression_of (e.Sum a v)) ≡ where_alone (v.len == 0) (w (expression_of a.value))
  alone-Sum none a v = ap w (tree.is-Sum a v) ∙ one_sum none (expression_of a.value) v.items ∙ ap (λ (n : ℕ). where_alone (n == 0) (w (expression_of a.value))) (vec_length v)

  pub alone-Logical : ((a b : Expression) (op : LogicalOp) → w (Joined a op b) ≡ None) → (a : Box Expr Global) (v : Vec (LogicalOp × Expr) Global) → w (expression_of (e.Logical a v)) ≡ where_alone (v.len == 0) (w (expression_of a.value))
  alone-Logical none a v = ap w (tree.is-Logical a v) ∙ one_join none (expression_of a.value) v.items ∙ ap (λ (n : ℕ). where_alone (n == 0) (w (expression_of a.value))) (vec_length v)

  pub alone-Postfix : ((a : Expression) (p : Property) → w (PropertyOf a p) ≡ None) → ((a b : Expression) (m : Method) (place : ℕ) → w (Changed a m place b) ≡ None) → (a : Box Expr Global) (v : Vec (Access Expr) Global) → w (expression_of (e.Postfix a v)) ≡ where_alone (v.len == 0) (w (expression_of a.value))
  alone-Postfix none other a v = ap w (tree.is-Postfix a v) ∙ no_dot none other (expression_of a.value) v.items ∙ ap (λ (n : ℕ). where_alone (n == 0) (w (expression_of a.value))) (vec_length v)
