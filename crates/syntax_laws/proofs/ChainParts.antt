-- A chain whose tree fits has a part behind its first.
use Rattle.std.proofs.Common.{◌≡◌, ◌≤◌, List, [], ◌∷◌, length, map, subst, arith, Box, Vec}
use Rattle.std.specs.Global.{Global}
use Rattle.conf_lex.specs.declared.word.Word.{Word}
use Rattle.conf_lex.specs.Grammar.{ParseTree, NoWords, Single, DerivesLongest}
use Rattle.conf_ast.specs.declared.filters.Access.{Access}
use Rattle.conf_ast.specs.declared.filters.MulOp.{MulOp}
use Rattle.conf_ast.specs.declared.filters.AddOp.{AddOp}
use Rattle.conf_ast.specs.declared.filters.LogicalOp.{LogicalOp}
use Rattle.conf_ast.specs.declared.filters.Expr.{Expr}
use Rattle.conf_ast.specs.declared.filters.Expr.TheVariants as exprs
use Rattle.expr_syntax.specs.Syntax.{rule, expr}
use Rattle.expr_syntax.specs.View.{Derivations, derivations, as_postfix, as_product, as_sum, as_expr, chain_of}
use Rattle.expr_syntax.specs.Inside.{access_of, mul_op_of, add_op_of, logical_op_of}
use Rattle.expr_syntax.proofs.Derived.{derivations-Product, derivations-Sum, derivations-Logical, derivations-Postfix}

-- a form under which no tree is left blank
some_parts : {X : Type 0} (part : X → Word × ParseTree) (first : ParseTree) (as_tree : ParseTree → ParseTree) (xs : List X) → (DerivesLongest rule (as_tree NoWords) expr → ⊥) → DerivesLongest rule (as_tree (chain_of first (map part xs))) expr → 1 ≤ length xs
some_parts part first as_tree [] never h = absurd (never h)
some_parts part first as_tree (x ∷ xs) never h = omega arith

seen_fits : (e : Expr) (s : Derivations) → DerivesLongest rule (derivations e).expr expr → derivations e ≡ s → DerivesLongest rule s.expr expr
seen_fits e s h is = subst (λ (u : Derivations). DerivesLongest rule u.expr expr) is h

pub logical_op_parts : (a : Box Expr Global) (v : Vec (LogicalOp × Expr) Global) → DerivesLongest rule (derivations (exprs.Logical a v)).expr expr → 1 ≤ length v.items
logical_op_parts a v h = some_parts logical_op_of (Single (derivations a.value).comparison) (λ t. (as_expr t).expr) v.items (λ f. f) (seen_fits (exprs.Logical a v) _ h (derivations-Logical a v))

pub sum_parts : (a : Box Expr Global) (v : Vec (AddOp × Expr) Global) → DerivesLongest rule (derivations (exprs.Sum a v)).expr expr → 1 ≤ length v.items
sum_parts a v h = some_parts add_op_of (Single (derivations a.value).product) (λ t. (as_sum t).expr) v.items (λ f. f.0) (seen_fits (exprs.Sum a v) _ h (derivations-Sum a v))

pub product_parts : (a : Box Expr Global) (v : Vec (MulOp × Expr) Global) → DerivesLongest rule (derivations (exprs.Product a v)).expr expr → 1 ≤ length v.items
product_parts a v h = some_parts mul_op_of (Single (derivations a.value).unary) (λ t. (as_product t).expr) v.items (λ f. f.0) (seen_fits (exprs.Product a v) _ h (derivations-Product a v))

pub postfix_parts : (a : Box Expr Global) (v : Vec (Access Expr) Global) → DerivesLongest rule (derivations (exprs.Postfix a v)).expr expr → 1 ≤ length v.items
postfix_parts a v h = some_parts access_of (Single (derivations a.value).primary) (λ t. (as_postfix t).expr) v.items (λ f. f.0) (seen_fits (exprs.Postfix a v) _ h (derivations-Postfix a v))
