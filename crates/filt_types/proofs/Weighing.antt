-- The weight of each form that has a list, and of the statements with parts.
use Rattle.std.proofs.Common.{◌≡◌, ℕ, arith, ◌+◌, List, [], ◌∷◌, Option, Some, None, ap, Vec}
use Rattle.std.specs.Global.{Global}
use Rattle.conf_ast.specs.declared.filters.Access.{Access}
use Rattle.conf_ast.specs.declared.filters.Access.TheVariants as accesses
use Rattle.conf_ast.specs.declared.filters.Arm.{Arm}
use Rattle.conf_ast.specs.declared.filters.Expr.{Expr}
use Rattle.conf_ast.specs.declared.filters.MulOp.{MulOp}
use Rattle.conf_ast.specs.declared.filters.LogicalOp.{LogicalOp}
use Rattle.conf_ast.specs.declared.filters.Stmt.{Stmt}
use Rattle.conf_ast.specs.declared.filters.Stmt.TheVariants as s
use Rattle.conf_ast.specs.declared.filters.AddOp.{AddOp}
use Rattle.conf_ast.specs.Filters.{Expression, PropertyOf, Changed, Multiplied, Added, Joined, multiplied, added, joined, accessed, expression_of, statement_of, Statement}
use Rattle.filt_types.specs.Scenes.{Scene}
use Rattle.filt_types.specs.Walk.{access_weight, accesses_of, arms_of, else_of, operands_of}
use Rattle.filt_types.specs.Weight.{weight, act_weight, acts_weight, arms_weight}
use Rattle.filt_types.proofs.Trees as o

-- what the operators of a chain and the operands behind them add
abbrev pub parts : {Op : Type 0} → Scene → List (Op × Expr) → ℕ
parts scene [] = 0
parts scene (x ∷ more) = 1 + weight scene (expression_of x.1) + parts scene more

abbrev pub dots : Scene → List (Access Expr) → ℕ
dots scene [] = 0
dots scene (x ∷ more) = access_weight scene x + dots scene more

pub of-multiplied : (scene : Scene) (a : Expression) (xs : List (MulOp × Expr)) → weight scene (multiplied a (operands_of xs)) ≡ weight scene a + parts scene xs
of-multiplied scene a [] = omega arith
of-multiplied scene a (x ∷ xs) = let h = of-multiplied scene (Multiplied a x.0 (expression_of x.1)) xs in omega (arith, h)

pub of-added : (scene : Scene) (a : Expression) (xs : List (AddOp × Expr)) → weight scene (added a (operands_of xs)) ≡ weight scene a + parts scene xs
of-added scene a [] = omega arith
of-added scene a (x ∷ xs) = let h = of-added scene (Added a x.0 (expression_of x.1)) xs in omega (arith, h)

pub of-joined : (scene : Scene) (a : Expression) (xs : List (LogicalOp × Expr)) → weight scene (joined a (operands_of xs)) ≡ weight scene a + parts scene xs
of-joined scene a [] = omega arith
of-joined scene a (x ∷ xs) = let h = of-joined scene (Joined a x.0 (expression_of x.1)) xs in omega (arith, h)

pub of-accessed : (scene : Scene) (a : Expression) (xs : List (Access Expr)) → weight scene (accessed a (accesses_of xs)) ≡ weight scene a + dots scene xs
of-accessed scene a [] = omega arith
of-accessed scene a (accesses.Property p ∷ xs) = let h = of-accessed scene (PropertyOf a p) xs in omega (arith, h)
of-accessed scene a (accesses.Method m place x ∷ xs) = let h = of-accessed scene (Changed a m place (expression_of x)) xs in omega (arith, h)

pub of-Case : (scene : Scene) (at : ℕ) (x : Expr) (v : Vec (Arm Stmt) Global) (other : Option (Vec Stmt Global)) → act_weight scene (statement_of (s.Case at x v other)) ≡ 1 + weight scene (expression_of x) + arms_weight scene (arms_of v.items) + acts_weight scene (else_of other)
of-Case scene at x v None =
    let e = ap (λ (st : Statement). act_weight scene st) (o.as-Case at x v) in
    omega (arith, e)
of-Case scene at x v (Some w) =
    let e = ap (λ (st : Statement). act_weight scene st) (o.as-CaseElse at x v w) in
    omega (arith, e)
