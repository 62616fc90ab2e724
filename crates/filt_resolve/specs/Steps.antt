-- For the contracts of resolving here and in filt_check: how many steps trees take at most, by what
-- their sources weigh. What a tree takes and what a source weighs rest on nothing here.
use Rattle.std.specs.Prelude.{ℕ, ◌+◌, ◌*◌, ◌≤◌, List, ◌++◌, map, Option, Some, None}
use Rattle.conf_ast.specs.declared.filters.Access.{Access}
use Rattle.conf_ast.specs.declared.filters.Expr.{Expr}
use Rattle.conf_ast.specs.Filters.{expression_of}
use Rattle.filt_meaning.specs.declared.scope.Scope.{Scope}
use Rattle.filt_meaning.specs.declared.scope.TFunction.{TFunction}
use Rattle.filt_meaning.specs.declared.tree.TAccess.{TAccess}
use Rattle.filt_meaning.specs.declared.tree.TAccess.TheVariants as checked
use Rattle.filt_meaning.specs.declared.tree.TExpr.{TExpr}
use Rattle.filt_meaning.specs.Scopes.{function_trees}
use Rattle.filt_meaning.specs.Steps.{called_by, expr_steps, sum, sum_over}
use Rattle.filt_types.specs.Scenes.{Scene}
use Rattle.filt_types.specs.Weight.{weight}
use Rattle.filt_types.specs.Walk.{access_weight}

-- what a call takes where the scope declares these functions behind its own
abbrev pub calls : Scope → List TFunction → ℕ → ℕ
calls scope more = called_by (function_trees scope ++ more)

-- It takes five for each of these at most, whatever is declared behind.
abbrev pub Takes : Scope → ((ℕ → ℕ) → ℕ) → ℕ → Type 0
Takes scope steps n = (more : List TFunction) → steps (calls scope more) ≤ 5 * n

-- what a call of the function at a place takes
abbrev pub called_at : List TFunction → Option ℕ → ℕ
called_at fs None = 0
called_at fs (Some n) = called_by fs n

-- ---- parts of expressions

-- what stands behind a dot
abbrev pub dot_steps : (ℕ → ℕ) → TAccess TExpr → ℕ
dot_steps called (checked.Property p) = 0
dot_steps called (checked.Method kind x) = expr_steps called x

abbrev pub dots_steps : (ℕ → ℕ) → List (TAccess TExpr) → ℕ
dots_steps called more = sum_over 1 (map (dot_steps called) more)

-- operators, each with the expression behind it
abbrev pub parts_steps : {Op : Type 0} → (each : ℕ) → (ℕ → ℕ) → List (Op × TExpr) → ℕ
parts_steps each called more = sum_over each (map (λ x. expr_steps called x.1) more)

-- ---- what their sources weigh

abbrev pub given_weight : Scene → List Expr → ℕ
given_weight scene es = sum (map (λ e. weight scene (expression_of e)) es)

abbrev pub dots_weight : Scene → List (Access Expr) → ℕ
dots_weight scene more = sum (map (access_weight scene) more)

abbrev pub parts_weight : {Op : Type 0} → Scene → List (Op × Expr) → ℕ
parts_weight scene more = sum (map (λ x. 1 + weight scene (expression_of x.1)) more)
