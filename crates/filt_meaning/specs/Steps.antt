-- For those who compile checked trees and who bound them: how many instructions the code of a tree
-- takes at most (`expr_steps`, `stmt_steps`, `run_steps`), a line for each form, where a call takes
-- what the functions are told to take. Of two ways both count, and a loop 120 times, since no path
-- has more numbers and no list more communities.
-- From: own. Nothing is to be believed of it: compiled code costs no more, and an accepted filter
-- weighs a fifth of it at least.
-- Example: of `if true then accept;` 3.
use Rattle.std.specs.Prelude.{ℕ, zero, suc, ◌+◌, ◌*◌, ◌≤◌, List, [], ◌∷◌, map, length, Option, Some, None}
use Rattle.filt_meaning.specs.declared.scope.TFunction.{TFunction}
use Rattle.filt_meaning.specs.declared.tree.TAccess.{TAccess}
use Rattle.filt_meaning.specs.declared.tree.TAccess.TheVariants as accesses
use Rattle.filt_meaning.specs.declared.tree.TArm.{TArm}
use Rattle.filt_meaning.specs.declared.tree.TExpr.{TExpr, fold-TExpr}
use Rattle.filt_meaning.specs.declared.tree.TExpr.TheOpen.{TExpr-F}
use Rattle.filt_meaning.specs.declared.tree.TFilter.{TFilter}
use Rattle.filt_meaning.specs.declared.tree.TStmt.{TStmt, fold-TStmt}
use Rattle.filt_meaning.specs.declared.tree.TStmt.TheOpen.{TStmt-F}
use Rattle.filt_meaning.specs.declared.value.Sort.{Sort}

abbrev pub sum : List ℕ → ℕ
sum [] = 0
sum (n ∷ ns) = n + sum ns

-- each with so many more
abbrev pub sum_over : (more : ℕ) → List ℕ → ℕ
sum_over more [] = 0
sum_over more (n ∷ ns) = more + n + sum_over more ns

abbrev pub access_steps : TAccess ℕ → ℕ
access_steps (accesses.Property p) = 0
access_steps (accesses.Method kind n) = n

abbrev pub expr_step : (called : ℕ → ℕ) → TExpr-F ℕ → ℕ
expr_step called (TExpr-F.Call n args) = 2 + called n + sum args.items
expr_step called (TExpr-F.Pair a b) = 1 + a.value + b.value
expr_step called (TExpr-F.Method kind a b) = 1 + a.value + b.value
expr_step called (TExpr-F.Empty a) = 1 + a.value
expr_step called (TExpr-F.Access a more) = a.value + sum_over 1 (map access_steps more.items)
expr_step called (TExpr-F.Not a) = 1 + a.value
expr_step called (TExpr-F.Product a more) = a.value + sum_over 1 (map (λ x. x.1) more.items)
expr_step called (TExpr-F.Sum a more) = a.value + sum_over 1 (map (λ x. x.1) more.items)
expr_step called (TExpr-F.Compare op a b) = 1 + a.value + b.value
expr_step called (TExpr-F.Test what) = 3
expr_step called (TExpr-F.Joint a more) = a.value + sum_over 2 (map (λ x. x.1) more.items)
expr_step called _ = 1

abbrev pub expr_steps : (called : ℕ → ℕ) → TExpr → ℕ
expr_steps called = fold-TExpr ℕ (expr_step called)

abbrev pub exprs_steps : (called : ℕ → ℕ) → List TExpr → ℕ
exprs_steps called es = sum (map (expr_steps called) es)

abbrev pub given_steps : (called : ℕ → ℕ) → Option TExpr → ℕ
given_steps called None = 0
given_steps called (Some e) = expr_steps called e

abbrev pub arm_step : TArm ℕ → ℕ
arm_step a = sum a.body.items

abbrev pub stmt_step : (called : ℕ → ℕ) → TStmt-F ℕ → ℕ
stmt_step called (TStmt-F.Block sorts body) = 1 + length sorts.items + sum body.items
stmt_step called TStmt-F.Nothing = 0
stmt_step called (TStmt-F.Assign target e) = 1 + expr_steps called e
stmt_step called (TStmt-F.Unset a) = 1
stmt_step called (TStmt-F.If e s) = 1 + expr_steps called e + s.value
stmt_step called (TStmt-F.IfElse e s u) = 2 + expr_steps called e + s.value + u.value
stmt_step called (TStmt-F.Case e as_arms otherwise) =
    3 + expr_steps called e + sum (map arm_step as_arms.items) + sum otherwise.items
stmt_step called (TStmt-F.For e body) = 2 + expr_steps called e + 120 * (2 + body.value)
stmt_step called TStmt-F.Accept = 1
stmt_step called TStmt-F.Reject = 1
stmt_step called (TStmt-F.Return e) = 1 + given_steps called e
stmt_step called (TStmt-F.Print es) = sum_over 1 (map (expr_steps called) es.items)
stmt_step called (TStmt-F.Call n args) = 2 + called n + exprs_steps called args.items

abbrev pub stmt_steps : (called : ℕ → ℕ) → TStmt → ℕ
stmt_steps called = fold-TStmt ℕ (stmt_step called)

abbrev pub body_steps : (called : ℕ → ℕ) → List TStmt → ℕ
body_steps called ss = sum (map (stmt_steps called) ss)

abbrev pub arms_steps : (called : ℕ → ℕ) → List (TArm TStmt) → ℕ
arms_steps called as_arms = sum (map (λ a. body_steps called a.body.items) as_arms)

-- of statements over variables of these sorts more
abbrev pub run_steps : (called : ℕ → ℕ) → List Sort → List TStmt → ℕ
run_steps called sorts ss = length sorts + body_steps called ss

-- what a call of one of these functions takes at most: five for each that it weighs
abbrev pub called_by : List TFunction → ℕ → ℕ
called_by [] n = 0
called_by (f ∷ fs) zero = 5 * f.weight
called_by (f ∷ fs) (suc n) = called_by fs n

-- of a filter over these functions
abbrev pub filter_steps : List TFunction → TFilter → ℕ
filter_steps fs f = run_steps (called_by fs) f.sorts.items f.body.items

-- A function's code takes five for each that it weighs at most, where it may call these.
abbrev pub IsLight : List TFunction → TFunction → Type 0
IsLight fs f = run_steps (called_by fs) f.sorts.items f.body.items ≤ 5 * f.weight
