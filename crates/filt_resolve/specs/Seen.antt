-- For the contracts of resolving here and in filt_check: parts of checked expressions beside what they
-- stand for. What filters mean rests on nothing here.
use Rattle.std.specs.Prelude.{ℕ, List, map, Option, Some, None, slice_get}
use Rattle.std.specs.Borrow.{Bor}
use Rattle.conf_ast.specs.declared.filters.Access.{Access}
use Rattle.conf_ast.specs.declared.filters.Access.TheVariants as accesses
use Rattle.conf_ast.specs.declared.filters.Expr.{Expr}
use Rattle.conf_ast.specs.Filters.{expression_of}
use Rattle.filt_meaning.specs.Values.{Val}
use Rattle.filt_meaning.specs.Flow.{Run}
use Rattle.filt_meaning.specs.Meaning.{value}
use Rattle.filt_meaning.specs.Names.{Context}
use Rattle.filt_meaning.specs.declared.tree.TAccess.{TAccess}
use Rattle.filt_meaning.specs.declared.tree.TAccess.TheVariants as checked

-- names that stand in the source, as bytes
abbrev pub names_of : List (Bor (List ℕ)) → List (List ℕ)
names_of names = map (λ name. name.now) names

-- what stands at a place
abbrev pub at_place : {A : Type 0} → List A → Option ℕ → Option A
at_place xs None = None
at_place xs (Some n) = slice_get xs n

abbrev pub values_in : Context → List Expr → List (Run Val)
values_in c es = map (λ e. value (expression_of e) c) es

abbrev pub access_in : Context → Access Expr → TAccess (Run Val)
access_in c (accesses.Property p) = checked.Property p
access_in c (accesses.Method m place e) = checked.Method m.kind (value (expression_of e) c)

abbrev pub accesses_in : Context → List (Access Expr) → List (TAccess (Run Val))
accesses_in c more = map (access_in c) more

-- operators, each with the expression behind it
abbrev pub parts_in : {Op : Type 0} → Context → List (Op × Expr) → List (Op × Run Val)
parts_in c more = map (λ x. (x.0, value (expression_of x.1) c)) more
