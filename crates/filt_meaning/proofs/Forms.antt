-- The equations of folds over checked trees, for any carrier and step: a line for each form with parts.
use Rattle.std.proofs.Common.{◌≡◌, ℕ, List, [], ◌∷◌, map, Option, refl, rules, Box, Vec}
use Rattle.std.specs.Global.{Global}
use Rattle.conf_ast.specs.declared.filters.CompareOp.{CompareOp}
use Rattle.conf_ast.specs.declared.filters.MulOp.{MulOp}
use Rattle.conf_ast.specs.declared.filters.LogicalOp.{LogicalOp}
use Rattle.conf_ast.specs.declared.filters.MethodKind.{MethodKind}
use Rattle.conf_ast.specs.declared.filters.Property.{Property}
use Rattle.conf_ast.specs.declared.filters.AddOp.{AddOp}
use Rattle.filt_meaning.specs.declared.value.Sort.{Sort}
use Rattle.filt_meaning.specs.declared.tree.TAccess.{TAccess}
use Rattle.filt_meaning.specs.declared.tree.TAccess.TheVariants as accesses
use Rattle.filt_meaning.specs.declared.tree.TArm.{TArm}
use Rattle.filt_meaning.specs.declared.tree.TTarget.{TTarget}
use Rattle.filt_meaning.specs.declared.tree.TTest.{TTest}
use Rattle.filt_meaning.specs.declared.tree.TExpr.{TExpr, fold-TExpr, the_lemmas as expr_lemmas}
use Rattle.filt_meaning.specs.declared.tree.TExpr.TheVariants as e
use Rattle.filt_meaning.specs.declared.tree.TExpr.TheOpen.{TExpr-F}
use Rattle.filt_meaning.specs.declared.tree.TExpr.TheFolds.{map-TExpr}
use Rattle.filt_meaning.specs.declared.tree.TStmt.{TStmt, fold-TStmt, the_lemmas as stmt_lemmas}
use Rattle.filt_meaning.specs.declared.tree.TStmt.TheVariants as s
use Rattle.filt_meaning.specs.declared.tree.TStmt.TheOpen.{TStmt-F}
use Rattle.filt_meaning.specs.declared.tree.TStmt.TheFolds.{map-TStmt}

-- lists of parts
pub by_parts : {A B C : Type 0} (f : B → C) (g : A → B) (h : A → C) → ((a : A) → f (g a) ≡ h a) → (xs : List A) → map f (map g xs) ≡ map h xs
by_parts f g h same [] = refl
by_parts f g h same (x ∷ xs) = rw (same x, by_parts f g h same xs) refl

accesses_by : {A B C : Type 0} (f : TAccess B → C) (g : TAccess A → TAccess B) (h : TAccess A → C) → ((p : Property) → f (g (accesses.Property p)) ≡ h (accesses.Property p)) → ((kind : MethodKind) (a : A) → f (g (accesses.Method kind a)) ≡ h (accesses.Method kind a)) → (x : TAccess A) → f (g x) ≡ h x
accesses_by f g h one two (accesses.Property p) = one p
accesses_by f g h one two (accesses.Method kind a) = two kind a

pub by_accesses : {A B C : Type 0} (f : TAccess B → C) (g : TAccess A → TAccess B) (h : TAccess A → C) → ((p : Property) → f (g (accesses.Property p)) ≡ h (accesses.Property p)) → ((kind : MethodKind) (a : A) → f (g (accesses.Method kind a)) ≡ h (accesses.Method kind a)) → (xs : List (TAccess A)) → map f (map g xs) ≡ map h xs
by_accesses f g h one two xs = by_parts f g h (accesses_by f g h one two) xs

pub of-Call : (A : Type 0) (step : TExpr-F A → A) (n : ℕ) (v : Vec TExpr Global) → fold-TExpr A step (e.Call n v) ≡ step (map-TExpr TExpr A (fold-TExpr A step) (TExpr-F.Call n v))
of-Call A step n v = search (rules, expr_lemmas)

pub of-Pair : (A : Type 0) (step : TExpr-F A → A) (a : Box TExpr Global) (b : Box TExpr Global) → fold-TExpr A step (e.Pair a b) ≡ step (map-TExpr TExpr A (fold-TExpr A step) (TExpr-F.Pair a b))
of-Pair A step a b = search (rules, expr_lemmas)

pub of-Method : (A : Type 0) (step : TExpr-F A → A) (kind : MethodKind) (a : Box TExpr Global) (b : Box TExpr Global) → fold-TExpr A step (e.Method kind a b) ≡ step (map-TExpr TExpr A (fold-TExpr A step) (TExpr-F.Method kind a b))
of-Method A step kind a b = search (rules, expr_lemmas)

pub of-Empty : (A : Type 0) (step : TExpr-F A → A) (a : Box TExpr Global) → fold-TExpr A step (e.Empty a) ≡ step (map-TExpr TExpr A (fold-TExpr A step) (TExpr-F.Empty a))
of-Empty A step a = search (rules, expr_lemmas)

pub of-Access : (A : Type 0) (step : TExpr-F A → A) (a : Box TExpr Global) (v : Vec (TAccess TExpr) Global) → fold-TExpr A step (e.Access a v) ≡ step (map-TExpr TExpr A (fold-TExpr A step) (TExpr-F.Access a v))
of-Access A step a v = search (rules, expr_lemmas)

pub of-Not : (A : Type 0) (step : TExpr-F A → A) (a : Box TExpr Global) → fold-TExpr A step (e.Not a) ≡ step (map-TExpr TExpr A (fold-TExpr A step) (TExpr-F.Not a))
of-Not A step a = search (rules, expr_lemmas)

pub of-Product : (A : Type 0) (step : TExpr-F A → A) (a : Box TExpr Global) (v : Vec (MulOp × TExpr) Global) → fold-TExpr A step (e.Product a v) ≡ step (map-TExpr TExpr A (fold-TExpr A step) (TExpr-F.Product a v))
of-Product A step a v = search (rules, expr_lemmas)

pub of-Sum : (A : Type 0) (step : TExpr-F A → A) (a : Box TExpr Global) (v : Vec (AddOp × TExpr) Global) → fold-TExpr A step (e.Sum a v) ≡ step (map-TExpr TExpr A (fold-TExpr A step) (TExpr-F.Sum a v))
of-Sum A step a v = search (rules, expr_lemmas)

pub of-Compare : (A : Type 0) (step : TExpr-F A → A) (compare : CompareOp) (a : Box TExpr Global) (b : Box TExpr Global) → fold-TExpr A step (e.Compare compare a b) ≡ step (map-TExpr TExpr A (fold-TExpr A step) (TExpr-F.Compare compare a b))
of-Compare A step compare a b = search (rules, expr_lemmas)

pub of-Test : (A : Type 0) (step : TExpr-F A → A) (what : TTest) → fold-TExpr A step (e.Test what) ≡ step (map-TExpr TExpr A (fold-TExpr A step) (TExpr-F.Test what))
of-Test A step what = search (rules, expr_lemmas)

pub of-Joint : (A : Type 0) (step : TExpr-F A → A) (a : Box TExpr Global) (v : Vec (LogicalOp × TExpr) Global) → fold-TExpr A step (e.Joint a v) ≡ step (map-TExpr TExpr A (fold-TExpr A step) (TExpr-F.Joint a v))
of-Joint A step a v = search (rules, expr_lemmas)

pub act-of-Block : (A : Type 0) (step : TStmt-F A → A) (sorts : Vec Sort Global) (v : Vec TStmt Global) → fold-TStmt A step (s.Block sorts v) ≡ step (map-TStmt TStmt A (fold-TStmt A step) (TStmt-F.Block sorts v))
act-of-Block A step sorts v = search (rules, stmt_lemmas)

pub act-of-Assign : (A : Type 0) (step : TStmt-F A → A) (target : TTarget) (x : TExpr) → fold-TStmt A step (s.Assign target x) ≡ step (map-TStmt TStmt A (fold-TStmt A step) (TStmt-F.Assign target x))
act-of-Assign A step target x = search (rules, stmt_lemmas)

pub act-of-If : (A : Type 0) (step : TStmt-F A → A) (x : TExpr) (a : Box TStmt Global) → fold-TStmt A step (s.If x a) ≡ step (map-TStmt TStmt A (fold-TStmt A step) (TStmt-F.If x a))
act-of-If A step x a = search (rules, stmt_lemmas)

pub act-of-IfElse : (A : Type 0) (step : TStmt-F A → A) (x : TExpr) (a : Box TStmt Global) (b : Box TStmt Global) → fold-TStmt A step (s.IfElse x a b) ≡ step (map-TStmt TStmt A (fold-TStmt A step) (TStmt-F.IfElse x a b))
act-of-IfElse A step x a b = search (rules, stmt_lemmas)

pub act-of-Case : (A : Type 0) (step : TStmt-F A → A) (x : TExpr) (v : Vec (TArm TStmt) Global) (o : Vec TStmt Global) → fold-TStmt A step (s.Case x v o) ≡ step (map-TStmt TStmt A (fold-TStmt A step) (TStmt-F.Case x v o))
act-of-Case A step x v o = search (rules, stmt_lemmas)

pub act-of-For : (A : Type 0) (step : TStmt-F A → A) (x : TExpr) (a : Box TStmt Global) → fold-TStmt A step (s.For x a) ≡ step (map-TStmt TStmt A (fold-TStmt A step) (TStmt-F.For x a))
act-of-For A step x a = search (rules, stmt_lemmas)

pub act-of-Return : (A : Type 0) (step : TStmt-F A → A) (o : Option TExpr) → fold-TStmt A step (s.Return o) ≡ step (map-TStmt TStmt A (fold-TStmt A step) (TStmt-F.Return o))
act-of-Return A step o = search (rules, stmt_lemmas)

pub act-of-Print : (A : Type 0) (step : TStmt-F A → A) (v : Vec TExpr Global) → fold-TStmt A step (s.Print v) ≡ step (map-TStmt TStmt A (fold-TStmt A step) (TStmt-F.Print v))
act-of-Print A step v = search (rules, stmt_lemmas)

pub act-of-Call : (A : Type 0) (step : TStmt-F A → A) (n : ℕ) (v : Vec TExpr Global) → fold-TStmt A step (s.Call n v) ≡ step (map-TStmt TStmt A (fold-TStmt A step) (TStmt-F.Call n v))
act-of-Call A step n v = search (rules, stmt_lemmas)
