-- A number for each expression and each statement that is greater than those of its parts.
use Rattle.std.proofs.Common.{◌≡◌, ℕ, zero, suc, arith, ◌+◌, ◌<◌, List, [], ◌∷◌, map, length, get_or, Option, Some, None, refl, ap, ◌∙◌, Box, Vec}
use Rattle.std.specs.Global.{Global}
use Rattle.conf_ast.specs.declared.named.Name.{Name}
use Rattle.conf_ast.specs.declared.filters.Access.{Access}
use Rattle.conf_ast.specs.declared.filters.Access.TheVariants as accesses
use Rattle.conf_ast.specs.declared.filters.Arm.{Arm}
use Rattle.conf_ast.specs.declared.filters.CompareOp.{CompareOp}
use Rattle.conf_ast.specs.declared.filters.Expr.{Expr, fold-Expr}
use Rattle.conf_ast.specs.declared.filters.Expr.TheVariants as e
use Rattle.conf_ast.specs.declared.filters.Expr.TheOpen.{Expr-F}
use Rattle.conf_ast.specs.declared.filters.Expr.TheShapes.{former-Expr-Postfix-1-at-4}
use Rattle.conf_ast.specs.declared.filters.MulOp.{MulOp}
use Rattle.conf_ast.specs.declared.filters.LogicalOp.{LogicalOp}
use Rattle.conf_ast.specs.declared.filters.Method.{Method}
use Rattle.conf_ast.specs.declared.filters.Stmt.{Stmt, fold-Stmt}
use Rattle.conf_ast.specs.declared.filters.Stmt.TheVariants as s
use Rattle.conf_ast.specs.declared.filters.Stmt.TheOpen.{Stmt-F}
use Rattle.conf_ast.specs.declared.filters.AddOp.{AddOp}
use Rattle.conf_ast.specs.declared.filters.VariableType.{VariableType}
use Rattle.filt_types.proofs.Trees as o

-- the parts of a list, with room for the steps of a walk over it
abbrev pub all : List ℕ → ℕ
all [] = 0
all (n ∷ ns) = 3 + n + all ns

pub item_below : {A : Type 0} (f : A → ℕ) (xs : List A) (i : ℕ) (x : A) → i < length xs → x ≡ get_or xs i x → f x + 2 < all (map f xs)
item_below f [] i x lt is = absurd (omega arith)
item_below f (y ∷ ys) zero x lt is = rw is (omega arith)
item_below f (y ∷ ys) (suc i) x lt is = let h : f x + 2 < all (map f ys) = item_below f ys i x (omega arith) is in omega arith

-- ---- expressions

abbrev access_step : Access ℕ → ℕ
access_step (accesses.Property p) = 0
access_step (accesses.Method m place n) = n

abbrev operand_step : {Op : Type 0} → Op × ℕ → ℕ
operand_step x = x.1

abbrev step : Expr-F ℕ → ℕ
step (Expr-F.Call n place args) = 6 + all args.items
step (Expr-F.Group at a) = 6 + a.value
step (Expr-F.Pair at a b) = 6 + a.value + b.value
step (Expr-F.MethodCall m place a b) = 6 + a.value + b.value
step (Expr-F.Postfix a more) = 6 + a.value + all (map access_step more.items)
step (Expr-F.Not at a) = 6 + a.value
step (Expr-F.Product a more) = 6 + a.value + all (map operand_step more.items)
step (Expr-F.Sum a more) = 6 + a.value + all (map operand_step more.items)
step (Expr-F.Compare op a b) = 6 + a.value + b.value
step (Expr-F.Logical a more) = 6 + a.value + all (map operand_step more.items)
step _ = 6

abbrev pub cost : Expr → ℕ
cost = fold-Expr ℕ step

abbrev pub costs : List Expr → ℕ
costs xs = all (map cost xs)

abbrev pub access_cost : Access Expr → ℕ
access_cost (accesses.Property p) = 0
access_cost (accesses.Method m place x) = cost x

abbrev pub accesses_cost : List (Access Expr) → ℕ
accesses_cost xs = all (map access_cost xs)

abbrev pub operand_cost : {Op : Type 0} → Op × Expr → ℕ
operand_cost x = cost x.1

abbrev pub operands_cost : {Op : Type 0} → List (Op × Expr) → ℕ
operands_cost xs = all (map operand_cost xs)

pub cost-Call : (n : Name) (place : ℕ) (v : Vec Expr Global) → cost (e.Call n place v) ≡ 6 + costs v.items
cost-Call n place v = o.of-Call ℕ step n place v

pub cost-Group : (at : ℕ) (a : Box Expr Global) → cost (e.Group at a) ≡ 6 + cost a.value
cost-Group at a = o.of-Group ℕ step at a

pub cost-Pair : (at : ℕ) (a b : Box Expr Global) → cost (e.Pair at a b) ≡ 6 + cost a.value + cost b.value
cost-Pair at a b = o.of-Pair ℕ step at a b

pub cost-MethodCall : (m : Method) (place : ℕ) (a b : Box Expr Global) → cost (e.MethodCall m place a b) ≡ 6 + cost a.value + cost b.value
cost-MethodCall m place a b = o.of-MethodCall ℕ step m place a b

one_access : (a : Access Expr) → access_step ((former-Expr-Postfix-1-at-4).map Expr ℕ cost a) ≡ access_cost a
one_access (accesses.Property p) = refl
one_access (accesses.Method m place x) = refl

pub cost-Postfix : (a : Box Expr Global) (v : Vec (Access Expr) Global) → cost (e.Postfix a v) ≡ 6 + cost a.value + accesses_cost v.items
cost-Postfix a v = o.of-Postfix ℕ step a v ∙ ap (λ (ns : List ℕ). 6 + cost a.value + all ns) (o.by_parts {B = Access ℕ} access_step _ access_cost one_access v.items)

pub cost-Not : (at : ℕ) (a : Box Expr Global) → cost (e.Not at a) ≡ 6 + cost a.value
cost-Not at a = o.of-Not ℕ step at a

pub cost-Product : (a : Box Expr Global) (v : Vec (MulOp × Expr) Global) → cost (e.Product a v) ≡ 6 + cost a.value + operands_cost v.items
cost-Product a v = o.of-Product ℕ step a v ∙ ap (λ (ns : List ℕ). 6 + cost a.value + all ns) (o.by_parts {B = MulOp × ℕ} _ _ _ (λ x. refl) v.items)

pub cost-Sum : (a : Box Expr Global) (v : Vec (AddOp × Expr) Global) → cost (e.Sum a v) ≡ 6 + cost a.value + operands_cost v.items
cost-Sum a v = o.of-Sum ℕ step a v ∙ ap (λ (ns : List ℕ). 6 + cost a.value + all ns) (o.by_parts {B = AddOp × ℕ} _ _ _ (λ x. refl) v.items)

pub cost-Compare : (op : CompareOp) (a b : Box Expr Global) → cost (e.Compare op a b) ≡ 6 + cost a.value + cost b.value
cost-Compare op a b = o.of-Compare ℕ step op a b

pub cost-Logical : (a : Box Expr Global) (v : Vec (LogicalOp × Expr) Global) → cost (e.Logical a v) ≡ 6 + cost a.value + operands_cost v.items
cost-Logical a v = o.of-Logical ℕ step a v ∙ ap (λ (ns : List ℕ). 6 + cost a.value + all ns) (o.by_parts {B = LogicalOp × ℕ} _ _ _ (λ x. refl) v.items)

-- ---- statements

abbrev arm_step : Arm ℕ → ℕ
arm_step a = all a.body.items

abbrev otherwise_step : Option (Vec ℕ Global) → ℕ
otherwise_step None = 0
otherwise_step (Some v) = all v.items

abbrev stmt_step : Stmt-F ℕ → ℕ
stmt_step (Stmt-F.Block body) = 6 + all body.items
stmt_step (Stmt-F.If x a) = 6 + a.value
stmt_step (Stmt-F.IfElse x a b) = 6 + a.value + b.value
stmt_step (Stmt-F.Case at x as_arms o) = 6 + all (map arm_step as_arms.items) + otherwise_step o
stmt_step (Stmt-F.For at t n x body) = 6 + body.value
stmt_step _ = 6

abbrev pub stmt_cost : Stmt → ℕ
stmt_cost = fold-Stmt ℕ stmt_step

abbrev pub stmts_cost : List Stmt → ℕ
stmts_cost ss = all (map stmt_cost ss)

abbrev pub arm_cost : Arm Stmt → ℕ
arm_cost a = stmts_cost a.body.items

abbrev pub arms_cost : List (Arm Stmt) → ℕ
arms_cost as_arms = all (map arm_cost as_arms)

abbrev pub otherwise_cost : Option (Vec Stmt Global) → ℕ
otherwise_cost None = 0
otherwise_cost (Some v) = stmts_cost v.items

pub cost-Block : (v : Vec Stmt Global) → stmt_cost (s.Block v) ≡ 6 + stmts_cost v.items
cost-Block v = o.do-Block ℕ stmt_step v

pub cost-If : (x : Expr) (b : Box Stmt Global) → stmt_cost (s.If x b) ≡ 6 + stmt_cost b.value
cost-If x b = o.do-If ℕ stmt_step x b

pub cost-IfElse : (x : Expr) (b c : Box Stmt Global) → stmt_cost (s.IfElse x b c) ≡ 6 + stmt_cost b.value + stmt_cost c.value
cost-IfElse x b c = o.do-IfElse ℕ stmt_step x b c

-- by cases on what stands behind `else:`
pub cost-Case : (at : ℕ) (x : Expr) (v : Vec (Arm Stmt) Global) (other : Option (Vec Stmt Global)) → stmt_cost (s.Case at x v other) ≡ 6 + arms_cost v.items + otherwise_cost other
cost-Case at x v None = o.do-Case ℕ stmt_step at x v None ∙ ap (λ (ns : List ℕ). 6 + all ns + 0) (o.by_parts {B = Arm ℕ} _ _ _ (λ a. refl) v.items)
cost-Case at x v (Some w) = o.do-Case ℕ stmt_step at x v (Some w) ∙ ap (λ (ns : List ℕ). 6 + all ns + stmts_cost w.items) (o.by_parts {B = Arm ℕ} _ _ _ (λ a. refl) v.items)

pub cost-For : (at : ℕ) (t : VariableType) (n : Name) (x : Expr) (b : Box Stmt Global) → stmt_cost (s.For at t n x b) ≡ 6 + stmt_cost b.value
cost-For at t n x b = o.do-For ℕ stmt_step at t n x b
