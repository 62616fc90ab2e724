-- How many instructions a tree takes at most: an equation for each form with parts.
use Rattle.std.proofs.Common.{◌≡◌, ℕ, ◌+◌, ◌*◌, List, [], ◌∷◌, map, length, Option, refl, ap, ◌∙◌, Box, Vec}
use Rattle.std.specs.Global.{Global}
use Rattle.conf_ast.specs.declared.filters.CompareOp.{CompareOp}
use Rattle.conf_ast.specs.declared.filters.MulOp.{MulOp}
use Rattle.conf_ast.specs.declared.filters.LogicalOp.{LogicalOp}
use Rattle.conf_ast.specs.declared.filters.MethodKind.{MethodKind}
use Rattle.conf_ast.specs.declared.filters.AddOp.{AddOp}
use Rattle.filt_meaning.specs.declared.value.Sort.{Sort}
use Rattle.filt_meaning.specs.declared.tree.TAccess.{TAccess}
use Rattle.filt_meaning.specs.declared.tree.TAccess.TheVariants as accesses
use Rattle.filt_meaning.specs.declared.tree.TArm.{TArm}
use Rattle.filt_meaning.specs.declared.tree.TTarget.{TTarget}
use Rattle.filt_meaning.specs.declared.tree.TExpr.{TExpr}
use Rattle.filt_meaning.specs.declared.tree.TExpr.TheVariants as e
use Rattle.filt_meaning.specs.declared.tree.TStmt.{TStmt}
use Rattle.filt_meaning.specs.declared.tree.TStmt.TheVariants as s
use Rattle.filt_meaning.specs.Steps.{access_steps, arm_step, arms_steps, body_steps, expr_step, expr_steps, exprs_steps, given_steps, stmt_step, stmt_steps, sum, sum_over}
use Rattle.filt_meaning.proofs.Forms.{by_accesses, by_parts}
use Rattle.filt_meaning.proofs.Forms as forms

-- of what stands behind a dot
abbrev pub behind_dot : (called : ℕ → ℕ) → TAccess TExpr → ℕ
behind_dot called (accesses.Property p) = 0
behind_dot called (accesses.Method kind x) = expr_steps called x

pub steps-Call : (called : ℕ → ℕ) (n : ℕ) (v : Vec TExpr Global) → expr_steps called (e.Call n v) ≡ 2 + called n + exprs_steps called v.items
steps-Call called n v = forms.of-Call ℕ (expr_step called) n v

pub steps-Pair : (called : ℕ → ℕ) (a : Box TExpr Global) (b : Box TExpr Global) → expr_steps called (e.Pair a b) ≡ 1 + expr_steps called a.value + expr_steps called b.value
steps-Pair called a b = forms.of-Pair ℕ (expr_step called) a b

pub steps-Method : (called : ℕ → ℕ) (kind : MethodKind) (a : Box TExpr Global) (b : Box TExpr Global) → expr_steps called (e.Method kind a b) ≡ 1 + expr_steps called a.value + expr_steps called b.value
steps-Method called kind a b = forms.of-Method ℕ (expr_step called) kind a b

pub steps-Empty : (called : ℕ → ℕ) (a : Box TExpr Global) → expr_steps called (e.Empty a) ≡ 1 + expr_steps called a.value
steps-Empty called a = forms.of-Empty ℕ (expr_step called) a

pub steps-Access : (called : ℕ → ℕ) (a : Box TExpr Global) (v : Vec (TAccess TExpr) Global) → expr_steps called (e.Access a v) ≡ expr_steps called a.value + sum_over 1 (map (behind_dot called) v.items)
steps-Access called a v = forms.of-Access ℕ (expr_step called) a v ∙ ap (λ (ns : List ℕ). expr_steps called a.value + sum_over 1 ns) (by_accesses {A = TExpr} {B = ℕ} access_steps _ (behind_dot called) (λ p. refl) (λ kind x. refl) v.items)

pub steps-Not : (called : ℕ → ℕ) (a : Box TExpr Global) → expr_steps called (e.Not a) ≡ 1 + expr_steps called a.value
steps-Not called a = forms.of-Not ℕ (expr_step called) a

pub steps-Product : (called : ℕ → ℕ) (a : Box TExpr Global) (v : Vec (MulOp × TExpr) Global) → expr_steps called (e.Product a v) ≡ expr_steps called a.value + sum_over 1 (map (λ x. expr_steps called x.1) v.items)
steps-Product called a v = forms.of-Product ℕ (expr_step called) a v ∙ ap (λ (ns : List ℕ). expr_steps called a.value + sum_over 1 ns) (by_parts {B = MulOp × ℕ} (λ x. x.1) (λ x. (x.0, expr_steps called x.1)) (λ x. expr_steps called x.1) (λ x. refl) v.items)

pub steps-Sum : (called : ℕ → ℕ) (a : Box TExpr Global) (v : Vec (AddOp × TExpr) Global) → expr_steps called (e.Sum a v) ≡ expr_steps called a.value + sum_over 1 (map (λ x. expr_steps called x.1) v.items)
steps-Sum called a v = forms.of-Sum ℕ (expr_step called) a v ∙ ap (λ (ns : List ℕ). expr_steps called a.value + sum_over 1 ns) (by_parts {B = AddOp × ℕ} (λ x. x.1) (λ x. (x.0, expr_steps called x.1)) (λ x. expr_steps called x.1) (λ x. refl) v.items)

pub steps-Compare : (called : ℕ → ℕ) (compare : CompareOp) (a : Box TExpr Global) (b : Box TExpr Global) → expr_steps called (e.Compare compare a b) ≡ 1 + expr_steps called a.value + expr_steps called b.value
steps-Compare called compare a b = forms.of-Compare ℕ (expr_step called) compare a b

pub steps-Joint : (called : ℕ → ℕ) (a : Box TExpr Global) (v : Vec (LogicalOp × TExpr) Global) → expr_steps called (e.Joint a v) ≡ expr_steps called a.value + sum_over 2 (map (λ x. expr_steps called x.1) v.items)
steps-Joint called a v = forms.of-Joint ℕ (expr_step called) a v ∙ ap (λ (ns : List ℕ). expr_steps called a.value + sum_over 2 ns) (by_parts {B = LogicalOp × ℕ} (λ x. x.1) (λ x. (x.0, expr_steps called x.1)) (λ x. expr_steps called x.1) (λ x. refl) v.items)

pub act-steps-Block : (called : ℕ → ℕ) (sorts : Vec Sort Global) (v : Vec TStmt Global) → stmt_steps called (s.Block sorts v) ≡ 1 + length sorts.items + body_steps called v.items
act-steps-Block called sorts v = forms.act-of-Block ℕ (stmt_step called) sorts v

pub act-steps-Assign : (called : ℕ → ℕ) (target : TTarget) (x : TExpr) → stmt_steps called (s.Assign target x) ≡ 1 + expr_steps called x
act-steps-Assign called target x = forms.act-of-Assign ℕ (stmt_step called) target x

pub act-steps-If : (called : ℕ → ℕ) (x : TExpr) (a : Box TStmt Global) → stmt_steps called (s.If x a) ≡ 1 + expr_steps called x + stmt_steps called a.value
act-steps-If called x a = forms.act-of-If ℕ (stmt_step called) x a

pub act-steps-IfElse : (called : ℕ → ℕ) (x : TExpr) (a : Box TStmt Global) (b : Box TStmt Global) → stmt_steps called (s.IfElse x a b) ≡ 2 + expr_steps called x + stmt_steps called a.value + stmt_steps called b.value
act-steps-IfElse called x a b = forms.act-of-IfElse ℕ (stmt_step called) x a b

pub act-steps-Case : (called : ℕ → ℕ) (x : TExpr) (v : Vec (TArm TStmt) Global) (o : Vec TStmt Global) → stmt_steps called (s.Case x v o) ≡ 3 + expr_steps called x + arms_steps called v.items + body_steps called o.items
act-steps-Case called x v o = forms.act-of-Case ℕ (stmt_step called) x v o ∙ ap (λ (ns : List ℕ). 3 + expr_steps called x + sum ns + body_steps called o.items) (by_parts {B = TArm ℕ} arm_step _ (λ a. body_steps called a.body.items) (λ a. refl) v.items)

pub act-steps-For : (called : ℕ → ℕ) (x : TExpr) (a : Box TStmt Global) → stmt_steps called (s.For x a) ≡ 2 + expr_steps called x + 120 * (2 + stmt_steps called a.value)
act-steps-For called x a = forms.act-of-For ℕ (stmt_step called) x a

pub act-steps-Return : (called : ℕ → ℕ) (o : Option TExpr) → stmt_steps called (s.Return o) ≡ 1 + given_steps called o
act-steps-Return called o = forms.act-of-Return ℕ (stmt_step called) o

pub act-steps-Print : (called : ℕ → ℕ) (v : Vec TExpr Global) → stmt_steps called (s.Print v) ≡ sum_over 1 (map (expr_steps called) v.items)
act-steps-Print called v = forms.act-of-Print ℕ (stmt_step called) v

pub act-steps-Call : (called : ℕ → ℕ) (n : ℕ) (v : Vec TExpr Global) → stmt_steps called (s.Call n v) ≡ 2 + called n + exprs_steps called v.items
act-steps-Call called n v = forms.act-of-Call ℕ (stmt_step called) n v
