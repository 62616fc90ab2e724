-- What checked statements do, form by form: what a fold gives at each variant, of what it gives for
-- the parts.
use Rattle.std.proofs.Common.{◌≡◌, ℕ, List, map, Option, refl, ap, ◌∙◌, rules, Box, Vec, slice_get}
use Rattle.std.specs.Global.{Global}
use Rattle.conf_ast.specs.declared.attribute.Attribute.{Attribute}
use Rattle.filt_meaning.specs.declared.value.Sort.{Sort}
use Rattle.filt_meaning.specs.Values.{default_of}
use Rattle.filt_meaning.specs.Flow.{Accepted, Rejected}
use Rattle.filt_meaning.specs.Meaning.{Act, call, block, nothing, unset, choice, cases, loop, stop, evaluate}
use Rattle.filt_meaning.specs.declared.tree.Labels.{Labels}
use Rattle.filt_meaning.specs.declared.tree.TArm.{TArm}
use Rattle.filt_meaning.specs.declared.tree.TExpr.{TExpr}
use Rattle.filt_meaning.specs.declared.tree.TStmt.{TStmt, fold-TStmt, the_lemmas as stmt_lemmas}
use Rattle.filt_meaning.specs.declared.tree.TStmt.TheVariants as ts
use Rattle.filt_meaning.specs.declared.tree.TStmt.TheOpen.{TStmt-F}
use Rattle.filt_meaning.specs.declared.tree.TStmt.TheFolds.{map-TStmt}
use Rattle.filt_meaning.specs.declared.tree.TTarget.{TTarget}
use Rattle.filt_meaning.specs.Trees.{Tables, expr, exprs, all_values, stmt, stmt_step, body, assign, arms, arm_of, arm_over, arms_of, in_order, result}
use Rattle.filt_meaning.proofs.Forms as forms
use Rattle.filt_meaning.proofs.Forms.{by_parts}

pub do-Nothing : (A : Type 0) (step : TStmt-F A → A) → fold-TStmt A step ts.Nothing ≡ step (map-TStmt TStmt A (fold-TStmt A step) TStmt-F.Nothing)
do-Nothing A step = search (rules, stmt_lemmas)

pub do-Unset : (A : Type 0) (step : TStmt-F A → A) (a : Attribute) → fold-TStmt A step (ts.Unset a) ≡ step (map-TStmt TStmt A (fold-TStmt A step) (TStmt-F.Unset a))
do-Unset A step a = search (rules, stmt_lemmas)

pub do-Accept : (A : Type 0) (step : TStmt-F A → A) → fold-TStmt A step ts.Accept ≡ step (map-TStmt TStmt A (fold-TStmt A step) TStmt-F.Accept)
do-Accept A step = search (rules, stmt_lemmas)

pub do-Reject : (A : Type 0) (step : TStmt-F A → A) → fold-TStmt A step ts.Reject ≡ step (map-TStmt TStmt A (fold-TStmt A step) TStmt-F.Reject)
do-Reject A step = search (rules, stmt_lemmas)

turns : (t : Tables) (ss : List TStmt) → in_order (map (λ (f : Tables → Act). f t) (map stmt ss)) ≡ body t ss
turns t ss = ap in_order (by_parts {B = Tables → Act} _ _ _ (λ a. refl) ss)

pub stmt-Block : (k : Vec Sort Global) (v : Vec TStmt Global) (t : Tables) → stmt (ts.Block k v) t ≡ block (map default_of k.items) (body t v.items)
stmt-Block k v t = ap (λ (f : Tables → Act). f t) (forms.act-of-Block (Tables → Act) stmt_step k v) ∙ ap (λ (a : Act). block (map default_of k.items) a) (turns t v.items)

pub stmt-Nothing : (t : Tables) → stmt ts.Nothing t ≡ nothing
stmt-Nothing t = ap (λ (f : Tables → Act). f t) (do-Nothing (Tables → Act) stmt_step)

pub stmt-Assign : (target : TTarget) (x : TExpr) (t : Tables) → stmt (ts.Assign target x) t ≡ assign target (expr x t)
stmt-Assign target x t = ap (λ (f : Tables → Act). f t) (forms.act-of-Assign (Tables → Act) stmt_step target x)

pub stmt-Unset : (a : Attribute) (t : Tables) → stmt (ts.Unset a) t ≡ unset a
stmt-Unset a t = ap (λ (f : Tables → Act). f t) (do-Unset (Tables → Act) stmt_step a)

pub stmt-If : (x : TExpr) (b : Box TStmt Global) (t : Tables) → stmt (ts.If x b) t ≡ choice (expr x t) (stmt b.value t) nothing
stmt-If x b t = ap (λ (f : Tables → Act). f t) (forms.act-of-If (Tables → Act) stmt_step x b)

pub stmt-IfElse : (x : TExpr) (b c : Box TStmt Global) (t : Tables) → stmt (ts.IfElse x b c) t ≡ choice (expr x t) (stmt b.value t) (stmt c.value t)
stmt-IfElse x b c t = ap (λ (f : Tables → Act). f t) (forms.act-of-IfElse (Tables → Act) stmt_step x b c)

pub stmt-Case : (x : TExpr) (v : Vec (TArm TStmt) Global) (w : Vec TStmt Global) (t : Tables) → stmt (ts.Case x v w) t ≡ cases (expr x t) (arms (arms_of t v.items) (body t w.items))
stmt-Case x v w t = ap (λ (f : Tables → Act). f t) (forms.act-of-Case (Tables → Act) stmt_step x v w) ∙ ap (λ (as_arms : List (Labels × Act)). cases (expr x t) (arms as_arms (in_order (map (λ (f : Tables → Act). f t) (map stmt w.items))))) (by_parts {B = TArm (Tables → Act)} (arm_over t) _ (arm_of t) (λ a. ap (λ (f : Act). (a.labels, f)) (turns t a.body.items)) v.items) ∙ ap (λ (a : Act). cases (expr x t) (arms (arms_of t v.items) a)) (turns t w.items)

pub stmt-For : (x : TExpr) (b : Box TStmt Global) (t : Tables) → stmt (ts.For x b) t ≡ loop (expr x t) (stmt b.value t)
stmt-For x b t = ap (λ (f : Tables → Act). f t) (forms.act-of-For (Tables → Act) stmt_step x b)

pub stmt-Accept : (t : Tables) → stmt ts.Accept t ≡ stop Accepted
stmt-Accept t = ap (λ (f : Tables → Act). f t) (do-Accept (Tables → Act) stmt_step)

pub stmt-Reject : (t : Tables) → stmt ts.Reject t ≡ stop Rejected
stmt-Reject t = ap (λ (f : Tables → Act). f t) (do-Reject (Tables → Act) stmt_step)

pub stmt-Return : (x : Option TExpr) (t : Tables) → stmt (ts.Return x) t ≡ result x t
stmt-Return x t = ap (λ (f : Tables → Act). f t) (forms.act-of-Return (Tables → Act) stmt_step x)

pub stmt-Print : (v : Vec TExpr Global) (t : Tables) → stmt (ts.Print v) t ≡ evaluate (all_values (exprs t v.items))
stmt-Print v t = ap (λ (f : Tables → Act). f t) (forms.act-of-Print (Tables → Act) stmt_step v)

pub stmt-Call : (n : ℕ) (v : Vec TExpr Global) (t : Tables) → stmt (ts.Call n v) t ≡ evaluate (call (slice_get t.functions n) (all_values (exprs t v.items)))
stmt-Call n v t = ap (λ (f : Tables → Act). f t) (forms.act-of-Call (Tables → Act) stmt_step n v)
