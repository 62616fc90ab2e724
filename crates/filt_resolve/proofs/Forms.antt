-- What checked expressions do, form by form: what a fold gives at each variant, of what it gives for
-- the parts.
use Rattle.std.proofs.Common.{◌≡◌, ℕ, List, Some, None, Ok, Err, refl, ap, ◌∙◌, rules, Box, Vec, slice_get}
use Rattle.std.specs.Global.{Global}
use Rattle.conf_ast.specs.declared.attribute.Attribute.{Attribute}
use Rattle.conf_ast.specs.declared.filters.CompareOp.{CompareOp}
use Rattle.conf_ast.specs.declared.filters.MulOp.{MulOp}
use Rattle.conf_ast.specs.declared.filters.LogicalOp.{LogicalOp}
use Rattle.conf_ast.specs.declared.filters.MethodKind.{MethodKind}
use Rattle.conf_ast.specs.declared.filters.AddOp.{AddOp}
use Rattle.filt_meaning.specs.declared.fixed.Fixed.{Fixed}
use Rattle.filt_meaning.specs.declared.value.Failure.TheVariants as failures
use Rattle.filt_meaning.specs.declared.value.Sort.{Sort}
use Rattle.filt_meaning.specs.Operators.{pair_of, not_of, emptied_of}
use Rattle.filt_meaning.specs.Seen.{val_of_fixed}
use Rattle.filt_meaning.specs.Values.{Val, default_of}
use Rattle.filt_meaning.specs.Flow.{Run}
use Rattle.filt_meaning.specs.Meaning.{given, on_value, on_two, variable_or, attribute, defined, called_value, factor_of, term_of, compare_of, method_of}
use Rattle.filt_meaning.specs.Names.{there}
use Rattle.filt_meaning.specs.declared.tree.TAccess.{TAccess}
use Rattle.filt_meaning.specs.declared.tree.TAccess.TheVariants as accesses
use Rattle.filt_meaning.specs.declared.tree.TExpr.{TExpr, fold-TExpr, the_lemmas as expr_lemmas}
use Rattle.filt_meaning.specs.declared.tree.TExpr.TheVariants as te
use Rattle.filt_meaning.specs.declared.tree.TExpr.TheOpen.{TExpr-F}
use Rattle.filt_meaning.specs.declared.tree.TExpr.TheFolds.{map-TExpr}
use Rattle.filt_meaning.specs.declared.tree.TExpr.TheShapes.{former-TExpr-Access-1-at-3}
use Rattle.filt_meaning.specs.declared.tree.TTest.{TTest}
use Rattle.filt_meaning.specs.Trees.{Tables, expr, expr_step, exprs, parts, access, access_over, accesses_of, accessed, all_values, chain, joints, test}
use Rattle.filt_meaning.proofs.Forms as forms
use Rattle.filt_meaning.proofs.Forms.{by_parts}

pub of-Value : (A : Type 0) (step : TExpr-F A → A) (v : Fixed) → fold-TExpr A step (te.Value v) ≡ step (map-TExpr TExpr A (fold-TExpr A step) (TExpr-F.Value v))
of-Value A step v = search (rules, expr_lemmas)

pub of-Constant : (A : Type 0) (step : TExpr-F A → A) (n : ℕ) → fold-TExpr A step (te.Constant n) ≡ step (map-TExpr TExpr A (fold-TExpr A step) (TExpr-F.Constant n))
of-Constant A step n = search (rules, expr_lemmas)

pub of-Local : (A : Type 0) (step : TExpr-F A → A) (n : ℕ) → fold-TExpr A step (te.Local n) ≡ step (map-TExpr TExpr A (fold-TExpr A step) (TExpr-F.Local n))
of-Local A step n = search (rules, expr_lemmas)

pub of-Attribute : (A : Type 0) (step : TExpr-F A → A) (a : Attribute) → fold-TExpr A step (te.Attribute a) ≡ step (map-TExpr TExpr A (fold-TExpr A step) (TExpr-F.Attribute a))
of-Attribute A step a = search (rules, expr_lemmas)

pub of-Defined : (A : Type 0) (step : TExpr-F A → A) (a : Attribute) → fold-TExpr A step (te.Defined a) ≡ step (map-TExpr TExpr A (fold-TExpr A step) (TExpr-F.Defined a))
of-Defined A step a = search (rules, expr_lemmas)

pub of-Default : (A : Type 0) (step : TExpr-F A → A) (s : Sort) → fold-TExpr A step (te.Default s) ≡ step (map-TExpr TExpr A (fold-TExpr A step) (TExpr-F.Default s))
of-Default A step s = search (rules, expr_lemmas)

pub of-Stuck : (A : Type 0) (step : TExpr-F A → A) → fold-TExpr A step te.Stuck ≡ step (map-TExpr TExpr A (fold-TExpr A step) TExpr-F.Stuck)
of-Stuck A step = search (rules, expr_lemmas)

pub expr-Value : (v : Fixed) (t : Tables) → expr (te.Value v) t ≡ given (Ok (val_of_fixed v))
expr-Value v t = ap (λ (f : Tables → Run Val). f t) (of-Value (Tables → Run Val) expr_step v)

pub expr-Constant : (n : ℕ) (t : Tables) → expr (te.Constant n) t ≡ given (there (slice_get t.constants n))
expr-Constant n t = ap (λ (f : Tables → Run Val). f t) (of-Constant (Tables → Run Val) expr_step n)

pub expr-Local : (n : ℕ) (t : Tables) → expr (te.Local n) t ≡ variable_or (Some n) None
expr-Local n t = ap (λ (f : Tables → Run Val). f t) (of-Local (Tables → Run Val) expr_step n)

pub expr-Attribute : (a : Attribute) (t : Tables) → expr (te.Attribute a) t ≡ attribute t.around a
expr-Attribute a t = ap (λ (f : Tables → Run Val). f t) (of-Attribute (Tables → Run Val) expr_step a)

pub expr-Defined : (a : Attribute) (t : Tables) → expr (te.Defined a) t ≡ defined a
expr-Defined a t = ap (λ (f : Tables → Run Val). f t) (of-Defined (Tables → Run Val) expr_step a)

pub expr-Default : (s : Sort) (t : Tables) → expr (te.Default s) t ≡ given (Ok (default_of s))
expr-Default s t = ap (λ (f : Tables → Run Val). f t) (of-Default (Tables → Run Val) expr_step s)

pub expr-Call : (n : ℕ) (v : Vec TExpr Global) (t : Tables) → expr (te.Call n v) t ≡ called_value (slice_get t.functions n) (all_values (exprs t v.items))
expr-Call n v t = ap (λ (f : Tables → Run Val). f t) (forms.of-Call (Tables → Run Val) expr_step n v) ∙ ap (λ (rs : List (Run Val)). called_value (slice_get t.functions n) (all_values rs)) (by_parts {B = Tables → Run Val} _ _ _ (λ a. refl) v.items)

pub expr-Pair : (a b : Box TExpr Global) (t : Tables) → expr (te.Pair a b) t ≡ on_two (expr a.value t) (expr b.value t) pair_of
expr-Pair a b t = ap (λ (f : Tables → Run Val). f t) (forms.of-Pair (Tables → Run Val) expr_step a b)

pub expr-Method : (k : MethodKind) (a b : Box TExpr Global) (t : Tables) → expr (te.Method k a b) t ≡ on_two (expr a.value t) (expr b.value t) (method_of k)
expr-Method k a b t = ap (λ (f : Tables → Run Val). f t) (forms.of-Method (Tables → Run Val) expr_step k a b)

pub expr-Empty : (a : Box TExpr Global) (t : Tables) → expr (te.Empty a) t ≡ on_value (expr a.value t) emptied_of
expr-Empty a t = ap (λ (f : Tables → Run Val). f t) (forms.of-Empty (Tables → Run Val) expr_step a)

one_access : (t : Tables) (x : TAccess TExpr) → access_over t ((former-TExpr-Access-1-at-3).map TExpr (Tables → Run Val) expr x) ≡ access t x
one_access t (accesses.Property p) = refl
one_access t (accesses.Method k x) = refl

pub expr-Access : (a : Box TExpr Global) (v : Vec (TAccess TExpr) Global) (t : Tables) → expr (te.Access a v) t ≡ accessed (expr a.value t) (accesses_of t v.items)
expr-Access a v t = ap (λ (f : Tables → Run Val). f t) (forms.of-Access (Tables → Run Val) expr_step a v) ∙ ap (λ (rs : List (TAccess (Run Val))). accessed (expr a.value t) rs) (by_parts {B = TAccess (Tables → Run Val)} (access_over t) _ (access t) (one_access t) v.items)

pub expr-Not : (a : Box TExpr Global) (t : Tables) → expr (te.Not a) t ≡ on_value (expr a.value t) not_of
expr-Not a t = ap (λ (f : Tables → Run Val). f t) (forms.of-Not (Tables → Run Val) expr_step a)

pub expr-Product : (a : Box TExpr Global) (v : Vec (MulOp × TExpr) Global) (t : Tables) → expr (te.Product a v) t ≡ chain factor_of (expr a.value t) (parts t v.items)
expr-Product a v t = ap (λ (f : Tables → Run Val). f t) (forms.of-Product (Tables → Run Val) expr_step a v) ∙ ap (λ (rs : List (MulOp × Run Val)). chain factor_of (expr a.value t) rs) (by_parts {B = MulOp × (Tables → Run Val)} _ _ _ (λ a. refl) v.items)

pub expr-Sum : (a : Box TExpr Global) (v : Vec (AddOp × TExpr) Global) (t : Tables) → expr (te.Sum a v) t ≡ chain term_of (expr a.value t) (parts t v.items)
expr-Sum a v t = ap (λ (f : Tables → Run Val). f t) (forms.of-Sum (Tables → Run Val) expr_step a v) ∙ ap (λ (rs : List (AddOp × Run Val)). chain term_of (expr a.value t) rs) (by_parts {B = AddOp × (Tables → Run Val)} _ _ _ (λ a. refl) v.items)

pub expr-Compare : (op : CompareOp) (a b : Box TExpr Global) (t : Tables) → expr (te.Compare op a b) t ≡ on_two (expr a.value t) (expr b.value t) (compare_of op)
expr-Compare op a b t = ap (λ (f : Tables → Run Val). f t) (forms.of-Compare (Tables → Run Val) expr_step op a b)

pub expr-Test : (what : TTest) (t : Tables) → expr (te.Test what) t ≡ test t.around what
expr-Test what t = ap (λ (f : Tables → Run Val). f t) (forms.of-Test (Tables → Run Val) expr_step what)

pub expr-Joint : (a : Box TExpr Global) (v : Vec (LogicalOp × TExpr) Global) (t : Tables) → expr (te.Joint a v) t ≡ joints (expr a.value t) (parts t v.items)
expr-Joint a v t = ap (λ (f : Tables → Run Val). f t) (forms.of-Joint (Tables → Run Val) expr_step a v) ∙ ap (λ (rs : List (LogicalOp × Run Val)). joints (expr a.value t) rs) (by_parts {B = LogicalOp × (Tables → Run Val)} _ _ _ (λ a. refl) v.items)

pub expr-Stuck : (t : Tables) → expr te.Stuck t ≡ given (Err failures.Stuck)
expr-Stuck t = ap (λ (f : Tables → Run Val). f t) (of-Stuck (Tables → Run Val) expr_step)
