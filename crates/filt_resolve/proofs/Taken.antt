-- How many steps the trees of expressions take, beside what their sources weigh.
use Rattle.std.proofs.Common.{◌≡◌, ℕ, suc, ◌+◌, ◌*◌, ◌≤◌, Bool, true, false, cond, if◌then◌else◌, true≢false, List, [], ◌∷◌, ◌++◌, map, Option, Some, None, option_map, position, Result, IfOk, refl, sym, ap, ◌∙◌, arith, Box, Vec}
use Rattle.std.specs.Global.{Global}
use Rattle.std.specs.Map.{keys_of}
use Rattle.std.specs.Cmp.Lexicographic.{pointwise}
use Rattle.std.proofs.Common.{nat_eq}
use Rattle.std.proofs.lemmas.Result.{IfOk-weaker}
use Rattle.bits_ip.specs.declared.memory.OutOfMemory.{OutOfMemory}
use Rattle.conf_ast.specs.declared.named.Name.{Name}
use Rattle.conf_ast.specs.Names.{name_bytes}
use Rattle.conf_ast.specs.declared.filters.Access.{Access}
use Rattle.conf_ast.specs.declared.attribute.Attribute.{Attribute}
use Rattle.conf_ast.specs.declared.filters.AddOp.{AddOp}
use Rattle.conf_ast.specs.declared.filters.CompareOp.{CompareOp}
use Rattle.conf_ast.specs.declared.filters.Expr.{Expr}
use Rattle.conf_ast.specs.declared.filters.Expr.TheVariants as e
use Rattle.conf_ast.specs.declared.filters.LogicalOp.{LogicalOp}
use Rattle.conf_ast.specs.declared.filters.Method.{Method}
use Rattle.conf_ast.specs.declared.filters.MulOp.{MulOp}
use Rattle.conf_ast.specs.Filters.{Expression, Plain, Named, Called, Grouped, Paired, SetOf, MaskOf, IsDefined, MethodOf, PropertyOf, Changed, Negated, Multiplied, Added, Compared, Joined, expression_of, expressions_of}
use Rattle.filt_meaning.specs.declared.fixed.Fixed.{Fixed}
use Rattle.filt_meaning.specs.declared.scope.Scope.{Scope}
use Rattle.filt_meaning.specs.declared.scope.TFunction.{TFunction}
use Rattle.filt_meaning.specs.declared.tree.TAccess.{TAccess}
use Rattle.filt_meaning.specs.declared.tree.TAccess.TheVariants as checked
use Rattle.filt_meaning.specs.declared.tree.TExpr.{TExpr}
use Rattle.filt_meaning.specs.declared.tree.TExpr.TheVariants as te
use Rattle.filt_meaning.specs.declared.tree.TTest.{TTest}
use Rattle.filt_meaning.specs.declared.value.Sort.{Sort}
use Rattle.filt_meaning.specs.Names.{named_in, same_name}
use Rattle.filt_meaning.specs.Scopes.{function_trees}
use Rattle.filt_meaning.specs.Steps.{expr_step, expr_steps, exprs_steps, sum, sum_over}
use Rattle.filt_meaning.proofs.Forms as forms
use Rattle.filt_meaning.proofs.Steps as s
use Rattle.filt_types.specs.Scenes as scenes
use Rattle.filt_types.specs.Scenes.{Scene, Signature}
use Rattle.filt_types.specs.Seen.{scene_of, signature_of}
use Rattle.filt_types.specs.Weight.{of_function, weight, weights}
use Rattle.filt_types.proofs.Trees as o
use Rattle.filt_types.proofs.Weighing as g
use Rattle.filt_resolve.specs.Steps.{Takes, called_at, calls, dot_steps, dots_steps, dots_weight, given_weight, parts_weight}
use Rattle.filt_resolve.proofs.Forms as f
use Rattle.filt_resolve.proofs.Lookups.{position_next}
use Rattle.filt_items.proofs.Lookups.{is_key}

-- ---- words

pub steps-Value : (called : ℕ → ℕ) (v : Fixed) → expr_steps called (te.Value v) ≡ 1
steps-Value called v = f.of-Value ℕ (expr_step called) v

pub steps-Constant : (called : ℕ → ℕ) (n : ℕ) → expr_steps called (te.Constant n) ≡ 1
steps-Constant called n = f.of-Constant ℕ (expr_step called) n

pub steps-Local : (called : ℕ → ℕ) (n : ℕ) → expr_steps called (te.Local n) ≡ 1
steps-Local called n = f.of-Local ℕ (expr_step called) n

pub steps-Attribute : (called : ℕ → ℕ) (a : Attribute) → expr_steps called (te.Attribute a) ≡ 1
steps-Attribute called a = f.of-Attribute ℕ (expr_step called) a

pub steps-Defined : (called : ℕ → ℕ) (a : Attribute) → expr_steps called (te.Defined a) ≡ 1
steps-Defined called a = f.of-Defined ℕ (expr_step called) a

pub steps-Default : (called : ℕ → ℕ) (k : Sort) → expr_steps called (te.Default k) ≡ 1
steps-Default called k = f.of-Default ℕ (expr_step called) k

pub steps-Test : (called : ℕ → ℕ) (what : TTest) → expr_steps called (te.Test what) ≡ 3
steps-Test called what = forms.of-Test ℕ (expr_step called) what

pub steps-Stuck : (called : ℕ → ℕ) → expr_steps called te.Stuck ≡ 1
steps-Stuck called = f.of-Stuck ℕ (expr_step called)

-- ---- lists

pub sum_within : (ns : List ℕ) → sum ns ≤ sum_over 1 ns
sum_within [] = omega arith
sum_within (n ∷ ns) = let h = sum_within ns in omega (arith, h)

over_pushed : {A : Type 0} (each : ℕ) (f : A → ℕ) (xs : List A) (x : A) → sum_over each (map f (xs ++ x ∷ [])) ≡ sum_over each (map f xs) + (each + f x)
over_pushed each f [] x = omega arith
over_pushed each f (y ∷ ys) x = let h = over_pushed each f ys x in omega (arith, h)

-- one more at the end of what is made, and one less of what is left
pub more_taken : {A B : Type 0} (each : ℕ) (f : A → ℕ) (g : B → ℕ) (xs us : List A) (x : A) (y : B) (ys zs : List B) (n : ℕ) → us ≡ xs ++ x ∷ [] → zs ≡ y ∷ ys → each + f x ≤ 5 * g y → sum_over each (map f xs) + 5 * sum (map g zs) ≤ n → sum_over each (map f us) + 5 * sum (map g ys) ≤ n
more_taken {A = A} {B = B} each f g xs us x y ys zs n u z one h =
    let a : sum_over each (map f us) ≡ sum_over each (map f xs) + (each + f x) = ap (λ (l : List A). sum_over each (map f l)) u ∙ over_pushed each f xs x in
    let b : sum (map g zs) ≡ g y + sum (map g ys) = ap (λ (l : List B). sum (map g l)) z in
    omega (arith, a, b, one, h)

pub given_weighs : (scene : Scene) (es : List Expr) → given_weight scene es ≡ weights scene (expressions_of es)
given_weighs scene [] = refl
given_weighs scene (x ∷ es) = ap (λ (n : ℕ). weight scene (expression_of x) + n) (given_weighs scene es)

dots_weigh : (scene : Scene) (xs : List (Access Expr)) → dots_weight scene xs ≡ g.dots scene xs
dots_weigh scene [] = refl
dots_weigh scene (x ∷ xs) = let h = dots_weigh scene xs in omega (arith, h)

parts_weigh : {Op : Type 0} (scene : Scene) (xs : List (Op × Expr)) → parts_weight scene xs ≡ g.parts scene xs
parts_weigh scene [] = refl
parts_weigh scene (x ∷ xs) = let h = parts_weigh scene xs in omega (arith, h)

dot_same : (called : ℕ → ℕ) (x : TAccess TExpr) → s.behind_dot called x ≡ dot_steps called x
dot_same called (checked.Property p) = refl
dot_same called (checked.Method kind x) = refl

dots_same : (called : ℕ → ℕ) (xs : List (TAccess TExpr)) → sum_over 1 (map (s.behind_dot called) xs) ≡ dots_steps called xs
dots_same called [] = refl
dots_same called (x ∷ xs) = let h = dots_same called xs in omega (arith, dot_same called x, h)

pub steps-Access : (called : ℕ → ℕ) (a : Box TExpr Global) (v : Vec (TAccess TExpr) Global) → expr_steps called (te.Access a v) ≡ expr_steps called a.value + dots_steps called v.items
steps-Access called a v = s.steps-Access called a v ∙ ap (λ (n : ℕ). expr_steps called a.value + n) (dots_same called v.items)

-- ---- calls

called_next : (x : TFunction) (fs : List TFunction) (place : Option ℕ) → called_at (x ∷ fs) (option_map suc place) ≡ called_at fs place
called_next x fs None = refl
called_next x fs (Some n) = refl

called_by_key : (x : TFunction) (fs : List TFunction) (b c : Bool) → b ≡ c → (known : Option Signature) (place : Option ℕ) → called_at fs place ≡ 5 * of_function known → called_at (x ∷ fs) (cond b (Some 0) (option_map suc place)) ≡ 5 * of_function (if c then Some (signature_of x) else known)
called_by_key x fs true true is known place h = refl
called_by_key x fs true false is known place h = absurd (true≢false is)
called_by_key x fs false true is known place h = absurd (true≢false (sym is))
called_by_key x fs false false is known place h = called_next x fs place ∙ h

called_in : (test : Vec ℕ Global → Bool) (name : List ℕ) → ((k : Vec ℕ Global) → test k ≡ same_name k.items name) → (es : List (Vec ℕ Global × TFunction)) (more : List TFunction) → called_at (map (λ x. x.1) es ++ more) (position test (keys_of es)) ≡ 5 * of_function (named_in (map (λ x. (x.0.items, signature_of x.1)) es) name)
called_in test name same [] more = refl
called_in test name same (x ∷ es) more =
    ap (λ (place : Option ℕ). called_at (x.1 ∷ (map (λ x. x.1) es ++ more)) place) (position_next test x.0 (keys_of es))
    ∙ called_by_key x.1 (map (λ x. x.1) es ++ more) (test x.0) (same_name x.0.items name) (same x.0) (named_in (map (λ x. (x.0.items, signature_of x.1)) es) name) (position test (keys_of es)) (called_in test name same es more)

pub function_weighed : (text : List ℕ) (scope : Scope) (name : Name) (key : List ℕ) (r : Option ℕ) (more : List TFunction) → key ≡ name_bytes text name → r ≡ position (λ (k : Vec ℕ Global). pointwise nat_eq key k.items) (keys_of scope.functions.entries) → called_at (function_trees scope ++ more) r ≡ 5 * of_function (scenes.function_of (scene_of text scope) name)
function_weighed text scope name key r more is at =
    ap (λ (place : Option ℕ). called_at (function_trees scope ++ more) place) at
    ∙ called_in (λ (k : Vec ℕ Global). pointwise nat_eq key k.items) (name_bytes text name) (is_key key (name_bytes text name) is) scope.functions.entries more

-- ---- forms

pub some_weight : (scene : Scene) (x : Expression) → 1 ≤ weight scene x
some_weight scene (Plain w) = omega arith
some_weight scene (Named n) = omega arith
some_weight scene (Called n place es) = omega arith
some_weight scene (Grouped at a) = omega arith
some_weight scene (Paired at a b) = omega arith
some_weight scene (SetOf at xs) = omega arith
some_weight scene (MaskOf at xs) = omega arith
some_weight scene (IsDefined at place attribute_at a) = omega arith
some_weight scene (MethodOf m place a b) = omega arith
some_weight scene (PropertyOf a p) = omega arith
some_weight scene (Changed a m place b) = omega arith
some_weight scene (Negated at a) = omega arith
some_weight scene (Multiplied a op b) = omega arith
some_weight scene (Added a op b) = omega arith
some_weight scene (Compared a op b) = omega arith
some_weight scene (Joined a op b) = omega arith

pub weaker : {A : Type 0} (r : Result A OutOfMemory) (scope : Scope) (steps : A → (ℕ → ℕ) → ℕ) (m n : ℕ) → m ≤ n → IfOk r (λ z. Takes scope (steps z) m) → IfOk r (λ z. Takes scope (steps z) n)
weaker r scope steps m n less h = IfOk-weaker r (λ z. Takes scope (steps z) m) (λ z. Takes scope (steps z) n) (λ z known more. omega (arith, known more, less)) h

-- a word takes one step
pub word_taken : (called : ℕ → ℕ) (scene : Scene) (x : Expression) (z : TExpr) → expr_steps called z ≡ 1 → 1 + expr_steps called z ≤ 5 * weight scene x
word_taken called scene x z is = omega (arith, is, some_weight scene x)

pub words_taken : (r : Result TExpr OutOfMemory) (scope : Scope) (scene : Scene) (x : Expression) → IfOk r (λ z. (called : ℕ → ℕ) → expr_steps called z ≡ 1) → IfOk r (λ z. Takes scope (λ called. 1 + expr_steps called z) (weight scene x))
words_taken r scope scene x h = IfOk-weaker r (λ z. (called : ℕ → ℕ) → expr_steps called z ≡ 1) (λ z. Takes scope (λ called. 1 + expr_steps called z) (weight scene x)) (λ z is more. word_taken (calls scope more) scene x z (is (calls scope more))) h

module _ (scope : Scope) (scene : Scene) (x : Expr) where
  abbrev weighs : Expr → ℕ
  weighs y = weight scene (expression_of y)

  pub not_taken : (at : ℕ) (a : Box Expr Global) (y : Expr) (b : Box TExpr Global) → x ≡ e.Not at a → y ≡ a.value → Takes scope (λ called. 1 + expr_steps called b.value) (weighs y) → Takes scope (λ called. 1 + expr_steps called (te.Not b)) (weighs x)
  not_taken at a y b is p h more =
      let w : weighs x ≡ 1 + weighs a.value = ap weighs is ∙ ap (weight scene) (o.is-Not at a) in
      omega (arith, w, ap weighs p, s.steps-Not (calls scope more) b, h more)

  pub call_taken : (n : Name) (place : ℕ) (v : Vec Expr Global) (l : List Expr) (z : TExpr) (u : List TExpr) → x ≡ e.Call n place v → l ≡ v.items → ((more : List TFunction) → expr_steps (calls scope more) z ≤ 2 + exprs_steps (calls scope more) u + 5 * of_function (scenes.function_of scene n)) → Takes scope (λ called. sum_over 1 (map (expr_steps called) u)) (given_weight scene l) → Takes scope (λ called. 1 + expr_steps called z) (weighs x)
  call_taken n place v l z u is all h given more =
      let w : weighs x ≡ 1 + weights scene (expressions_of v.items) + of_function (scenes.function_of scene n) = ap weighs is ∙ ap (weight scene) (o.is-Call n place v) in
      let same : given_weight scene l ≡ weights scene (expressions_of v.items) = given_weighs scene l ∙ ap (λ (l : List Expr). weights scene (expressions_of l)) all in
      omega (arith, w, same, sum_within (map (expr_steps (calls scope more)) u), h more, given more)

module _ (r : Result TExpr OutOfMemory) (scope : Scope) (scene : Scene) (x : Expr) where
  abbrev heavy : Expr → ℕ
  heavy y = weight scene (expression_of y)

  abbrev Known : ℕ → Type 0
  Known n = IfOk r (λ z. Takes scope (λ called. 1 + expr_steps called z) n)

  by_form : (n : ℕ) → n ≤ heavy x → Known n → Known (heavy x)
  by_form n less h = weaker r scope (λ z called. 1 + expr_steps called z) n (heavy x) less h

  pub group_taken : (at : ℕ) (b : Box Expr Global) (y : Expr) → x ≡ e.Group at b → y ≡ b.value → Known (heavy y) → Known (heavy x)
  group_taken at b y is p h =
      let w : heavy x ≡ 1 + heavy b.value = ap heavy is ∙ ap (weight scene) (o.is-Group at b) in
      by_form (heavy y) (omega (arith, w, ap heavy p)) h

  pub pair_taken : (at : ℕ) (a b : Box Expr Global) (y z : Expr) → x ≡ e.Pair at a b → y ≡ a.value → z ≡ b.value → Known (1 + heavy y + heavy z) → Known (heavy x)
  pair_taken at a b y z is p q h =
      let w : heavy x ≡ 1 + heavy a.value + heavy b.value = ap heavy is ∙ ap (weight scene) (o.is-Pair at a b) in
      by_form (1 + heavy y + heavy z) (omega (arith, w, ap heavy p, ap heavy q)) h

  pub method_taken : (m : Method) (place : ℕ) (a b : Box Expr Global) (y z : Expr) → x ≡ e.MethodCall m place a b → y ≡ a.value → z ≡ b.value → Known (1 + heavy y + heavy z) → Known (heavy x)
  method_taken m place a b y z is p q h =
      let w : heavy x ≡ 1 + heavy a.value + heavy b.value = ap heavy is ∙ ap (weight scene) (o.is-MethodCall m place a b) in
      by_form (1 + heavy y + heavy z) (omega (arith, w, ap heavy p, ap heavy q)) h

  pub compare_taken : (op : CompareOp) (a b : Box Expr Global) (y z : Expr) → x ≡ e.Compare op a b → y ≡ a.value → z ≡ b.value → Known (1 + heavy y + heavy z) → Known (heavy x)
  compare_taken op a b y z is p q h =
      let w : heavy x ≡ 1 + heavy a.value + heavy b.value = ap heavy is ∙ ap (weight scene) (o.is-Compare op a b) in
      by_form (1 + heavy y + heavy z) (omega (arith, w, ap heavy p, ap heavy q)) h

  pub access_taken : (a : Box Expr Global) (v : Vec (Access Expr) Global) (y : Expr) (l : List (Access Expr)) → x ≡ e.Postfix a v → y ≡ a.value → l ≡ v.items → Known (heavy y + dots_weight scene l) → Known (heavy x)
  access_taken a v y l is p q h =
      let w : heavy x ≡ heavy a.value + g.dots scene v.items = ap heavy is ∙ ap (weight scene) (o.is-Postfix a v) ∙ g.of-accessed scene (expression_of a.value) v.items in
      let m : dots_weight scene l ≡ g.dots scene v.items = dots_weigh scene l ∙ ap (λ (l : List (Access Expr)). g.dots scene l) q in
      by_form (heavy y + dots_weight scene l) (omega (arith, w, m, ap heavy p)) h

  pub product_taken : (a : Box Expr Global) (v : Vec (MulOp × Expr) Global) (y : Expr) (l : List (MulOp × Expr)) → x ≡ e.Product a v → y ≡ a.value → l ≡ v.items → Known (heavy y + parts_weight scene l) → Known (heavy x)
  product_taken a v y l is p q h =
      let w : heavy x ≡ heavy a.value + g.parts scene v.items = ap heavy is ∙ ap (weight scene) (o.is-Product a v) ∙ g.of-multiplied scene (expression_of a.value) v.items in
      let m : parts_weight scene l ≡ g.parts scene v.items = parts_weigh scene l ∙ ap (λ (l : List (MulOp × Expr)). g.parts scene l) q in
      by_form (heavy y + parts_weight scene l) (omega (arith, w, m, ap heavy p)) h

  pub sum_taken : (a : Box Expr Global) (v : Vec (AddOp × Expr) Global) (y : Expr) (l : List (AddOp × Expr)) → x ≡ e.Sum a v → y ≡ a.value → l ≡ v.items → Known (heavy y + parts_weight scene l) → Known (heavy x)
  sum_taken a v y l is p q h =
      let w : heavy x ≡ heavy a.value + g.parts scene v.items = ap heavy is ∙ ap (weight scene) (o.is-Sum a v) ∙ g.of-added scene (expression_of a.value) v.items in
      let m : parts_weight scene l ≡ g.parts scene v.items = parts_weigh scene l ∙ ap (λ (l : List (AddOp × Expr)). g.parts scene l) q in
      by_form (heavy y + parts_weight scene l) (omega (arith, w, m, ap heavy p)) h

  pub joint_taken : (a : Box Expr Global) (v : Vec (LogicalOp × Expr) Global) (y : Expr) (l : List (LogicalOp × Expr)) → x ≡ e.Logical a v → y ≡ a.value → l ≡ v.items → Known (heavy y + parts_weight scene l) → Known (heavy x)
  joint_taken a v y l is p q h =
      let w : heavy x ≡ heavy a.value + g.parts scene v.items = ap heavy is ∙ ap (weight scene) (o.is-Logical a v) ∙ g.of-joined scene (expression_of a.value) v.items in
      let m : parts_weight scene l ≡ g.parts scene v.items = parts_weigh scene l ∙ ap (λ (l : List (LogicalOp × Expr)). g.parts scene l) q in
      by_form (heavy y + parts_weight scene l) (omega (arith, w, m, ap heavy p)) h
