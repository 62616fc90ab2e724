-- What resolving keeps of statements.
use Rattle.std.proofs.Common.{◌≡◌, ℕ, List, [], ◌∷◌, map, Option, Some, None, option_map, Result, Ok, Err, IfOk, refl, sym, ap, ◌∙◌, Box, Vec}
use Rattle.std.specs.Global.{Global}
use Rattle.std.proofs.Math.Path.{fun_ext}
use Rattle.std.proofs.lemmas.Result.{IfOk-weaker}
use Rattle.bits_ip.specs.declared.memory.OutOfMemory.{OutOfMemory}
use Rattle.conf_ast.specs.declared.named.Name.{Name}
use Rattle.conf_ast.specs.Names.{name_bytes}
use Rattle.conf_ast.specs.declared.filters.Arm.{Arm}
use Rattle.conf_ast.specs.declared.filters.Change.{Change}
use Rattle.conf_ast.specs.declared.filters.Expr.{Expr}
use Rattle.conf_ast.specs.declared.filters.Item.{Item}
use Rattle.conf_ast.specs.declared.filters.MethodKind.{MethodKind}
use Rattle.conf_ast.specs.declared.filters.Stmt.{Stmt}
use Rattle.conf_ast.specs.declared.filters.Stmt.TheVariants as s
use Rattle.conf_ast.specs.declared.filters.Target.{Target}
use Rattle.conf_ast.specs.declared.filters.Target.TheVariants as targets
use Rattle.conf_ast.specs.declared.filters.VariableType.{VariableType}
use Rattle.conf_ast.specs.Filters.{Statement, Braced, Statements, expression_of, statement_of, statements_of, changed}
use Rattle.filt_meaning.specs.declared.value.Failure.{Failure}
use Rattle.filt_meaning.specs.declared.value.Failure.TheVariants as failures
use Rattle.filt_meaning.specs.declared.value.Sort.{Sort}
use Rattle.filt_meaning.specs.Operators.{emptied_of}
use Rattle.filt_meaning.specs.Values.{Val, default_of}
use Rattle.filt_meaning.specs.Flow.{Run, Frame, and_then}
use Rattle.filt_meaning.specs.Items.{has_label, set_of}
use Rattle.filt_meaning.specs.Meaning.{Act, act, acts, arms_act, arm, all_declared, assign, block, call, cases, choice, defaults, evaluate, given, give, in_turn, initial, loop, nothing, on_two, on_value, method_of, result, set_target, set_variable, value, within}
use Rattle.filt_meaning.specs.Names.{Around, Context, Doing, function_of, place_in, sort_of_type, with_variables}
use Rattle.filt_meaning.specs.declared.tree.Labels.{Labels}
use Rattle.filt_meaning.specs.declared.tree.TArm.{TArm}
use Rattle.filt_meaning.specs.declared.tree.TExpr.{TExpr}
use Rattle.filt_meaning.specs.declared.tree.TExpr.TheVariants as te
use Rattle.filt_meaning.specs.declared.tree.TStmt.{TStmt}
use Rattle.filt_meaning.specs.declared.tree.TStmt.TheVariants as ts
use Rattle.filt_meaning.specs.declared.tree.TTarget.{TTarget}
use Rattle.filt_meaning.specs.declared.tree.TTarget.TheVariants as checked
use Rattle.filt_meaning.specs.Trees as trees
use Rattle.filt_meaning.specs.Trees.{Tables, expr, exprs, all_values, stmt, stmts, body, in_order, set_place}
use Rattle.filt_types.specs.Walk.{arms_of}
use Rattle.filt_types.proofs.Trees as o
use Rattle.filt_resolve.specs.Seen.{values_in, at_place}
use Rattle.filt_check.specs.Seen.{Branch, acts_in, arm_in, arms_in, arms_seen, otherwise_in, picked, sorts_in}
use Rattle.filt_check.proofs.Forms as f
use Rattle.filt_resolve.proofs.Forms as expr_forms
use Rattle.filt_check.proofs.Gathered.{defaults_are}
use Rattle.filt_resolve.proofs.Resolving.{values_are}

-- ---- lists of parts

pub acts_are : (c : Context) (ss : List Stmt) → in_order (acts_in c ss) ≡ acts (statements_of ss) c
acts_are c [] = refl
acts_are c (x ∷ ss) = ap (λ (a : Act). in_turn (act (statement_of x) c) a) (acts_are c ss)

pub body_same : (t : Tables) (c : Context) (us : List TStmt) (ss : List Stmt) → stmts t us ≡ acts_in c ss → body t us ≡ acts (statements_of ss) c
body_same t c us ss h = ap in_order h ∙ acts_are c ss

seen_arms : (t : Tables) (xs : List (TArm TStmt)) (other : Act) (v : Val) → trees.arms (trees.arms_of t xs) other v ≡ picked (arms_seen t xs) other v
seen_arms t [] other v = refl
seen_arms t (x ∷ xs) other v = ap (λ (a : Act). arm (trees.has x.labels v) (body t x.body.items) a) (seen_arms t xs other v)

meant_arms : (c : Context) (xs : List (Arm Stmt)) (other : Act) (v : Val) → arms_act (arms_of xs) c other v ≡ picked (arms_in c xs) other v
meant_arms c [] other v = refl
meant_arms c (x ∷ xs) other v = ap (λ (a : Act). arm (has_label c x.labels.items v) (acts (statements_of x.body.items) c) a) (meant_arms c xs other v)

pub arm_made : (t : Tables) (c : Context) (labels : Labels) (us : List TStmt) (x : Arm Stmt) (ls : List Item) (ss : List Stmt) → ls ≡ x.labels.items → ss ≡ x.body.items → trees.set_of_labels labels ≡ set_of c ls → stmts t us ≡ acts_in c ss → (trees.set_of_labels labels, body t us) ≡ arm_in c x
arm_made t c labels us x ls ss p q h g =
    ap (λ (r : Result Val Failure). (r, body t us)) (h ∙ ap (λ (l : List Item). set_of c l) p)
    ∙ ap (λ (a : Act). (set_of c x.labels.items, a)) (body_same t c us ss g ∙ ap (λ (l : List Stmt). acts (statements_of l) c) q)

-- ---- targets

pub local_target : (c : Context) (n : Name) (slot : ℕ) (variables : List (List ℕ)) (key : List ℕ) → key ≡ name_bytes c.text n → variables ≡ c.variables → Some slot ≡ place_in variables key → set_place (checked.Local slot) ≡ set_target c (targets.Name n)
local_target c n slot variables key is same at =
    ap (λ (place : Option ℕ). set_variable place) (at ∙ ap (λ (k : List ℕ). place_in variables k) is ∙ ap (λ (l : List (List ℕ)). place_in l (name_bytes c.text n)) same)

pub no_target : (c : Context) (n : Name) (variables : List (List ℕ)) (key : List ℕ) → key ≡ name_bytes c.text n → variables ≡ c.variables → None ≡ place_in variables key → set_place checked.Nowhere ≡ set_target c (targets.Name n)
no_target c n variables key is same at =
    ap (λ (place : Option ℕ). set_variable place) (at ∙ ap (λ (k : List ℕ). place_in variables k) is ∙ ap (λ (l : List (List ℕ)). place_in l (name_bytes c.text n)) same)

assign_same : (c : Context) (p : TTarget) (target : Target) (a b : Run Val) → set_place p ≡ set_target c target → a ≡ b → trees.assign p a ≡ assign c target b
assign_same c p target a b same h =
    ap (λ (g : Val → Act). λ (vals : Frame) attrs. and_then (a vals attrs) (λ v attrs. g v vals attrs)) same ∙ ap (λ (r : Run Val). assign c target r) h

pub assigned : (t : Tables) (c : Context) (p : TTarget) (target : Target) (x : TExpr) (b : Run Val) → set_place p ≡ set_target c target → expr x t ≡ b → stmt (ts.Assign p x) t ≡ assign c target b
assigned t c p target x b same h = f.stmt-Assign p x t ∙ assign_same c p target (expr x t) b same h

pub default_assigned : (t : Tables) (c : Context) (p : TTarget) (n : Name) (k : Sort) (v : VariableType) (e : Option Expr) → set_place p ≡ set_target c (targets.Name n) → k ≡ sort_of_type v → e ≡ None → stmt (ts.Assign p (te.Default k)) t ≡ assign c (targets.Name n) (initial v (option_map expression_of e) c)
default_assigned t c p n k v e same is none =
    assigned t c p (targets.Name n) (te.Default k) (given (Ok (default_of (sort_of_type v)))) same (expr_forms.expr-Default k t ∙ ap (λ (k : Sort). given (Ok (default_of k))) is)
    ∙ ap (λ (e : Option Expr). assign c (targets.Name n) (initial v (option_map expression_of e) c)) (sym none)

pub value_assigned : (t : Tables) (c : Context) (p : TTarget) (n : Name) (v : VariableType) (e : Option Expr) (x : TExpr) (y : Expr) → set_place p ≡ set_target c (targets.Name n) → expr x t ≡ value (expression_of y) c → e ≡ Some y → stmt (ts.Assign p x) t ≡ assign c (targets.Name n) (initial v (option_map expression_of e) c)
value_assigned t c p n v e x y same h is =
    assigned t c p (targets.Name n) x (value (expression_of y) c) same h
    ∙ ap (λ (e : Option Expr). assign c (targets.Name n) (initial v (option_map expression_of e) c)) (sym is)

pub method_same : (t : Tables) (k : MethodKind) (a b : Box TExpr Global) (u v : Run Val) → expr a.value t ≡ u → expr b.value t ≡ v → expr (te.Method k a b) t ≡ on_two u v (method_of k)
method_same t k a b u v p q = expr_forms.expr-Method k a b t ∙ ap (λ (r : Run Val). on_two r (expr b.value t) (method_of k)) p ∙ ap (λ (r : Run Val). on_two u r (method_of k)) q

pub empty_same : (t : Tables) (a : Box TExpr Global) (u : Run Val) → expr a.value t ≡ u → expr (te.Empty a) t ≡ on_value u emptied_of
empty_same t a u p = expr_forms.expr-Empty a t ∙ ap (λ (r : Run Val). on_value r emptied_of) p

-- ---- ends, calls

pub returned_none : (t : Tables) (c : Context) (e : Option Expr) → e ≡ None → stmt (ts.Return None) t ≡ result (option_map expression_of e) c
returned_none t c e none = f.stmt-Return None t ∙ ap (λ (e : Option Expr). result (option_map expression_of e) c) (sym none)

pub returned_some : (t : Tables) (c : Context) (e : Option Expr) (x : TExpr) (y : Expr) → expr x t ≡ value (expression_of y) c → e ≡ Some y → stmt (ts.Return (Some x)) t ≡ result (option_map expression_of e) c
returned_some t c e x y h is = f.stmt-Return (Some x) t ∙ ap (λ (r : Run Val). give r) h ∙ ap (λ (e : Option Expr). result (option_map expression_of e) c) (sym is)

pub printed : (t : Tables) (v : Vec TExpr Global) (rs : List (Run Val)) → exprs t v.items ≡ rs → stmt (ts.Print v) t ≡ evaluate (all_values rs)
printed t v rs h = f.stmt-Print v t ∙ ap (λ (l : List (Run Val)). evaluate (all_values l)) h

pub call_known : (t : Tables) (d : Option Doing) (n : ℕ) (v : Vec TExpr Global) (rs : List (Run Val)) → d ≡ at_place t.functions (Some n) → exprs t v.items ≡ rs → stmt (ts.Call n v) t ≡ evaluate (call d (all_values rs))
call_known t d n v rs at h = f.stmt-Call n v t ∙ ap (λ (o : Option Doing). evaluate (call o (all_values (exprs t v.items)))) (sym at) ∙ ap (λ (l : List (Run Val)). evaluate (call d (all_values l))) h

stuck_call : (a : Run Frame) → give (given (Err failures.Stuck)) ≡ evaluate (call None a)
stuck_call a = refl

pub call_unknown : (t : Tables) (d : Option Doing) (rs : List (Run Val)) → d ≡ None → stmt (ts.Return (Some te.Stuck)) t ≡ evaluate (call d (all_values rs))
call_unknown t d rs none = f.stmt-Return (Some te.Stuck) t ∙ ap (λ (r : Run Val). give r) (expr_forms.expr-Stuck t) ∙ stuck_call (all_values rs) ∙ ap (λ (o : Option Doing). evaluate (call o (all_values rs))) (sym none)

-- ---- statements of statements

pub if_made : (t : Tables) (x : TExpr) (b : Box TStmt Global) (u : Run Val) (a : Act) → expr x t ≡ u → stmt b.value t ≡ a → stmt (ts.If x b) t ≡ choice u a nothing
if_made t x b u a p q = f.stmt-If x b t ∙ ap (λ (r : Run Val). choice r (stmt b.value t) nothing) p ∙ ap (λ (z : Act). choice u z nothing) q

pub if_else_made : (t : Tables) (x : TExpr) (b d : Box TStmt Global) (u : Run Val) (a z : Act) → expr x t ≡ u → stmt b.value t ≡ a → stmt d.value t ≡ z → stmt (ts.IfElse x b d) t ≡ choice u a z
if_else_made t x b d u a z p q w = f.stmt-IfElse x b d t ∙ ap (λ (r : Run Val). choice r (stmt b.value t) (stmt d.value t)) p ∙ ap (λ (y : Act). choice u y (stmt d.value t)) q ∙ ap (λ (y : Act). choice u a y) w

pub loop_made : (t : Tables) (x : TExpr) (b : Box TStmt Global) (u : Run Val) (a : Act) → expr x t ≡ u → stmt b.value t ≡ a → stmt (ts.For x b) t ≡ loop u a
loop_made t x b u a p q = f.stmt-For x b t ∙ ap (λ (r : Run Val). loop r (stmt b.value t)) p ∙ ap (λ (z : Act). loop u z) q

pub case_made : (t : Tables) (x : TExpr) (v : Vec (TArm TStmt) Global) (w : Vec TStmt Global) (u : Run Val) (bs : List Branch) (a : Act) → expr x t ≡ u → arms_seen t v.items ≡ bs → body t w.items ≡ a → stmt (ts.Case x v w) t ≡ cases u (picked bs a)
case_made t x v w u bs a p q r =
    f.stmt-Case x v w t ∙ ap (λ (r : Run Val). cases r (trees.arms (trees.arms_of t v.items) (body t w.items))) p
    ∙ ap (λ (g : Val → Act). cases u g) (fun_ext (seen_arms t v.items (body t w.items)))
    ∙ ap (λ (bs : List Branch). cases u (picked bs (body t w.items))) q ∙ ap (λ (z : Act). cases u (picked bs z)) r

pub block_made : (t : Tables) (c : Context) (k : Vec Sort Global) (v : Vec TStmt Global) (ss : Statements) → k.items ≡ sorts_in (all_declared c.text ss) → body t v.items ≡ acts ss (within c (all_declared c.text ss)) → stmt (ts.Block k v) t ≡ act (Braced ss) c
block_made t c k v ss sorts is =
    f.stmt-Block k v t ∙ ap (λ (l : List Sort). block (map default_of l) (body t v.items)) sorts
    ∙ ap (λ (l : Frame). block l (body t v.items)) (defaults_are (all_declared c.text ss)) ∙ ap (λ (a : Act). block (defaults (all_declared c.text ss)) a) is

-- ---- answers of calls

pub weaker : (r : Result TStmt OutOfMemory) (t : Around → Tables) (a b : Around → Act) → ((around : Around) → a around ≡ b around) → IfOk r (λ z. (around : Around) → stmt z (t around) ≡ a around) → IfOk r (λ z. (around : Around) → stmt z (t around) ≡ b around)
weaker r t a b same h = IfOk-weaker r (λ z. (around : Around) → stmt z (t around) ≡ a around) (λ z. (around : Around) → stmt z (t around) ≡ b around) (λ z is around. is around ∙ same around) h

module _ (r : Result TStmt OutOfMemory) (t : Around → Tables) (c : Around → Context) (x : Stmt) where
  abbrev Known : (Around → Act) → Type 0
  Known a = IfOk r (λ z. (around : Around) → stmt z (t around) ≡ a around)

  abbrev Same : Type 0
  Same = IfOk r (λ z. (around : Around) → stmt z (t around) ≡ act (statement_of x) (c around))

  by_form : (y : Stmt) (d : Statement) → x ≡ y → statement_of y ≡ d → (a : Around → Act) → ((around : Around) → a around ≡ act d (c around)) → Known a → Same
  by_form y d is as_y a same h = weaker r t a (λ around. act (statement_of x) (c around)) (λ around. same around ∙ sym (ap (λ (y : Stmt). act (statement_of y) (c around)) is ∙ ap (λ (d : Statement). act d (c around)) as_y)) h

  pub block_ok : (v : Vec Stmt Global) (l : List Stmt) → x ≡ s.Block v → l ≡ v.items → Known (λ around. act (Braced (statements_of l)) (c around)) → Same
  block_ok v l is all h = by_form (s.Block v) (Braced (statements_of v.items)) is (o.as-Block v) (λ around. act (Braced (statements_of l)) (c around)) (λ around. ap (λ (l : List Stmt). act (Braced (statements_of l)) (c around)) all) h

  pub print_ok : (v : Vec Expr Global) (l : List Expr) → x ≡ s.Print v → l ≡ v.items → Known (λ around. evaluate (all_values (values_in (c around) l))) → Same
  print_ok v l is all h = by_form (s.Print v) _ is (o.as-Print v) (λ around. evaluate (all_values (values_in (c around) l))) (λ around. ap (λ (l : List Expr). evaluate (all_values (values_in (c around) l))) all ∙ ap (λ (a : Run Frame). evaluate a) (values_are (c around) v.items)) h

  pub print_part_ok : (v : Vec Expr Global) (l : List Expr) → x ≡ s.Printn v → l ≡ v.items → Known (λ around. evaluate (all_values (values_in (c around) l))) → Same
  print_part_ok v l is all h = by_form (s.Printn v) _ is (o.as-Printn v) (λ around. evaluate (all_values (values_in (c around) l))) (λ around. ap (λ (l : List Expr). evaluate (all_values (values_in (c around) l))) all ∙ ap (λ (a : Run Frame). evaluate a) (values_are (c around) v.items)) h

  pub call_ok : (n : Name) (place : ℕ) (v : Vec Expr Global) (l : List Expr) → x ≡ s.Call n place v → l ≡ v.items → Known (λ around. evaluate (call (function_of (c around) n) (all_values (values_in (c around) l)))) → Same
  call_ok n place v l is all h = by_form (s.Call n place v) _ is (o.as-Call n place v) (λ around. evaluate (call (function_of (c around) n) (all_values (values_in (c around) l))))
      (λ around. ap (λ (l : List Expr). evaluate (call (function_of (c around) n) (all_values (values_in (c around) l)))) all ∙ ap (λ (a : Run Frame). evaluate (call (function_of (c around) n) a)) (values_are (c around) v.items)) h

  pub declare_ok : (v : VariableType) (n : Name) (e : Option Expr) → x ≡ s.Declare v n e → Known (λ around. assign (c around) (targets.Name n) (initial v (option_map expression_of e) (c around))) → Same
  declare_ok v n e is h = by_form (s.Declare v n e) _ is (o.as-Declare v n e) (λ around. assign (c around) (targets.Name n) (initial v (option_map expression_of e) (c around))) (λ around. refl) h

  pub assign_ok : (target : Target) (e : Expr) → x ≡ s.Assign target e → Known (λ around. assign (c around) target (value (expression_of e) (c around))) → Same
  assign_ok target e is h = by_form (s.Assign target e) _ is (o.as-Assign target e) (λ around. assign (c around) target (value (expression_of e) (c around))) (λ around. refl) h

  pub change_ok : (target : Target) (what : Change) → x ≡ s.Change target what → Known (λ around. act (changed target what) (c around)) → Same
  change_ok target what is h = by_form (s.Change target what) _ is (o.as-Change target what) (λ around. act (changed target what) (c around)) (λ around. refl) h

  pub return_ok : (at : ℕ) (e : Option Expr) → x ≡ s.Return at e → Known (λ around. result (option_map expression_of e) (c around)) → Same
  return_ok at e is h = by_form (s.Return at e) _ is (o.as-Return at e) (λ around. result (option_map expression_of e) (c around)) (λ around. refl) h

  pub if_ok : (e : Expr) (b : Box Stmt Global) (y : Stmt) → x ≡ s.If e b → y ≡ b.value → Known (λ around. choice (value (expression_of e) (c around)) (act (statement_of y) (c around)) nothing) → Same
  if_ok e b y is inner h = by_form (s.If e b) _ is (o.as-If e b) (λ around. choice (value (expression_of e) (c around)) (act (statement_of y) (c around)) nothing) (λ around. ap (λ (y : Stmt). choice (value (expression_of e) (c around)) (act (statement_of y) (c around)) nothing) inner) h

  pub if_else_ok : (e : Expr) (b d : Box Stmt Global) (y z : Stmt) → x ≡ s.IfElse e b d → y ≡ b.value → z ≡ d.value → Known (λ around. choice (value (expression_of e) (c around)) (act (statement_of y) (c around)) (act (statement_of z) (c around))) → Same
  if_else_ok e b d y z is one other h = by_form (s.IfElse e b d) _ is (o.as-IfElse e b d) (λ around. choice (value (expression_of e) (c around)) (act (statement_of y) (c around)) (act (statement_of z) (c around)))
      (λ around. ap (λ (y : Stmt). choice (value (expression_of e) (c around)) (act (statement_of y) (c around)) (act (statement_of z) (c around))) one ∙ ap (λ (z : Stmt). choice (value (expression_of e) (c around)) (act (statement_of b.value) (c around)) (act (statement_of z) (c around))) other) h

  pub for_ok : (at : ℕ) (v : VariableType) (n : Name) (e : Expr) (b : Box Stmt Global) (y : Stmt) (inner : Around → Context) → x ≡ s.For at v n e b → y ≡ b.value → ((around : Around) → inner around ≡ with_variables (c around) (name_bytes (c around).text n ∷ [])) → Known (λ around. loop (value (expression_of e) (c around)) (act (statement_of y) (inner around))) → Same
  for_ok at v n e b y inner is one own h = by_form (s.For at v n e b) _ is (o.as-For at v n e b) (λ around. loop (value (expression_of e) (c around)) (act (statement_of y) (inner around)))
      (λ around. ap (λ (y : Stmt). loop (value (expression_of e) (c around)) (act (statement_of y) (inner around))) one ∙ ap (λ (i : Context). loop (value (expression_of e) (c around)) (act (statement_of b.value) i)) (own around)) h

  case_by : (at : ℕ) (e : Expr) (v : Vec (Arm Stmt) Global) (other : Option (Vec Stmt Global)) (around : Around) → cases (value (expression_of e) (c around)) (picked (arms_in (c around) v.items) (otherwise_in (c around) other)) ≡ act (statement_of (s.Case at e v other)) (c around)
  case_by at e v None around = ap (λ (g : Val → Act). cases (value (expression_of e) (c around)) g) (sym (fun_ext (meant_arms (c around) v.items nothing))) ∙ sym (ap (λ (d : Statement). act d (c around)) (o.as-Case at e v))
  case_by at e v (Some w) around = ap (λ (g : Val → Act). cases (value (expression_of e) (c around)) g) (sym (fun_ext (meant_arms (c around) v.items (acts (statements_of w.items) (c around))))) ∙ sym (ap (λ (d : Statement). act d (c around)) (o.as-CaseElse at e v w))

  pub case_ok : (at : ℕ) (e : Expr) (v : Vec (Arm Stmt) Global) (l : List (Arm Stmt)) (other : Option (Vec Stmt Global)) → x ≡ s.Case at e v other → l ≡ v.items → Known (λ around. cases (value (expression_of e) (c around)) (picked (arms_in (c around) l) (otherwise_in (c around) other))) → Same
  case_ok at e v l other is all h = by_form (s.Case at e v other) (statement_of (s.Case at e v other)) is refl (λ around. cases (value (expression_of e) (c around)) (picked (arms_in (c around) l) (otherwise_in (c around) other)))
      (λ around. ap (λ (l : List (Arm Stmt)). cases (value (expression_of e) (c around)) (picked (arms_in (c around) l) (otherwise_in (c around) other))) all ∙ case_by at e v other around) h

-- ---- single forms

pub form_same : (t : Tables) (c : Context) (z : TStmt) (a : Act) (x y : Stmt) (d : Statement) → stmt z t ≡ a → a ≡ act d c → x ≡ y → statement_of y ≡ d → stmt z t ≡ act (statement_of x) c
form_same t c z a x y d h same is as_y = h ∙ same ∙ sym (ap (λ (y : Stmt). act (statement_of y) c) is ∙ ap (λ (d : Statement). act d c) as_y)
