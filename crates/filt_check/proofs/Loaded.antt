-- How many steps the trees of statements take, beside what their sources weigh and declare.
use Rattle.std.proofs.Common.{◌≡◌, ℕ, ◌+◌, ◌*◌, ◌≤◌, List, [], ◌∷◌, ◌++◌, drop, length, length-append, map, Option, Some, option_map, Result, IfOk, refl, sym, ap, ◌∙◌, arith, Box, Vec}
use Rattle.std.specs.Global.{Global}
use Rattle.std.proofs.lemmas.List.{drop_all}
use Rattle.std.proofs.lemmas.Result.{IfOk-weaker}
use Rattle.bits_ip.specs.declared.memory.OutOfMemory.{OutOfMemory}
use Rattle.conf_ast.specs.declared.named.Name.{Name}
use Rattle.conf_ast.specs.declared.filters.Arm.{Arm}
use Rattle.conf_ast.specs.declared.filters.Change.{Change}
use Rattle.conf_ast.specs.declared.filters.Change.TheVariants as changes
use Rattle.conf_ast.specs.declared.filters.Expr.{Expr}
use Rattle.conf_ast.specs.declared.filters.Stmt.{Stmt}
use Rattle.conf_ast.specs.declared.filters.Stmt.TheVariants as s
use Rattle.conf_ast.specs.declared.filters.Target.{Target}
use Rattle.conf_ast.specs.declared.filters.VariableType.{VariableType}
use Rattle.conf_ast.specs.Filters.{Statement, Braced, changed, expression_of, expressions_of, statement_of, statements_of}
use Rattle.filt_meaning.specs.declared.scope.Scope.{Scope}
use Rattle.filt_meaning.specs.declared.tree.TArm.{TArm}
use Rattle.filt_meaning.specs.declared.tree.TStmt.{TStmt}
use Rattle.filt_meaning.specs.declared.tree.TStmt.TheVariants as ts
use Rattle.conf_ast.specs.declared.attribute.Attribute.{Attribute}
use Rattle.filt_meaning.specs.Meaning.{declared, all_declared}
use Rattle.filt_meaning.specs.Names.{Variable}
use Rattle.filt_meaning.specs.Steps.{arms_steps, body_steps, stmt_step, stmt_steps, sum}
use Rattle.filt_types.specs.Scenes as scenes
use Rattle.filt_types.specs.Scenes.{Scene}
use Rattle.filt_types.specs.Walk.{arms_of}
use Rattle.filt_types.specs.Weight.{act_weight, acts_weight, arms_weight, of_function, optional, weight, weights}
use Rattle.filt_types.proofs.Trees as o
use Rattle.filt_types.specs.Walk.{else_of}
use Rattle.filt_types.proofs.Weighing as g
use Rattle.filt_check.specs.Seen.{arm_declares, arms_declare, otherwise_declares}
use Rattle.filt_resolve.specs.Steps.{Takes, given_weight}
use Rattle.filt_check.proofs.Forms as f
use Rattle.filt_check.proofs.Gathered.{if_declares, if_else_declares, for_declares, case_declares}
use Rattle.filt_resolve.proofs.Taken.{given_weighs}

-- ---- words

pub act-steps-Nothing : (called : ℕ → ℕ) → stmt_steps called ts.Nothing ≡ 0
act-steps-Nothing called = f.do-Nothing ℕ (stmt_step called)

pub act-steps-Unset : (called : ℕ → ℕ) (a : Attribute) → stmt_steps called (ts.Unset a) ≡ 1
act-steps-Unset called a = f.do-Unset ℕ (stmt_step called) a

pub act-steps-Accept : (called : ℕ → ℕ) → stmt_steps called ts.Accept ≡ 1
act-steps-Accept called = f.do-Accept ℕ (stmt_step called)

pub act-steps-Reject : (called : ℕ → ℕ) → stmt_steps called ts.Reject ≡ 1
act-steps-Reject called = f.do-Reject ℕ (stmt_step called)

-- ---- lists

sum_pushed : {A : Type 0} (f : A → ℕ) (xs : List A) (x : A) → sum (map f (xs ++ x ∷ [])) ≡ sum (map f xs) + f x
sum_pushed f [] x = omega arith
sum_pushed f (y ∷ ys) x = let h = sum_pushed f ys x in omega (arith, h)

-- one statement more is made, and one less is left
pub more_acts : (text : List ℕ) (scene : Scene) (called : ℕ → ℕ) (xs us : List TStmt) (x : TStmt) (y : Stmt) (ys zs : List Stmt) (d n : ℕ) → us ≡ xs ++ x ∷ [] → zs ≡ y ∷ ys → 2 + length (declared text (statement_of y)) + stmt_steps called x ≤ 5 * act_weight scene (statement_of y) → d + body_steps called xs + 5 * acts_weight scene (statements_of zs) ≤ n + length (all_declared text (statements_of zs)) → d + body_steps called us + 5 * acts_weight scene (statements_of ys) ≤ n + length (all_declared text (statements_of ys))
more_acts text scene called xs us x y ys zs d n u z one h =
    let a : body_steps called us ≡ body_steps called xs + stmt_steps called x = ap (λ (l : List TStmt). body_steps called l) u ∙ sum_pushed (stmt_steps called) xs x in
    let b : acts_weight scene (statements_of zs) ≡ act_weight scene (statement_of y) + acts_weight scene (statements_of ys) = ap (λ (l : List Stmt). acts_weight scene (statements_of l)) z in
    let e : length (all_declared text (statements_of zs)) ≡ length (declared text (statement_of y)) + length (all_declared text (statements_of ys)) = ap (λ (l : List Stmt). length (all_declared text (statements_of l))) z ∙ length-append (declared text (statement_of y)) (all_declared text (statements_of ys)) in
    omega (arith, a, b, e, one, h)

pub all_acts : (text : List ℕ) (scene : Scene) (ss : List Stmt) (i m n : ℕ) → length ss ≤ i → m + 5 * acts_weight scene (statements_of (drop i ss)) ≤ n + length (all_declared text (statements_of (drop i ss))) → m ≤ n
all_acts text scene ss i m n over h =
    let e : length (all_declared text (statements_of (drop i ss))) ≡ 0 = ap (λ (l : List Stmt). length (all_declared text (statements_of l))) (drop_all i ss over) in
    omega (arith, e, h)

pub more_arms : (text : List ℕ) (scene : Scene) (called : ℕ → ℕ) (xs us : List (TArm TStmt)) (x : TArm TStmt) (y : Arm Stmt) (ys zs : List (Arm Stmt)) (d n : ℕ) → us ≡ xs ++ x ∷ [] → zs ≡ y ∷ ys → length (arm_declares text y) + body_steps called x.body.items ≤ 5 * acts_weight scene (statements_of y.body.items) → d + arms_steps called xs + 5 * arms_weight scene (arms_of zs) ≤ n + length (arms_declare text zs) → d + arms_steps called us + 5 * arms_weight scene (arms_of ys) ≤ n + length (arms_declare text ys)
more_arms text scene called xs us x y ys zs d n u z one h =
    let a : arms_steps called us ≡ arms_steps called xs + body_steps called x.body.items = ap (λ (l : List (TArm TStmt)). arms_steps called l) u ∙ sum_pushed (λ (a : TArm TStmt). body_steps called a.body.items) xs x in
    let b : arms_weight scene (arms_of zs) ≡ acts_weight scene (statements_of y.body.items) + arms_weight scene (arms_of ys) = ap (λ (l : List (Arm Stmt)). arms_weight scene (arms_of l)) z in
    let e : length (arms_declare text zs) ≡ length (arm_declares text y) + length (arms_declare text ys) = ap (λ (l : List (Arm Stmt)). length (arms_declare text l)) z ∙ length-append (arm_declares text y) (arms_declare text ys) in
    omega (arith, a, b, e, one, h)

pub all_arms : (text : List ℕ) (scene : Scene) (xs : List (Arm Stmt)) (i m n : ℕ) → length xs ≤ i → m + 5 * arms_weight scene (arms_of (drop i xs)) ≤ n + length (arms_declare text (drop i xs)) → m ≤ n
all_arms text scene xs i m n over h =
    let e : length (arms_declare text (drop i xs)) ≡ 0 = ap (λ (l : List (Arm Stmt)). length (arms_declare text l)) (drop_all i xs over) in
    omega (arith, e, h)

pub otherwise_taken : (r : Result (Vec TStmt Global) OutOfMemory) (text : List ℕ) (scope : Scope) (scene : Scene) (other : Option (Vec Stmt Global)) (v : Vec Stmt Global) (l : List Stmt) → other ≡ Some v → l ≡ v.items → IfOk r (λ z. Takes scope (λ called. length (all_declared text (statements_of l)) + body_steps called z.items) (acts_weight scene (statements_of l))) → IfOk r (λ z. Takes scope (λ called. length (otherwise_declares text other) + body_steps called z.items) (acts_weight scene (else_of other)))
otherwise_taken r text scope scene other v l is all h =
    let a : length (otherwise_declares text other) ≡ length (all_declared text (statements_of l)) = ap (λ (o : Option (Vec Stmt Global)). length (otherwise_declares text o)) is ∙ sym (ap (λ (l : List Stmt). length (all_declared text (statements_of l))) all) in
    let b : acts_weight scene (else_of other) ≡ acts_weight scene (statements_of l) = ap (λ (o : Option (Vec Stmt Global)). acts_weight scene (else_of o)) is ∙ sym (ap (λ (l : List Stmt). acts_weight scene (statements_of l)) all) in
    IfOk-weaker r (λ z. Takes scope (λ called. length (all_declared text (statements_of l)) + body_steps called z.items) (acts_weight scene (statements_of l))) (λ z. Takes scope (λ called. length (otherwise_declares text other) + body_steps called z.items) (acts_weight scene (else_of other))) (λ z known more. omega (arith, a, b, known more)) h

-- ---- forms

none_changed : (text : List ℕ) (target : Target) (what : Change) → length (declared text (changed target what)) ≡ 0
none_changed text target changes.Empty = refl
none_changed text target (changes.Method m place x) = refl

-- a statement of one step, or none
pub plain_taken : (called : ℕ → ℕ) (text : List ℕ) (scene : Scene) (z : TStmt) (n : ℕ) (x y : Stmt) (d : Statement) → stmt_steps called z ≡ n → n ≤ 1 → x ≡ y → statement_of y ≡ d → length (declared text d) ≡ 0 → act_weight scene d ≡ 1 → 2 + length (declared text (statement_of x)) + stmt_steps called z ≤ 5 * act_weight scene (statement_of x)
plain_taken called text scene z n x y d steps few is as_d none one =
    let a : length (declared text (statement_of x)) ≡ 0 = ap (λ (y : Stmt). length (declared text (statement_of y))) is ∙ ap (λ (d : Statement). length (declared text d)) as_d ∙ none in
    let b : act_weight scene (statement_of x) ≡ 1 = ap (λ (y : Stmt). act_weight scene (statement_of y)) is ∙ ap (λ (d : Statement). act_weight scene d) as_d ∙ one in
    omega (arith, a, b, steps, few)

module _ (r : Result TStmt OutOfMemory) (text : List ℕ) (scope : Scope) (scene : Scene) (x : Stmt) where
  abbrev loads : Stmt → ℕ
  loads y = act_weight scene (statement_of y)

  abbrev names : Stmt → ℕ
  names y = length (declared text (statement_of y))

  abbrev Known : ℕ → ℕ → Type 0
  Known k n = IfOk r (λ z. Takes scope (λ called. k + stmt_steps called z) n)

  abbrev Within : Type 0
  Within = IfOk r (λ z. Takes scope (λ called. 2 + length (declared text (statement_of x)) + stmt_steps called z) (act_weight scene (statement_of x)))

  by_form : (k n : ℕ) → 2 + names x ≤ k → n ≤ loads x → Known k n → Within
  by_form k n few less h = IfOk-weaker r (λ z. Takes scope (λ called. k + stmt_steps called z) n) (λ z. Takes scope (λ called. 2 + names x + stmt_steps called z) (loads x)) (λ z known more. omega (arith, few, less, known more)) h

  loads_of : (y : Stmt) (d : Statement) → x ≡ y → statement_of y ≡ d → loads x ≡ act_weight scene d
  loads_of y d is as_d = ap loads is ∙ ap (λ (d : Statement). act_weight scene d) as_d

  names_of : (y : Stmt) (d : Statement) → x ≡ y → statement_of y ≡ d → names x ≡ length (declared text d)
  names_of y d is as_d = ap names is ∙ ap (λ (d : Statement). length (declared text d)) as_d

  pub block_taken : (v : Vec Stmt Global) (l : List Stmt) → x ≡ s.Block v → l ≡ v.items → Known 2 (1 + acts_weight scene (statements_of l)) → Within
  block_taken v l is all h =
      let w : loads x ≡ 1 + acts_weight scene (statements_of v.items) = loads_of (s.Block v) (Braced (statements_of v.items)) is (o.as-Block v) in
      let n : names x ≡ 0 = names_of (s.Block v) (Braced (statements_of v.items)) is (o.as-Block v) in
      by_form 2 (1 + acts_weight scene (statements_of l)) (omega (arith, n)) (omega (arith, w, ap (λ (l : List Stmt). acts_weight scene (statements_of l)) all)) h

  pub declare_taken : (v : VariableType) (n : Name) (e : Option Expr) → x ≡ s.Declare v n e → Known 3 (1 + optional scene (option_map expression_of e)) → Within
  declare_taken v n e is h =
      let w : loads x ≡ 1 + optional scene (option_map expression_of e) = loads_of (s.Declare v n e) _ is (o.as-Declare v n e) in
      let m : names x ≡ 1 = names_of (s.Declare v n e) _ is (o.as-Declare v n e) in
      by_form 3 (1 + optional scene (option_map expression_of e)) (omega (arith, m)) (omega (arith, w)) h

  pub assign_taken : (target : Target) (e : Expr) → x ≡ s.Assign target e → Known 2 (1 + weight scene (expression_of e)) → Within
  assign_taken target e is h =
      let w : loads x ≡ 1 + weight scene (expression_of e) = loads_of (s.Assign target e) _ is (o.as-Assign target e) in
      let m : names x ≡ 0 = names_of (s.Assign target e) _ is (o.as-Assign target e) in
      by_form 2 (1 + weight scene (expression_of e)) (omega (arith, m)) (omega (arith, w)) h

  pub change_taken : (target : Target) (what : Change) → x ≡ s.Change target what → Known 2 (act_weight scene (changed target what)) → Within
  change_taken target what is h =
      let w : loads x ≡ act_weight scene (changed target what) = loads_of (s.Change target what) _ is (o.as-Change target what) in
      let m : names x ≡ 0 = names_of (s.Change target what) _ is (o.as-Change target what) ∙ none_changed text target what in
      by_form 2 (act_weight scene (changed target what)) (omega (arith, m)) (omega (arith, w)) h

  pub return_taken : (at : ℕ) (e : Option Expr) → x ≡ s.Return at e → Known 2 (1 + optional scene (option_map expression_of e)) → Within
  return_taken at e is h =
      let w : loads x ≡ 1 + optional scene (option_map expression_of e) = loads_of (s.Return at e) _ is (o.as-Return at e) in
      let m : names x ≡ 0 = names_of (s.Return at e) _ is (o.as-Return at e) in
      by_form 2 (1 + optional scene (option_map expression_of e)) (omega (arith, m)) (omega (arith, w)) h

  pub print_taken : (v : Vec Expr Global) (l : List Expr) → x ≡ s.Print v → l ≡ v.items → Known 2 (1 + given_weight scene l) → Within
  print_taken v l is all h =
      let w : loads x ≡ 1 + weights scene (expressions_of v.items) = loads_of (s.Print v) _ is (o.as-Print v) in
      let m : names x ≡ 0 = names_of (s.Print v) _ is (o.as-Print v) in
      by_form 2 (1 + given_weight scene l) (omega (arith, m)) (omega (arith, w, given_weighs scene l ∙ ap (λ (l : List Expr). weights scene (expressions_of l)) all)) h

  pub print_part_taken : (v : Vec Expr Global) (l : List Expr) → x ≡ s.Printn v → l ≡ v.items → Known 2 (1 + given_weight scene l) → Within
  print_part_taken v l is all h =
      let w : loads x ≡ 1 + weights scene (expressions_of v.items) = loads_of (s.Printn v) _ is (o.as-Printn v) in
      let m : names x ≡ 0 = names_of (s.Printn v) _ is (o.as-Printn v) in
      by_form 2 (1 + given_weight scene l) (omega (arith, m)) (omega (arith, w, given_weighs scene l ∙ ap (λ (l : List Expr). weights scene (expressions_of l)) all)) h

  pub call_taken : (n : Name) (place : ℕ) (v : Vec Expr Global) (l : List Expr) → x ≡ s.Call n place v → l ≡ v.items → Known 2 (1 + given_weight scene l + of_function (scenes.function_of scene n)) → Within
  call_taken n place v l is all h =
      let w : loads x ≡ 1 + weights scene (expressions_of v.items) + of_function (scenes.function_of scene n) = loads_of (s.Call n place v) _ is (o.as-Call n place v) in
      let m : names x ≡ 0 = names_of (s.Call n place v) _ is (o.as-Call n place v) in
      by_form 2 (1 + given_weight scene l + of_function (scenes.function_of scene n)) (omega (arith, m)) (omega (arith, w, given_weighs scene l ∙ ap (λ (l : List Expr). weights scene (expressions_of l)) all)) h

  pub if_taken : (e : Expr) (b : Box Stmt Global) (y : Stmt) → x ≡ s.If e b → y ≡ b.value → Known (2 + names y) (1 + weight scene (expression_of e) + loads y) → Within
  if_taken e b y is inner h =
      let w : loads x ≡ 1 + weight scene (expression_of e) + loads b.value = loads_of (s.If e b) _ is (o.as-If e b) in
      let m : names y ≡ names x = ap (λ (l : List Variable). length l) (if_declares text x y e b is inner) in
      by_form (2 + names y) (1 + weight scene (expression_of e) + loads y) (omega (arith, m)) (omega (arith, w, ap loads inner)) h

  pub if_else_taken : (e : Expr) (b d : Box Stmt Global) (y z : Stmt) → x ≡ s.IfElse e b d → y ≡ b.value → z ≡ d.value → Known (2 + names y + names z) (1 + weight scene (expression_of e) + loads y + loads z) → Within
  if_else_taken e b d y z is one other h =
      let w : loads x ≡ 1 + weight scene (expression_of e) + loads b.value + loads d.value = loads_of (s.IfElse e b d) _ is (o.as-IfElse e b d) in
      let m : names y + names z ≡ names x = sym (length-append (declared text (statement_of y)) (declared text (statement_of z))) ∙ ap (λ (l : List Variable). length l) (if_else_declares text x y z e b d is one other) in
      by_form (2 + names y + names z) (1 + weight scene (expression_of e) + loads y + loads z) (omega (arith, m)) (omega (arith, w, ap loads one, ap loads other)) h

  pub for_taken : (at : ℕ) (v : VariableType) (n : Name) (e : Expr) (b : Box Stmt Global) (y : Stmt) → x ≡ s.For at v n e b → y ≡ b.value → Known (2 + names y) (1 + weight scene (expression_of e) + 120 * loads y) → Within
  for_taken at v n e b y is inner h =
      let w : loads x ≡ 1 + weight scene (expression_of e) + 120 * loads b.value = loads_of (s.For at v n e b) _ is (o.as-For at v n e b) in
      let m : names y ≡ names x = ap (λ (l : List Variable). length l) (for_declares text x y at v n e b is inner) in
      by_form (2 + names y) (1 + weight scene (expression_of e) + 120 * loads y) (omega (arith, m)) (omega (arith, w, ap loads inner)) h

  pub case_taken : (at : ℕ) (e : Expr) (v : Vec (Arm Stmt) Global) (l : List (Arm Stmt)) (other : Option (Vec Stmt Global)) → x ≡ s.Case at e v other → l ≡ v.items → Known (2 + length (arms_declare text l) + length (otherwise_declares text other)) (1 + weight scene (expression_of e) + arms_weight scene (arms_of l) + acts_weight scene (else_of other)) → Within
  case_taken at e v l other is all h =
      let w : loads x ≡ 1 + weight scene (expression_of e) + arms_weight scene (arms_of v.items) + acts_weight scene (else_of other) = ap loads is ∙ g.of-Case scene at e v other in
      let m : length (arms_declare text l) + length (otherwise_declares text other) ≡ names x = sym (length-append (arms_declare text l) (otherwise_declares text other)) ∙ ap (λ (l : List Variable). length l) (case_declares text x at e v l other is all) in
      by_form (2 + length (arms_declare text l) + length (otherwise_declares text other)) (1 + weight scene (expression_of e) + arms_weight scene (arms_of l) + acts_weight scene (else_of other)) (omega (arith, m)) (omega (arith, w, ap (λ (l : List (Arm Stmt)). arms_weight scene (arms_of l)) all)) h
