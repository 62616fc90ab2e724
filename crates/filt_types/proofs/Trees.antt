-- What a fold gives at each variant, of what it gives for the parts; and the expression and the
-- statement that each variant is.
use Rattle.std.proofs.Common.{◌≡◌, ℕ, List, [], ◌∷◌, map, Option, Some, None, option_map, refl, ap, ◌∙◌, rules, Box, Vec}
use Rattle.std.specs.Global.{Global}
use Rattle.conf_ast.specs.declared.named.Name.{Name}
use Rattle.conf_ast.specs.declared.filters.Access.{Access}
use Rattle.conf_ast.specs.declared.filters.Access.TheVariants as accesses
use Rattle.conf_ast.specs.declared.filters.Arm.{Arm}
use Rattle.conf_ast.specs.declared.attribute.Attribute.{Attribute}
use Rattle.conf_ast.specs.declared.filters.Change.{Change}
use Rattle.conf_ast.specs.declared.filters.CompareOp.{CompareOp}
use Rattle.conf_ast.specs.declared.filters.Expr.{Expr, fold-Expr, the_lemmas as expr_lemmas}
use Rattle.conf_ast.specs.declared.filters.Expr.TheVariants as e
use Rattle.conf_ast.specs.declared.filters.Expr.TheOpen.{Expr-F}
use Rattle.conf_ast.specs.declared.filters.Expr.TheFolds.{map-Expr}
use Rattle.conf_ast.specs.declared.filters.Expr.TheShapes.{former-Expr-Postfix-1-at-4}
use Rattle.conf_ast.specs.declared.filters.MulOp.{MulOp}
use Rattle.conf_ast.specs.declared.filters.Item.{Item}
use Rattle.conf_ast.specs.declared.filters.LogicalOp.{LogicalOp}
use Rattle.conf_ast.specs.declared.filters.MaskItem.{MaskItem}
use Rattle.conf_ast.specs.declared.filters.Method.{Method}
use Rattle.conf_ast.specs.declared.filters.Atom.{Atom}
use Rattle.conf_ast.specs.declared.filters.Stmt.{Stmt, fold-Stmt, the_lemmas as stmt_lemmas}
use Rattle.conf_ast.specs.declared.filters.Stmt.TheVariants as s
use Rattle.conf_ast.specs.declared.filters.Stmt.TheOpen.{Stmt-F}
use Rattle.conf_ast.specs.declared.filters.Stmt.TheFolds.{map-Stmt}
use Rattle.conf_ast.specs.declared.filters.Target.{Target}
use Rattle.conf_ast.specs.declared.filters.AddOp.{AddOp}
use Rattle.conf_ast.specs.declared.filters.VariableType.{VariableType}
use Rattle.filt_types.specs.Walk.{access_of, accesses_of, arms_of, operands_of}
use Rattle.conf_ast.specs.Filters.{Expression, Plain, Named, Called, Grouped, Paired, SetOf, MaskOf, IsDefined, MethodOf, Negated, Compared, Expressions, AndExpressions, expressions, expressions_of, expression_of, expression_step, accessed, multiplied, added, joined, Statement, Braced, Nothing, Declare, Assign, Unset, If, IfElse, Case, CaseElse, For, Accept, Reject, Return, Print, Printn, Call, Statements, AndStatements, statements, statements_of, statement_of, statement_step, Arms, AndArms, arms, changed}

-- ---- folds, whatever they give

pub by_parts : {A B C : Type 0} (f : B → C) (g : A → B) (h : A → C) → ((a : A) → f (g a) ≡ h a) → (xs : List A) → map f (map g xs) ≡ map h xs
by_parts f g h same [] = refl
by_parts f g h same (x ∷ xs) = rw (same x, by_parts f g h same xs) refl

pub of-Atom : (A : Type 0) (step : Expr-F A → A) (x : Atom) → fold-Expr A step (e.Atom x) ≡ step (map-Expr Expr A (fold-Expr A step) (Expr-F.Atom x))
of-Atom A step x = search (rules, expr_lemmas)

pub of-Name : (A : Type 0) (step : Expr-F A → A) (n : Name) → fold-Expr A step (e.Name n) ≡ step (map-Expr Expr A (fold-Expr A step) (Expr-F.Name n))
of-Name A step n = search (rules, expr_lemmas)

pub of-Call : (A : Type 0) (step : Expr-F A → A) (n : Name) (place : ℕ) (v : Vec Expr Global) → fold-Expr A step (e.Call n place v) ≡ step (map-Expr Expr A (fold-Expr A step) (Expr-F.Call n place v))
of-Call A step n place v = search (rules, expr_lemmas)

pub of-Group : (A : Type 0) (step : Expr-F A → A) (at : ℕ) (a : Box Expr Global) → fold-Expr A step (e.Group at a) ≡ step (map-Expr Expr A (fold-Expr A step) (Expr-F.Group at a))
of-Group A step at a = search (rules, expr_lemmas)

pub of-Pair : (A : Type 0) (step : Expr-F A → A) (at : ℕ) (a b : Box Expr Global) → fold-Expr A step (e.Pair at a b) ≡ step (map-Expr Expr A (fold-Expr A step) (Expr-F.Pair at a b))
of-Pair A step at a b = search (rules, expr_lemmas)

pub of-Set : (A : Type 0) (step : Expr-F A → A) (at : ℕ) (v : Vec Item Global) → fold-Expr A step (e.Set at v) ≡ step (map-Expr Expr A (fold-Expr A step) (Expr-F.Set at v))
of-Set A step at v = search (rules, expr_lemmas)

pub of-Mask : (A : Type 0) (step : Expr-F A → A) (at : ℕ) (v : Vec MaskItem Global) → fold-Expr A step (e.Mask at v) ≡ step (map-Expr Expr A (fold-Expr A step) (Expr-F.Mask at v))
of-Mask A step at v = search (rules, expr_lemmas)

pub of-Defined : (A : Type 0) (step : Expr-F A → A) (at place attribute_at : ℕ) (a : Attribute) → fold-Expr A step (e.Defined at place attribute_at a) ≡ step (map-Expr Expr A (fold-Expr A step) (Expr-F.Defined at place attribute_at a))
of-Defined A step at place attribute_at a = search (rules, expr_lemmas)

pub of-MethodCall : (A : Type 0) (step : Expr-F A → A) (m : Method) (place : ℕ) (a b : Box Expr Global) → fold-Expr A step (e.MethodCall m place a b) ≡ step (map-Expr Expr A (fold-Expr A step) (Expr-F.MethodCall m place a b))
of-MethodCall A step m place a b = search (rules, expr_lemmas)

pub of-Postfix : (A : Type 0) (step : Expr-F A → A) (a : Box Expr Global) (v : Vec (Access Expr) Global) → fold-Expr A step (e.Postfix a v) ≡ step (map-Expr Expr A (fold-Expr A step) (Expr-F.Postfix a v))
of-Postfix A step a v = search (rules, expr_lemmas)

pub of-Not : (A : Type 0) (step : Expr-F A → A) (at : ℕ) (a : Box Expr Global) → fold-Expr A step (e.Not at a) ≡ step (map-Expr Expr A (fold-Expr A step) (Expr-F.Not at a))
of-Not A step at a = search (rules, expr_lemmas)

pub of-Product : (A : Type 0) (step : Expr-F A → A) (a : Box Expr Global) (v : Vec (MulOp × Expr) Global) → fold-Expr A step (e.Product a v) ≡ step (map-Expr Expr A (fold-Expr A step) (Expr-F.Product a v))
of-Product A step a v = search (rules, expr_lemmas)

pub of-Sum : (A : Type 0) (step : Expr-F A → A) (a : Box Expr Global) (v : Vec (AddOp × Expr) Global) → fold-Expr A step (e.Sum a v) ≡ step (map-Expr Expr A (fold-Expr A step) (Expr-F.Sum a v))
of-Sum A step a v = search (rules, expr_lemmas)

pub of-Compare : (A : Type 0) (step : Expr-F A → A) (op : CompareOp) (a b : Box Expr Global) → fold-Expr A step (e.Compare op a b) ≡ step (map-Expr Expr A (fold-Expr A step) (Expr-F.Compare op a b))
of-Compare A step op a b = search (rules, expr_lemmas)

pub of-Logical : (A : Type 0) (step : Expr-F A → A) (a : Box Expr Global) (v : Vec (LogicalOp × Expr) Global) → fold-Expr A step (e.Logical a v) ≡ step (map-Expr Expr A (fold-Expr A step) (Expr-F.Logical a v))
of-Logical A step a v = search (rules, expr_lemmas)

pub do-Block : (A : Type 0) (step : Stmt-F A → A) (v : Vec Stmt Global) → fold-Stmt A step (s.Block v) ≡ step (map-Stmt Stmt A (fold-Stmt A step) (Stmt-F.Block v))
do-Block A step v = search (rules, stmt_lemmas)

pub do-Empty : (A : Type 0) (step : Stmt-F A → A) → fold-Stmt A step s.Empty ≡ step (map-Stmt Stmt A (fold-Stmt A step) Stmt-F.Empty)
do-Empty A step = search (rules, stmt_lemmas)

pub do-Declare : (A : Type 0) (step : Stmt-F A → A) (t : VariableType) (n : Name) (x : Option Expr) → fold-Stmt A step (s.Declare t n x) ≡ step (map-Stmt Stmt A (fold-Stmt A step) (Stmt-F.Declare t n x))
do-Declare A step t n x = search (rules, stmt_lemmas)

pub do-Assign : (A : Type 0) (step : Stmt-F A → A) (target : Target) (x : Expr) → fold-Stmt A step (s.Assign target x) ≡ step (map-Stmt Stmt A (fold-Stmt A step) (Stmt-F.Assign target x))
do-Assign A step target x = search (rules, stmt_lemmas)

pub do-Change : (A : Type 0) (step : Stmt-F A → A) (target : Target) (c : Change) → fold-Stmt A step (s.Change target c) ≡ step (map-Stmt Stmt A (fold-Stmt A step) (Stmt-F.Change target c))
do-Change A step target c = search (rules, stmt_lemmas)

pub do-Unset : (A : Type 0) (step : Stmt-F A → A) (place at : ℕ) (a : Attribute) → fold-Stmt A step (s.Unset place at a) ≡ step (map-Stmt Stmt A (fold-Stmt A step) (Stmt-F.Unset place at a))
do-Unset A step place at a = search (rules, stmt_lemmas)

pub do-If : (A : Type 0) (step : Stmt-F A → A) (x : Expr) (b : Box Stmt Global) → fold-Stmt A step (s.If x b) ≡ step (map-Stmt Stmt A (fold-Stmt A step) (Stmt-F.If x b))
do-If A step x b = search (rules, stmt_lemmas)

pub do-IfElse : (A : Type 0) (step : Stmt-F A → A) (x : Expr) (b c : Box Stmt Global) → fold-Stmt A step (s.IfElse x b c) ≡ step (map-Stmt Stmt A (fold-Stmt A step) (Stmt-F.IfElse x b c))
do-IfElse A step x b c = search (rules, stmt_lemmas)

pub do-Case : (A : Type 0) (step : Stmt-F A → A) (at : ℕ) (x : Expr) (v : Vec (Arm Stmt) Global) (o : Option (Vec Stmt Global)) → fold-Stmt A step (s.Case at x v o) ≡ step (map-Stmt Stmt A (fold-Stmt A step) (Stmt-F.Case at x v o))
do-Case A step at x v o = search (rules, stmt_lemmas)

pub do-For : (A : Type 0) (step : Stmt-F A → A) (at : ℕ) (t : VariableType) (n : Name) (x : Expr) (b : Box Stmt Global) → fold-Stmt A step (s.For at t n x b) ≡ step (map-Stmt Stmt A (fold-Stmt A step) (Stmt-F.For at t n x b))
do-For A step at t n x b = search (rules, stmt_lemmas)

pub do-Accept : (A : Type 0) (step : Stmt-F A → A) → fold-Stmt A step s.Accept ≡ step (map-Stmt Stmt A (fold-Stmt A step) Stmt-F.Accept)
do-Accept A step = search (rules, stmt_lemmas)

pub do-Reject : (A : Type 0) (step : Stmt-F A → A) → fold-Stmt A step s.Reject ≡ step (map-Stmt Stmt A (fold-Stmt A step) Stmt-F.Reject)
do-Reject A step = search (rules, stmt_lemmas)

pub do-Return : (A : Type 0) (step : Stmt-F A → A) (at : ℕ) (x : Option Expr) → fold-Stmt A step (s.Return at x) ≡ step (map-Stmt Stmt A (fold-Stmt A step) (Stmt-F.Return at x))
do-Return A step at x = search (rules, stmt_lemmas)

pub do-Print : (A : Type 0) (step : Stmt-F A → A) (v : Vec Expr Global) → fold-Stmt A step (s.Print v) ≡ step (map-Stmt Stmt A (fold-Stmt A step) (Stmt-F.Print v))
do-Print A step v = search (rules, stmt_lemmas)

pub do-Printn : (A : Type 0) (step : Stmt-F A → A) (v : Vec Expr Global) → fold-Stmt A step (s.Printn v) ≡ step (map-Stmt Stmt A (fold-Stmt A step) (Stmt-F.Printn v))
do-Printn A step v = search (rules, stmt_lemmas)

pub do-Call : (A : Type 0) (step : Stmt-F A → A) (n : Name) (place : ℕ) (v : Vec Expr Global) → fold-Stmt A step (s.Call n place v) ≡ step (map-Stmt Stmt A (fold-Stmt A step) (Stmt-F.Call n place v))
do-Call A step n place v = search (rules, stmt_lemmas)

-- ---- lists of parts

pub all_expressions : (xs : List Expr) → expressions (map expression_of xs) ≡ expressions_of xs
all_expressions [] = refl
all_expressions (x ∷ xs) = ap (λ (es : Expressions). AndExpressions (expression_of x) es) (all_expressions xs)

pub all_statements : (xs : List Stmt) → statements (map statement_of xs) ≡ statements_of xs
all_statements [] = refl
all_statements (x ∷ xs) = ap (λ (ss : Statements). AndStatements (statement_of x) ss) (all_statements xs)

access_made : (a : Access Expr) → (former-Expr-Postfix-1-at-4).map Expr Expression expression_of a ≡ access_of a
access_made (accesses.Property p) = refl
access_made (accesses.Method m place x) = refl

all_accesses : (xs : List (Access Expr)) → map ((former-Expr-Postfix-1-at-4).map Expr Expression expression_of) xs ≡ accesses_of xs
all_accesses [] = refl
all_accesses (x ∷ xs) = rw (access_made x, all_accesses xs) refl

all_arms : (g : Arm Stmt → Arm Statement) → ((a : Arm Stmt) (more : Arms) → AndArms (g a).labels.items (statements (g a).body.items) more ≡ AndArms a.labels.items (statements_of a.body.items) more) → (xs : List (Arm Stmt)) → arms (map g xs) ≡ arms_of xs
all_arms g same [] = refl
all_arms g same (x ∷ xs) = same x (arms (map g xs)) ∙ ap (λ (more : Arms). AndArms x.labels.items (statements_of x.body.items) more) (all_arms g same xs)

-- ---- expressions

pub is-Atom : (x : Atom) → expression_of (e.Atom x) ≡ Plain x
is-Atom x = of-Atom Expression expression_step x

pub is-Name : (n : Name) → expression_of (e.Name n) ≡ Named n
is-Name n = of-Name Expression expression_step n

pub is-Call : (n : Name) (place : ℕ) (v : Vec Expr Global) → expression_of (e.Call n place v) ≡ Called n place (expressions_of v.items)
is-Call n place v = of-Call Expression expression_step n place v ∙ ap (λ (es : Expressions). Called n place es) (all_expressions v.items)

pub is-Group : (at : ℕ) (a : Box Expr Global) → expression_of (e.Group at a) ≡ Grouped at (expression_of a.value)
is-Group at a = of-Group Expression expression_step at a

pub is-Pair : (at : ℕ) (a b : Box Expr Global) → expression_of (e.Pair at a b) ≡ Paired at (expression_of a.value) (expression_of b.value)
is-Pair at a b = of-Pair Expression expression_step at a b

pub is-Set : (at : ℕ) (v : Vec Item Global) → expression_of (e.Set at v) ≡ SetOf at v.items
is-Set at v = of-Set Expression expression_step at v

pub is-Mask : (at : ℕ) (v : Vec MaskItem Global) → expression_of (e.Mask at v) ≡ MaskOf at v.items
is-Mask at v = of-Mask Expression expression_step at v

pub is-Defined : (at place attribute_at : ℕ) (a : Attribute) → expression_of (e.Defined at place attribute_at a) ≡ IsDefined at place attribute_at a
is-Defined at place attribute_at a = of-Defined Expression expression_step at place attribute_at a

pub is-MethodCall : (m : Method) (place : ℕ) (a b : Box Expr Global) → expression_of (e.MethodCall m place a b) ≡ MethodOf m place (expression_of a.value) (expression_of b.value)
is-MethodCall m place a b = of-MethodCall Expression expression_step m place a b

pub is-Postfix : (a : Box Expr Global) (v : Vec (Access Expr) Global) → expression_of (e.Postfix a v) ≡ accessed (expression_of a.value) (accesses_of v.items)
is-Postfix a v = of-Postfix Expression expression_step a v ∙ ap (λ (more : List (Access Expression)). accessed (expression_of a.value) more) (all_accesses v.items)

pub is-Not : (at : ℕ) (a : Box Expr Global) → expression_of (e.Not at a) ≡ Negated at (expression_of a.value)
is-Not at a = of-Not Expression expression_step at a

pub is-Product : (a : Box Expr Global) (v : Vec (MulOp × Expr) Global) → expression_of (e.Product a v) ≡ multiplied (expression_of a.value) (operands_of v.items)
is-Product a v = of-Product Expression expression_step a v

pub is-Sum : (a : Box Expr Global) (v : Vec (AddOp × Expr) Global) → expression_of (e.Sum a v) ≡ added (expression_of a.value) (operands_of v.items)
is-Sum a v = of-Sum Expression expression_step a v

pub is-Compare : (op : CompareOp) (a b : Box Expr Global) → expression_of (e.Compare op a b) ≡ Compared (expression_of a.value) op (expression_of b.value)
is-Compare op a b = of-Compare Expression expression_step op a b

pub is-Logical : (a : Box Expr Global) (v : Vec (LogicalOp × Expr) Global) → expression_of (e.Logical a v) ≡ joined (expression_of a.value) (operands_of v.items)
is-Logical a v = of-Logical Expression expression_step a v

-- ---- statements

pub as-Block : (v : Vec Stmt Global) → statement_of (s.Block v) ≡ Braced (statements_of v.items)
as-Block v = do-Block Statement statement_step v ∙ ap (λ (ss : Statements). Braced ss) (all_statements v.items)

pub as-Empty : statement_of s.Empty ≡ Nothing
as-Empty = do-Empty Statement statement_step

pub as-Declare : (t : VariableType) (n : Name) (x : Option Expr) → statement_of (s.Declare t n x) ≡ Declare t n (option_map expression_of x)
as-Declare t n x = do-Declare Statement statement_step t n x

pub as-Assign : (target : Target) (x : Expr) → statement_of (s.Assign target x) ≡ Assign target (expression_of x)
as-Assign target x = do-Assign Statement statement_step target x

pub as-Change : (target : Target) (c : Change) → statement_of (s.Change target c) ≡ changed target c
as-Change target c = do-Change Statement statement_step target c

pub as-Unset : (place at : ℕ) (a : Attribute) → statement_of (s.Unset place at a) ≡ Unset place at a
as-Unset place at a = do-Unset Statement statement_step place at a

pub as-If : (x : Expr) (b : Box Stmt Global) → statement_of (s.If x b) ≡ If (expression_of x) (statement_of b.value)
as-If x b = do-If Statement statement_step x b

pub as-IfElse : (x : Expr) (b c : Box Stmt Global) → statement_of (s.IfElse x b c) ≡ IfElse (expression_of x) (statement_of b.value) (statement_of c.value)
as-IfElse x b c = do-IfElse Statement statement_step x b c

pub as-Case : (at : ℕ) (x : Expr) (v : Vec (Arm Stmt) Global) → statement_of (s.Case at x v None) ≡ Case at (expression_of x) (arms_of v.items)
as-Case at x v = do-Case Statement statement_step at x v None ∙ ap (λ (more : Arms). Case at (expression_of x) more) (all_arms _ (λ a more. ap (λ (ss : Statements). AndArms a.labels.items ss more) (all_statements a.body.items)) v.items)

pub as-CaseElse : (at : ℕ) (x : Expr) (v : Vec (Arm Stmt) Global) (w : Vec Stmt Global) → statement_of (s.Case at x v (Some w)) ≡ CaseElse at (expression_of x) (arms_of v.items) (statements_of w.items)
as-CaseElse at x v w = do-Case Statement statement_step at x v (Some w) ∙ ap (λ (more : Arms). CaseElse at (expression_of x) more (statements (map statement_of w.items))) (all_arms _ (λ a more. ap (λ (ss : Statements). AndArms a.labels.items ss more) (all_statements a.body.items)) v.items) ∙ ap (λ (ss : Statements). CaseElse at (expression_of x) (arms_of v.items) ss) (all_statements w.items)

pub as-For : (at : ℕ) (t : VariableType) (n : Name) (x : Expr) (b : Box Stmt Global) → statement_of (s.For at t n x b) ≡ For at t n (expression_of x) (statement_of b.value)
as-For at t n x b = do-For Statement statement_step at t n x b

pub as-Accept : statement_of s.Accept ≡ Accept
as-Accept = do-Accept Statement statement_step

pub as-Reject : statement_of s.Reject ≡ Reject
as-Reject = do-Reject Statement statement_step

pub as-Return : (at : ℕ) (x : Option Expr) → statement_of (s.Return at x) ≡ Return at (option_map expression_of x)
as-Return at x = do-Return Statement statement_step at x

pub as-Print : (v : Vec Expr Global) → statement_of (s.Print v) ≡ Print (expressions_of v.items)
as-Print v = do-Print Statement statement_step v

pub as-Printn : (v : Vec Expr Global) → statement_of (s.Printn v) ≡ Printn (expressions_of v.items)
as-Printn v = do-Printn Statement statement_step v

pub as-Call : (n : Name) (place : ℕ) (v : Vec Expr Global) → statement_of (s.Call n place v) ≡ Call n place (expressions_of v.items)
as-Call n place v = do-Call Statement statement_step n place v
