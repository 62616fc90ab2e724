-- What checked filters do: a line for each form of a tree. The forms are those of the meaning of
-- filters; here they are joined by places where there they are by names. Nothing is to be believed
-- of it: filt_check ties what checked trees do to the meaning of their sources.
use Rattle.std.specs.Prelude.{◌≡◌, ◌≤◌, ℕ, Bool, All, List, [], ◌∷◌, ◌++◌, map, take, Option, Some, None, Result, Ok, Err, slice_get}
use Rattle.attrs.specs.declared.attributes.Attrs.{Attrs}
use Rattle.attrs.specs.declared.judge.Verdict.{Verdict}
use Rattle.conf_ast.specs.declared.filters.MulOp.{MulOp}
use Rattle.conf_ast.specs.declared.filters.LogicalOp.{LogicalOp}
use Rattle.conf_ast.specs.declared.filters.AddOp.{AddOp}
use Rattle.filt_meaning.specs.declared.fixed.Fixed.{Fixed}
use Rattle.filt_meaning.specs.declared.value.Failure.{Failure}
use Rattle.filt_meaning.specs.declared.value.Failure.TheVariants as failures
use Rattle.filt_meaning.specs.declared.value.Sort.{Sort}
use Rattle.filt_meaning.specs.Operators.{and_then, not_of, pair_of, emptied_of}
use Rattle.filt_meaning.specs.Seen.{val_of_fixed}
use Rattle.filt_meaning.specs.Values.{Val, VInt, VPair, VIntSet, VPairSet, VPrefixSet, default_of}
use Rattle.filt_meaning.specs.Attributes.{with_attribute}
use Rattle.filt_meaning.specs.Configuration.{given_by, verdict_of}
use Rattle.filt_meaning.specs.Flow.{Flow, Frame, Run, AtEnd, Accepted, Rejected, Stopped, Stuck}
use Rattle.filt_meaning.specs.Items.{among}
use Rattle.filt_meaning.specs.Meaning.{Act, given, on_value, on_two, joined, no_values, one_more, variable_or, called_value, call, attribute, defined, factor_of, term_of, compare_of, property_of, method_of, nothing, stop, in_turn, block, set_variable, set_attributes, unset, choice, arm, cases, loop, give, evaluate}
use Rattle.filt_meaning.specs.Flow as flow
use Rattle.filt_meaning.specs.Names.{Around, Doing, there}
use Rattle.filt_meaning.specs.declared.scope.TFunction.{TFunction}
use Rattle.filt_meaning.specs.declared.tree.Labels.{Labels}
use Rattle.filt_meaning.specs.declared.tree.Labels.TheVariants as labels
use Rattle.filt_meaning.specs.declared.tree.TAccess.{TAccess}
use Rattle.filt_meaning.specs.declared.tree.TAccess.TheVariants as accesses
use Rattle.filt_meaning.specs.declared.tree.TArm.{TArm}
use Rattle.filt_meaning.specs.declared.tree.TExpr.{TExpr, fold-TExpr}
use Rattle.filt_meaning.specs.declared.tree.TExpr.TheOpen.{TExpr-F}
use Rattle.filt_meaning.specs.declared.tree.TFilter.{TFilter}
use Rattle.filt_meaning.specs.declared.tree.TStmt.{TStmt, fold-TStmt}
use Rattle.filt_meaning.specs.declared.tree.TStmt.TheOpen.{TStmt-F}
use Rattle.filt_meaning.specs.declared.tree.TTarget.{TTarget}
use Rattle.filt_meaning.specs.declared.tree.TTarget.TheVariants as targets
use Rattle.filt_meaning.specs.declared.tree.TTest.{TTest}
use Rattle.filt_meaning.specs.declared.tree.TTest.TheVariants as tests

-- What trees are run over: what no statement changes, the values of the constants, and what the
-- functions do, both by their numbers.
pub record Tables : Type 0 where
  pub around : Around
  pub constants : List Val
  pub functions : List Doing

abbrev pub over : {A : Type 0} → Tables → (Tables → A) → A
over tables f = f tables

-- ---- expressions

-- the operators of a chain, from left to right
abbrev pub chain : {Op : Type 0} → (Op → Val → Val → Result Val Failure) → Run Val → List (Op × Run Val) → Run Val
chain f a [] = a
chain f a (x ∷ more) = chain f (on_two a x.1 (f x.0)) more

abbrev pub joints : Run Val → List (LogicalOp × Run Val) → Run Val
joints a [] = a
joints a (x ∷ more) = joints (joined x.0 a x.1) more

-- what stands behind an operand's dots, one after another
abbrev pub accessed : Run Val → List (TAccess (Run Val)) → Run Val
accessed a [] = a
accessed a (accesses.Property p ∷ more) = accessed (on_value a (property_of p)) more
accessed a (accesses.Method kind b ∷ more) = accessed (on_two a b (method_of kind)) more

abbrev pub access_over : Tables → TAccess (Tables → Run Val) → TAccess (Run Val)
access_over tables (accesses.Property p) = accesses.Property p
access_over tables (accesses.Method kind b) = accesses.Method kind (b tables)

abbrev pub part_over : {Op : Type 0} → Tables → Op × (Tables → Run Val) → Op × Run Val
part_over tables x = (x.0, x.1 tables)

-- values between commas, from left to right
abbrev pub all_values : List (Run Val) → Run Frame
all_values [] = no_values
all_values (a ∷ more) = one_more a (all_values more)

-- what the route holds beside what the filter says, as the comparison of the two
abbrev pub test : Around → TTest → Run Val
test around (tests.Attribute a op n) =
    on_two (attribute around a) (given (Ok (VInt n))) (compare_of op)
test around (tests.Property a p op n) =
    on_two (on_value (attribute around a) (property_of p)) (given (Ok (VInt n))) (compare_of op)
test around (tests.Pair x y op a) =
    on_two (given (Ok (VPair (x, y)))) (attribute around a) (compare_of op)

-- one level, with each expression inside already run
abbrev pub expr_step : TExpr-F (Tables → Run Val) → Tables → Run Val
expr_step (TExpr-F.Value v) t = given (Ok (val_of_fixed v))
expr_step (TExpr-F.Constant n) t = given (there (slice_get t.constants n))
expr_step (TExpr-F.Local place) t = variable_or (Some place) None
expr_step (TExpr-F.Attribute a) t = attribute t.around a
expr_step (TExpr-F.Defined a) t = defined a
expr_step (TExpr-F.Default sort) t = given (Ok (default_of sort))
expr_step (TExpr-F.Call n es) t =
    called_value (slice_get t.functions n) (all_values (map (over t) es.items))
expr_step (TExpr-F.Pair a b) t = on_two (a.value t) (b.value t) pair_of
expr_step (TExpr-F.Method kind a b) t = on_two (a.value t) (b.value t) (method_of kind)
expr_step (TExpr-F.Empty a) t = on_value (a.value t) emptied_of
expr_step (TExpr-F.Access a more) t = accessed (a.value t) (map (access_over t) more.items)
expr_step (TExpr-F.Not a) t = on_value (a.value t) not_of
expr_step (TExpr-F.Product a more) t =
    chain factor_of (a.value t) (map (part_over t) more.items)
expr_step (TExpr-F.Sum a more) t = chain term_of (a.value t) (map (part_over t) more.items)
expr_step (TExpr-F.Compare op a b) t = on_two (a.value t) (b.value t) (compare_of op)
expr_step (TExpr-F.Test what) t = test t.around what
expr_step (TExpr-F.Joint a more) t = joints (a.value t) (map (part_over t) more.items)
expr_step TExpr-F.Stuck t = given (Err failures.Stuck)

abbrev pub expr : TExpr → Tables → Run Val
expr = fold-TExpr (Tables → Run Val) expr_step

abbrev pub exprs : Tables → List TExpr → List (Run Val)
exprs t es = map (λ e. expr e t) es

abbrev pub parts : {Op : Type 0} → Tables → List (Op × TExpr) → List (Op × Run Val)
parts t more = map (λ x. (x.0, expr x.1 t)) more

abbrev pub access : Tables → TAccess TExpr → TAccess (Run Val)
access t (accesses.Property p) = accesses.Property p
access t (accesses.Method kind e) = accesses.Method kind (expr e t)

abbrev pub accesses_of : Tables → List (TAccess TExpr) → List (TAccess (Run Val))
accesses_of t more = map (access t) more

-- ---- statements

abbrev pub set_place : TTarget → Val → Act
set_place (targets.Local place) v = set_variable (Some place) v
set_place (targets.Attribute a) v =
    λ vals attrs. set_attributes vals (with_attribute a v attrs) attrs
set_place targets.Nowhere v = set_variable None v

abbrev pub assign : TTarget → Run Val → Act
assign target a vals attrs =
    flow.and_then (a vals attrs) (λ v attrs. set_place target v vals attrs)

abbrev pub set_of_labels : Labels → Result Val Failure
set_of_labels (labels.Ints s) = Ok (VIntSet s)
set_of_labels (labels.Pairs s) = Ok (VPairSet s)
set_of_labels (labels.Prefixes s) = Ok (VPrefixSet s)
set_of_labels labels.Stuck = Err failures.Stuck

-- whether the value is among the labels
abbrev pub has : Labels → Val → Result Bool Failure
has ls v = and_then (set_of_labels ls) (λ set. among set v)

abbrev pub result : Option TExpr → Tables → Act
result None t = stop AtEnd
result (Some e) t = give (expr e t)

abbrev pub in_order : List Act → Act
in_order [] = nothing
in_order (a ∷ more) = in_turn a (in_order more)

-- labels, and what is done where they have the value
abbrev pub arms : List (Labels × Act) → (otherwise : Act) → Val → Act
arms [] otherwise v = otherwise
arms (a ∷ more) otherwise v = arm (has a.0 v) a.1 (arms more otherwise v)

abbrev pub arm_over : Tables → TArm (Tables → Act) → Labels × Act
arm_over t a = (a.labels, in_order (map (over t) a.body.items))

-- one level, with each statement inside already run
abbrev pub stmt_step : TStmt-F (Tables → Act) → Tables → Act
stmt_step (TStmt-F.Block sorts body) t =
    block (map default_of sorts.items) (in_order (map (over t) body.items))
stmt_step TStmt-F.Nothing t = nothing
stmt_step (TStmt-F.Assign target e) t = assign target (expr e t)
stmt_step (TStmt-F.Unset a) t = unset a
stmt_step (TStmt-F.If e s) t = choice (expr e t) (s.value t) nothing
stmt_step (TStmt-F.IfElse e s u) t = choice (expr e t) (s.value t) (u.value t)
stmt_step (TStmt-F.Case e as_arms otherwise) t =
    cases (expr e t)
    (arms (map (arm_over t) as_arms.items) (in_order (map (over t) otherwise.items)))
stmt_step (TStmt-F.For e body) t = loop (expr e t) (body.value t)
stmt_step TStmt-F.Accept t = stop Accepted
stmt_step TStmt-F.Reject t = stop Rejected
stmt_step (TStmt-F.Return e) t = result e t
stmt_step (TStmt-F.Print es) t = evaluate (all_values (exprs t es.items))
stmt_step (TStmt-F.Call n es) t =
    evaluate (call (slice_get t.functions n) (all_values (exprs t es.items)))

abbrev pub stmt : TStmt → Tables → Act
stmt = fold-TStmt (Tables → Act) stmt_step

abbrev pub stmts : Tables → List TStmt → List Act
stmts t ss = map (λ s. stmt s t) ss

abbrev pub body : Tables → List TStmt → Act
body t ss = in_order (stmts t ss)

abbrev pub arm_of : Tables → TArm TStmt → Labels × Act
arm_of t a = (a.labels, body t a.body.items)

abbrev pub arms_of : Tables → List (TArm TStmt) → List (Labels × Act)
arms_of t as_arms = map (arm_of t) as_arms

-- ---- functions

-- with the first n constants alone
abbrev pub first_constants : Tables → ℕ → Tables
first_constants t n =
    record { around = t.around; constants = take n t.constants; functions = t.functions }

-- what the statements of a function or a filter come to, over its arguments
abbrev pub run : Tables → List Sort → List TStmt → Frame → Attrs → Flow Frame
run t sorts ss arguments attrs = body t ss (arguments ++ map default_of sorts) attrs

-- what a function does, over the functions before it
abbrev pub function : Tables → TFunction → Doing
function t f arguments attrs =
    given_by f.gives (run (first_constants t f.constants) f.sorts.items f.body.items arguments attrs)

abbrev pub with_function : Tables → Doing → Tables
with_function t f =
    record { around = t.around; constants = t.constants; functions = t.functions ++ f ∷ [] }

-- with these functions behind the others, each of which calls only earlier ones
abbrev pub with_functions : Tables → List TFunction → Tables
with_functions t [] = t
with_functions t (f ∷ fs) = with_functions (with_function t (function t f)) fs

-- constants and functions, around a route
abbrev pub tables : Around → List Fixed → List TFunction → Tables
tables around constants functions =
    with_functions
    (record { around = around; constants = map val_of_fixed constants; functions = [] })
    functions

-- ---- filters

-- what a filter comes to, over constants and functions of which it sees the first
abbrev pub tree_flow : Around → List Fixed → List TFunction → TFilter → Attrs → Flow Frame
tree_flow around constants functions f attrs =
    run (tables around (take f.constants constants) (take f.functions functions))
    f.sorts.items f.body.items [] attrs

-- what it says of attributes
abbrev pub judged : Around → List Fixed → List TFunction → TFilter → Attrs → Verdict
judged around constants functions f attrs =
    verdict_of (tree_flow around constants functions f attrs)

-- The filter is never stuck, whatever route it is run for.
abbrev pub IsNeverStuck : List Fixed → List TFunction → TFilter → Type 0
IsNeverStuck constants functions f = (around : Around) (attrs after : Attrs)
    → tree_flow around constants functions f attrs ≡ Stopped Stuck after → ⊥

-- The functions that a filter sees were declared before it, so they see no constants but its own.
abbrev pub AreBefore : List TFunction → TFilter → Type 0
AreBefore functions f =
    All (λ (g : TFunction). g.constants ≤ f.constants) (take f.functions functions)
