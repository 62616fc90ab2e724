-- A run leaves values and attributes within their limits: a lemma for each form of the meaning, and
-- one by recursion over the abstract syntax.
use Rattle.std.proofs.Common.{ℕ, zero, suc, Bool, true, false, List, [], ◌∷◌, ◌++◌, length, take, Option, Some, None, Result, Ok, Err, nat_lt, if◌then◌else◌, slice_get, slice_set, IfOk, IfSome, All, arith}
use Rattle.std.proofs.lemmas.List.Elements.{All-nil, All-cons, All-head, All-tail, All-append, All-push, All-set, All-take, All-map}
use Rattle.std.specs.Bool.{⊤}
use Rattle.attrs.specs.declared.attributes.Attrs.{Attrs}
use Rattle.conf_ast.specs.Names.{name_bytes}
use Rattle.conf_ast.specs.declared.filters.LogicalOp.{LogicalOp}
use Rattle.conf_ast.specs.declared.filters.LogicalOp.TheVariants as logical_ops
use Rattle.conf_ast.specs.declared.filters.Atom.{Atom}
use Rattle.conf_ast.specs.declared.filters.Atom.TheVariants as atoms
use Rattle.conf_ast.specs.declared.filters.Target.{Target}
use Rattle.conf_ast.specs.declared.filters.Target.TheVariants as targets
use Rattle.conf_ast.specs.declared.filters.VariableType.{VariableType}
use Rattle.conf_ast.specs.Configurations.{Routine}
use Rattle.conf_ast.specs.Filters.{Expression, Plain, Named, Called, Grouped, Paired, SetOf, MaskOf, IsDefined, MethodOf, PropertyOf, Changed, Negated, Multiplied, Added, Compared, Joined, Expressions, NoExpressions, AndExpressions, Statement, Braced, Nothing, Declare, Assign, ChangeBy, Clear, Unset, If, IfElse, Case, CaseElse, For, Accept, Reject, Return, Print, Printn, Call, Statements, NoStatements, AndStatements, Arms, NoArms, AndArms}
use Rattle.filt_meaning.specs.declared.value.Failure.{Failure}
use Rattle.filt_meaning.specs.declared.value.Failure.TheVariants as failures
use Rattle.filt_meaning.specs.Operators.{bool_in, pair_of, not_of, truth_of, emptied_of}
use Rattle.filt_meaning.specs.Values.{Val, default_of}
use Rattle.filt_meaning.specs.Attributes.{attribute_of, with_attribute, without_attribute}
use Rattle.filt_meaning.specs.Configuration.{at_end, body, doing, given_by, parameter_names, run_of, with_parameters}
use Rattle.filt_meaning.specs.Flow.{AtEnd, Returned, Accepted, Rejected, Faulted, Stuck, Flow, Done, Stopped, Frame, Run, and_then, plainly}
use Rattle.filt_meaning.specs.Items.{has_label, mask_of, set_of}
use Rattle.filt_meaning.specs.Meaning.{Act, act, acts, all_declared, arm, arms_act, assign, block, call, called_value, cases, choice, choose, compare_of, defaults, elements, evaluate, factor_of, give, given, in_turn, initial, joined, loop, method_of, nothing, on_two, on_value, one_more, plain, property_of, read, result, right_side, set_attributes, set_target, set_variable, term_of, turns, value, values, variable_or, within}
use Rattle.filt_meaning.specs.Names.{Context, Doing, Variable, constant_of, function_of, named_in, place_of, same_name, sort_of_type, there, with_variables}
use Rattle.filt_steps.specs.Limits.{IsWithin, AreWithin, AttrsAreWithin, Leaves, KeepsLimits, ContextIsWithin}
use Rattle.filt_steps.proofs.Lists.{Gives, Elements, assigned_kept, attribute_kept, compare_kept, default_kept, elements_kept, emptied_kept, factor_kept, mask_kept, method_kept, not_kept, pair_kept, property_kept, set_kept, term_kept, truth_kept, unset_kept, word_kept}

abbrev pub RunKeeps : {A : Type 0} → (A → Type 0) → Run A → Type 0
RunKeeps Good a = (vals : Frame) (attrs : Attrs) → AreWithin vals → AttrsAreWithin attrs
    → Leaves Good (a vals attrs)

abbrev pub KeepsAll : Act → Type 0
KeepsAll a = RunKeeps AreWithin a

flow_then : {A B : Type 0} (P : A → Type 0) (Q : B → Type 0) (flow : Flow A)
    (next : A → Attrs → Flow B) → Leaves P flow
    → ((a : A) (attrs : Attrs) → P a → AttrsAreWithin attrs → Leaves Q (next a attrs))
    → Leaves Q (and_then flow next)
flow_then P Q (Done a attrs) next l k = k a attrs l.0 l.1
flow_then P Q (Stopped why attrs) next l k = l

pub plainly_kept : {A : Type 0} (P : A → Type 0) (r : Result A Failure) (attrs : Attrs)
    → IfOk r P → AttrsAreWithin attrs → Leaves P (plainly r attrs)
plainly_kept P (Ok a) attrs p w = (p, w)
plainly_kept P (Err (failures.Fault fault)) attrs p w = (tt, w)
plainly_kept P (Err failures.Stuck) attrs p w = (tt, w)

-- what is of no value of the language is within limits
abbrev pub Any : {A : Type 0} → A → Type 0
Any a = ⊤

pub any_ok : {A : Type 0} (r : Result A Failure) → IfOk r Any
any_ok (Ok a) = tt
any_ok (Err failure) = tt

pub there_kept : {A : Type 0} (P : A → Type 0) (o : Option A) → IfSome o P → IfOk (there o) P
there_kept P None h = tt
there_kept P (Some a) h = h

either_kept : {A : Type 0} (P : A → Type 0) (b : Bool) (a : A) (o : Option A) → P a → IfSome o P
    → IfSome (if b then Some a else o) P
either_kept P true a o p h = p
either_kept P false a o p h = h

pub named_kept : {A : Type 0} (P : A → Type 0) (xs : List (List ℕ × A)) (name : List ℕ)
    → All (λ x. P x.1) xs → IfSome (named_in xs name) P
named_kept P [] name h = tt
named_kept P (x ∷ xs) name h =
    either_kept P (same_name x.0 name) x.1 (named_in xs name) (All-head (λ y. P y.1) x xs h)
    (named_kept P xs name (All-tail (λ y. P y.1) x xs h))

-- ---- forms of expressions

given_kept : (r : Result Val Failure) → Gives r → RunKeeps IsWithin (given r)
given_kept r h vals attrs v w = plainly_kept IsWithin r attrs h w

on_value_kept : (a : Run Val) (f : Val → Result Val Failure) → RunKeeps IsWithin a
    → ((v : Val) → Gives (f v)) → RunKeeps IsWithin (on_value a f)
on_value_kept a f k h vals attrs v w =
    flow_then IsWithin IsWithin (a vals attrs) _ (k vals attrs v w)
    (λ x attrs p w. plainly_kept IsWithin (f x) attrs (h x) w)

on_two_kept : (a b : Run Val) (f : Val → Val → Result Val Failure) → RunKeeps IsWithin a
    → RunKeeps IsWithin b → ((v w : Val) → IsWithin v → Gives (f v w))
    → RunKeeps IsWithin (on_two a b f)
on_two_kept a b f k l h vals attrs v w =
    flow_then IsWithin IsWithin (a vals attrs) _ (k vals attrs v w)
    (λ x attrs p w. flow_then IsWithin IsWithin (b vals attrs) _ (l vals attrs v w)
    (λ y attrs q w. plainly_kept IsWithin (f x y) attrs (h x y p) w))

-- operators that give no lists, whatever they are given
plain_two : (a b : Run Val) (f : Val → Val → Result Val Failure) → RunKeeps IsWithin a
    → RunKeeps IsWithin b → ((v w : Val) → Gives (f v w)) → RunKeeps IsWithin (on_two a b f)
plain_two a b f k l h = on_two_kept a b f k l (λ v w p. h v w)

read_kept : (vals : Frame) (place : ℕ) → AreWithin vals → IfSome (slice_get vals place) IsWithin
read_kept [] place h = tt
read_kept (x ∷ xs) zero h = All-head IsWithin x xs h
read_kept (x ∷ xs) (suc place) h = read_kept xs place (All-tail IsWithin x xs h)

variable_kept : (place : Option ℕ) (constant : Option Val) → IfSome constant IsWithin
    → RunKeeps IsWithin (variable_or place constant)
variable_kept (Some place) constant h vals attrs v w =
    plainly_kept IsWithin (there (slice_get vals place)) attrs
    (there_kept IsWithin (slice_get vals place) (read_kept vals place v)) w
variable_kept None constant h vals attrs v w =
    plainly_kept IsWithin (there constant) attrs (there_kept IsWithin constant h) w

right_kept : (joint : LogicalOp) (left : Bool) (b : Run Val) → RunKeeps IsWithin b
    → RunKeeps IsWithin (right_side joint left b)
right_kept logical_ops.And true b k = on_value_kept b truth_of k truth_kept
right_kept logical_ops.And false b k = λ vals attrs v w. (tt, w)
right_kept logical_ops.Or true b k = λ vals attrs v w. (tt, w)
right_kept logical_ops.Or false b k = on_value_kept b truth_of k truth_kept

joined_kept : (joint : LogicalOp) (a b : Run Val) → RunKeeps IsWithin a → RunKeeps IsWithin b
    → RunKeeps IsWithin (joined joint a b)
joined_kept joint a b k l vals attrs v w =
    flow_then IsWithin IsWithin (a vals attrs) _ (k vals attrs v w)
    (λ x attrs p w. flow_then Any IsWithin (plainly (bool_in x) attrs) _
    (plainly_kept Any (bool_in x) attrs (any_ok (bool_in x)) w)
    (λ left attrs q w. right_kept joint left b l vals attrs v w))

one_more_kept : (a : Run Val) (more : Run Frame) → RunKeeps IsWithin a → RunKeeps AreWithin more
    → RunKeeps AreWithin (one_more a more)
one_more_kept a more k l vals attrs v w =
    flow_then IsWithin AreWithin (a vals attrs) _ (k vals attrs v w)
    (λ x attrs p w. flow_then AreWithin AreWithin (more vals attrs) _ (l vals attrs v w)
    (λ xs attrs q w. (All-cons IsWithin x xs p q, w)))

-- what a call gives, if anything
abbrev Given : Option Val → Type 0
Given result = IfSome result IsWithin

call_kept : (f : Option Doing) (arguments : Run Frame) → IfSome f KeepsLimits
    → RunKeeps AreWithin arguments → RunKeeps Given (call f arguments)
call_kept None arguments h k vals attrs v w = (tt, w)
call_kept (Some f) arguments h k vals attrs v w =
    flow_then AreWithin Given (arguments vals attrs) f (k vals attrs v w)
    (λ xs attrs p w. h xs attrs p w)

called_kept : (f : Option Doing) (arguments : Run Frame) → IfSome f KeepsLimits
    → RunKeeps AreWithin arguments → RunKeeps IsWithin (called_value f arguments)
called_kept f arguments h k vals attrs v w =
    flow_then Given IsWithin (call f arguments vals attrs) _
    (call_kept f arguments h k vals attrs v w)
    (λ o attrs p w. plainly_kept IsWithin (there o) attrs (there_kept IsWithin o p) w)

-- ---- expressions

plain_kept : (s : Atom) (c : Context) → RunKeeps IsWithin (plain s c)
plain_kept (atoms.Number at n) c = λ vals attrs v w. (tt, w)
plain_kept (atoms.Text at start len) c = λ vals attrs v w. (tt, w)
plain_kept (atoms.Ip at addr) c = λ vals attrs v w. (tt, w)
plain_kept (atoms.Prefix at net) c = λ vals attrs v w. (tt, w)
plain_kept (atoms.True at) c = λ vals attrs v w. (tt, w)
plain_kept (atoms.False at) c = λ vals attrs v w. (tt, w)
plain_kept (atoms.EmptyPath at) c = λ vals attrs v w. (omega arith, w)
plain_kept (atoms.EmptyClist at) c = λ vals attrs v w. (omega arith, w)
plain_kept (atoms.Attribute at a) c =
    λ vals attrs v w. plainly_kept IsWithin (attribute_of c.around a attrs) attrs
    (attribute_kept c.around a attrs w) w
plain_kept (atoms.Constant at constant) c = λ vals attrs v w. (word_kept constant, w)

function_kept : (c : Context) → ContextIsWithin c → (n : _)
    → IfSome (function_of c n) KeepsLimits
function_kept c k n =
    named_kept KeepsLimits c.functions (name_bytes c.text n) k.functions

pub constant_kept : (c : Context) → ContextIsWithin c → (n : _) → IfSome (constant_of c n) IsWithin
constant_kept c k n = named_kept IsWithin c.constants (name_bytes c.text n) k.constants

mutual
  pub value_kept : (e : Expression) (c : Context) → ContextIsWithin c
      → RunKeeps IsWithin (value e c)
  value_kept (Plain s) c k = plain_kept s c
  value_kept (Named n) c k =
      variable_kept (place_of c n) (constant_of c n) (constant_kept c k n)
  value_kept (Called n place es) c k =
      called_kept (function_of c n) (values es c) (function_kept c k n) (values_kept es c k)
  value_kept (Grouped at e) c k = value_kept e c k
  value_kept (Paired at a b) c k =
      plain_two (value a c) (value b c) pair_of (value_kept a c k) (value_kept b c k) pair_kept
  value_kept (SetOf at items) c k = given_kept (set_of c items) (set_kept c items)
  value_kept (MaskOf at items) c k = given_kept (mask_of c items) (mask_kept c items)
  value_kept (IsDefined at place attribute_at a) c k = λ vals attrs v w. (tt, w)
  value_kept (MethodOf m place a b) c k =
      on_two_kept (value a c) (value b c) (method_of m.kind) (value_kept a c k) (value_kept b c k)
      (method_kept m.kind)
  value_kept (PropertyOf a p) c k =
      on_value_kept (value a c) (property_of p) (value_kept a c k) (property_kept p)
  value_kept (Changed a m place b) c k =
      on_two_kept (value a c) (value b c) (method_of m.kind) (value_kept a c k) (value_kept b c k)
      (method_kept m.kind)
  value_kept (Negated at a) c k = on_value_kept (value a c) not_of (value_kept a c k) not_kept
  value_kept (Multiplied a op b) c k =
      plain_two (value a c) (value b c) (factor_of op) (value_kept a c k) (value_kept b c k)
      (factor_kept op)
  value_kept (Added a op b) c k =
      plain_two (value a c) (value b c) (term_of op) (value_kept a c k) (value_kept b c k)
      (term_kept op)
  value_kept (Compared a op b) c k =
      plain_two (value a c) (value b c) (compare_of op) (value_kept a c k) (value_kept b c k)
      (compare_kept op)
  value_kept (Joined a joint b) c k =
      joined_kept joint (value a c) (value b c) (value_kept a c k) (value_kept b c k)

  pub values_kept : (es : Expressions) (c : Context) → ContextIsWithin c
      → RunKeeps AreWithin (values es c)
  values_kept NoExpressions c k = λ vals attrs v w. (All-nil IsWithin, w)
  values_kept (AndExpressions e es) c k =
      one_more_kept (value e c) (values es c) (value_kept e c k) (values_kept es c k)

-- ---- forms of statements

set_variable_kept : (place : Option ℕ) (x : Val) → IsWithin x → KeepsAll (set_variable place x)
set_variable_kept None x p vals attrs v w = (tt, w)
set_variable_kept (Some place) x p vals attrs v w = go (nat_lt place (length vals))
  where
    go : (b : Bool) → Leaves AreWithin
        (if b then Done (slice_set vals place x) attrs else Stopped Stuck attrs)
    go true = (All-set IsWithin vals place x p v, w)
    go false = (tt, w)

attributes_kept : (vals : Frame) (after : Result Attrs Failure) (attrs : Attrs)
    → IfOk after AttrsAreWithin → AreWithin vals → AttrsAreWithin attrs
    → Leaves AreWithin (set_attributes vals after attrs)
attributes_kept vals (Ok after) attrs h v w = (v, h)
attributes_kept vals (Err (failures.Fault fault)) attrs h v w = (tt, w)
attributes_kept vals (Err failures.Stuck) attrs h v w = (tt, w)

target_kept : (c : Context) (target : Target) (x : Val) → IsWithin x
    → KeepsAll (set_target c target x)
target_kept c (targets.Name n) x p = set_variable_kept (place_of c n) x p
target_kept c (targets.Attribute at a) x p =
    λ vals attrs v w. attributes_kept vals (with_attribute a x attrs) attrs
    (assigned_kept a x attrs p w) v w

assign_kept : (c : Context) (target : Target) (a : Run Val) → RunKeeps IsWithin a
    → KeepsAll (assign c target a)
assign_kept c target a k vals attrs v w =
    flow_then IsWithin AreWithin (a vals attrs) _ (k vals attrs v w)
    (λ x attrs p w. target_kept c target x p vals attrs v w)

in_turn_kept : (a b : Act) → KeepsAll a → KeepsAll b → KeepsAll (in_turn a b)
in_turn_kept a b k l vals attrs v w =
    flow_then AreWithin AreWithin (a vals attrs) _ (k vals attrs v w)
    (λ after attrs u w. l after attrs u w)

block_kept : (more : Frame) (a : Act) → AreWithin more → KeepsAll a → KeepsAll (block more a)
block_kept more a m k vals attrs v w =
    flow_then AreWithin AreWithin (a (vals ++ more) attrs) _
    (k (vals ++ more) attrs (All-append IsWithin vals more v m) w)
    (λ after attrs u w. (All-take IsWithin (length vals) after u, w))

choose_kept : (b : Bool) (a o : Act) → KeepsAll a → KeepsAll o → KeepsAll (choose b a o)
choose_kept true a o k l = k
choose_kept false a o k l = l

choice_kept : (e : Run Val) (a o : Act) → RunKeeps IsWithin e → KeepsAll a → KeepsAll o
    → KeepsAll (choice e a o)
choice_kept e a o h k l vals attrs v w =
    flow_then IsWithin AreWithin (e vals attrs) _ (h vals attrs v w)
    (λ x attrs p w. flow_then Any AreWithin (plainly (bool_in x) attrs) _
    (plainly_kept Any (bool_in x) attrs (any_ok (bool_in x)) w)
    (λ b attrs q w. choose_kept b a o k l vals attrs v w))

arm_kept : (has : Result Bool Failure) (a o : Act) → KeepsAll a → KeepsAll o
    → KeepsAll (arm has a o)
arm_kept has a o k l vals attrs v w =
    flow_then Any AreWithin (plainly has attrs) _ (plainly_kept Any has attrs (any_ok has) w)
    (λ b attrs q w. choose_kept b a o k l vals attrs v w)

cases_kept : (e : Run Val) (f : Val → Act) → RunKeeps IsWithin e → ((x : Val) → KeepsAll (f x))
    → KeepsAll (cases e f)
cases_kept e f h k vals attrs v w =
    flow_then IsWithin AreWithin (e vals attrs) _ (h vals attrs v w)
    (λ x attrs p w. k x vals attrs v w)

turns_kept : (n : ℕ) (xs : List Val) (a : Act) → AreWithin xs → KeepsAll a
    → KeepsAll (turns n xs a)
turns_kept n [] a h k vals attrs v w = (v, w)
turns_kept n (x ∷ xs) a h k vals attrs v w =
    flow_then AreWithin AreWithin (a (vals ++ x ∷ []) attrs) _
    (k (vals ++ x ∷ []) attrs (All-push IsWithin vals x v (All-head IsWithin x xs h)) w)
    (λ after attrs u w. turns_kept n xs a (All-tail IsWithin x xs h) k (take n after) attrs
    (All-take IsWithin n after u) w)

loop_kept : (e : Run Val) (a : Act) → RunKeeps IsWithin e → KeepsAll a → KeepsAll (loop e a)
loop_kept e a h k vals attrs v w =
    flow_then IsWithin AreWithin (e vals attrs) _ (h vals attrs v w)
    (λ x attrs p w. flow_then Elements AreWithin (plainly (elements x) attrs) _
    (plainly_kept Elements (elements x) attrs (elements_kept x p) w)
    (λ xs attrs q w. turns_kept (length vals) xs a q.0 k vals attrs v w))

evaluate_kept : {A : Type 0} (P : A → Type 0) (a : Run A) → RunKeeps P a → KeepsAll (evaluate a)
evaluate_kept P a k vals attrs v w =
    flow_then P AreWithin (a vals attrs) _ (k vals attrs v w) (λ x attrs p w. (v, w))

give_kept : (a : Run Val) → RunKeeps IsWithin a → KeepsAll (give a)
give_kept a k vals attrs v w =
    flow_then IsWithin AreWithin (a vals attrs) (λ x attrs. Stopped (Returned x) attrs)
    (k vals attrs v w) (λ x attrs p w. (p, w))

-- ---- statements

pub inside_kept : (c : Context) (names : List (List ℕ)) → ContextIsWithin c
    → ContextIsWithin (with_variables c names)
inside_kept c names k = record { constants = k.constants; functions = k.functions }

pub defaults_kept : (own : List Variable) → AreWithin (defaults own)
defaults_kept own =
    All-map IsWithin (λ (v : Variable). default_of v.1) own (λ k d lt. default_kept _)

initial_kept : (t : VariableType) (e : Option Expression) (c : Context) → ContextIsWithin c
    → RunKeeps IsWithin (initial t e c)
initial_kept t None c k = λ vals attrs v w. (default_kept (sort_of_type t), w)
initial_kept t (Some e) c k = value_kept e c k

pub target_read : (target : Target) (c : Context) → ContextIsWithin c
    → RunKeeps IsWithin (value (read target) c)
target_read (targets.Name n) c k = value_kept (Named n) c k
target_read (targets.Attribute at a) c k = plain_kept (atoms.Attribute at a) c

result_kept : (e : Option Expression) (c : Context) → ContextIsWithin c → KeepsAll (result e c)
result_kept None c k = λ vals attrs v w. (tt, w)
result_kept (Some e) c k = give_kept (value e c) (value_kept e c k)

nothing_kept : KeepsAll nothing
nothing_kept vals attrs v w = (v, w)

mutual
  pub act_kept : (s : Statement) (c : Context) → ContextIsWithin c → KeepsAll (act s c)
  act_kept (Braced ss) c k =
      block_kept (defaults (all_declared c.text ss)) (acts ss (within c (all_declared c.text ss)))
      (defaults_kept (all_declared c.text ss))
      (acts_kept ss (within c (all_declared c.text ss)) (inside_kept c _ k))
  act_kept Nothing c k = nothing_kept
  act_kept (Declare t n e) c k =
      assign_kept c (targets.Name n) (initial t e c) (initial_kept t e c k)
  act_kept (Assign target e) c k = assign_kept c target (value e c) (value_kept e c k)
  act_kept (ChangeBy target m place e) c k =
      assign_kept c target (on_two (value (read target) c) (value e c) (method_of m.kind))
      (on_two_kept (value (read target) c) (value e c) (method_of m.kind)
      (target_read target c k) (value_kept e c k) (method_kept m.kind))
  act_kept (Clear target) c k =
      assign_kept c target (on_value (value (read target) c) emptied_of)
      (on_value_kept (value (read target) c) emptied_of (target_read target c k) emptied_kept)
  act_kept (Unset place at a) c k =
      λ vals attrs v w. attributes_kept vals (without_attribute a attrs) attrs
      (unset_kept a attrs w) v w
  act_kept (If e s) c k =
      choice_kept (value e c) (act s c) nothing (value_kept e c k) (act_kept s c k) nothing_kept
  act_kept (IfElse e s t) c k =
      choice_kept (value e c) (act s c) (act t c) (value_kept e c k) (act_kept s c k)
      (act_kept t c k)
  act_kept (Case at e as_arms) c k =
      cases_kept (value e c) (λ x. arms_act as_arms c nothing x) (value_kept e c k)
      (λ x. arms_kept as_arms c nothing x k nothing_kept)
  act_kept (CaseElse at e as_arms ss) c k =
      cases_kept (value e c) (λ x. arms_act as_arms c (acts ss c) x) (value_kept e c k)
      (λ x. arms_kept as_arms c (acts ss c) x k (acts_kept ss c k))
  act_kept (For at t n e s) c k =
      loop_kept (value e c) (act s (with_variables c (name_bytes c.text n ∷ [])))
      (value_kept e c k)
      (act_kept s (with_variables c (name_bytes c.text n ∷ [])) (inside_kept c _ k))
  act_kept Accept c k = λ vals attrs v w. (tt, w)
  act_kept Reject c k = λ vals attrs v w. (tt, w)
  act_kept (Return at e) c k = result_kept e c k
  act_kept (Print es) c k = evaluate_kept AreWithin (values es c) (values_kept es c k)
  act_kept (Printn es) c k = evaluate_kept AreWithin (values es c) (values_kept es c k)
  act_kept (Call n place es) c k =
      evaluate_kept Given (call (function_of c n) (values es c))
      (call_kept (function_of c n) (values es c) (function_kept c k n) (values_kept es c k))

  pub acts_kept : (ss : Statements) (c : Context) → ContextIsWithin c → KeepsAll (acts ss c)
  acts_kept NoStatements c k = nothing_kept
  acts_kept (AndStatements s ss) c k =
      in_turn_kept (act s c) (acts ss c) (act_kept s c k) (acts_kept ss c k)

  arms_kept : (as_arms : Arms) (c : Context) (o : Act) (x : Val) → ContextIsWithin c
      → KeepsAll o → KeepsAll (arms_act as_arms c o x)
  arms_kept NoArms c o x k l = l
  arms_kept (AndArms labels ss more) c o x k l =
      arm_kept (has_label c labels x) (acts ss c) (arms_act more c o x) (acts_kept ss c k)
      (arms_kept more c o x k l)

-- ---- functions and filters

pub parameters_kept : (c : Context) (names : List (List ℕ)) → ContextIsWithin c
    → ContextIsWithin (with_parameters c names)
parameters_kept c names k = record { constants = k.constants; functions = k.functions }

pub body_kept : (c : Context) → ContextIsWithin c → (names : List (List ℕ)) (ss : Statements)
    → KeepsAll (body c names ss)
body_kept c k names ss vals attrs v w =
    let own = all_declared c.text ss in
    acts_kept ss (within (with_parameters c names) own)
    (inside_kept (with_parameters c names) _ (parameters_kept c names k)) (vals ++ defaults own)
    attrs (All-append IsWithin vals (defaults own) v (defaults_kept own)) w

end_kept : {A : Type 0} (gives : Option A) (attrs : Attrs) → AttrsAreWithin attrs
    → Leaves Given (at_end gives attrs)
end_kept None attrs w = (tt, w)
end_kept (Some t) attrs w = (tt, w)

given_by_kept : {A : Type 0} (gives : Option A) (flow : Flow Frame) → Leaves AreWithin flow
    → Leaves Given (given_by gives flow)
given_by_kept gives (Done vals attrs) l = end_kept gives attrs l.1
given_by_kept gives (Stopped AtEnd attrs) l = end_kept gives attrs l.1
given_by_kept gives (Stopped (Returned v) attrs) l = (l.0, l.1)
given_by_kept gives (Stopped Accepted attrs) l = (tt, l.1)
given_by_kept gives (Stopped Rejected attrs) l = (tt, l.1)
given_by_kept gives (Stopped (Faulted fault) attrs) l = (tt, l.1)
given_by_kept gives (Stopped Stuck attrs) l = (tt, l.1)

pub doing_kept : (c : Context) → ContextIsWithin c → (f : Routine) → KeepsLimits (doing c f)
doing_kept c k f vals attrs v w =
    given_by_kept f.gives (run_of c f vals attrs)
    (body_kept c k (parameter_names c.text f.parameters) f.body vals attrs v w)

pub filter_kept : (c : Context) → ContextIsWithin c → (ss : Statements) (attrs : Attrs)
    → AttrsAreWithin attrs → Leaves AreWithin (body c [] ss [] attrs)
filter_kept c k ss attrs w = body_kept c k [] ss [] attrs (All-nil IsWithin) w
