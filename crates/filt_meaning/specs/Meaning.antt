-- What expressions and statements do (`value`, `act`), and which variables they declare
-- (`declared`). First what each form does, of what its parts do; then the functions on the abstract
-- syntax, a line for each of its forms. How to read it: docs/DEFINITIONS.md.
-- Not modelled: memory; what `print` prints.
-- From: BIRD User's Guide, "Filters"; where the guide is silent, own.
-- Example: the three filters of Worked.
use Rattle.std.specs.Prelude.{ℕ, Bool, true, false, nat_lt, if◌then◌else◌, List, [], ◌∷◌, ◌++◌, length, map, take, Option, Some, None, Result, Ok, Err, slice_get, slice_set, drop}
use Rattle.attrs.specs.declared.attributes.Attrs.{Attrs}
use Rattle.conf_ast.specs.declared.named.Name.{Name}
use Rattle.conf_ast.specs.Names.{name_bytes}
use Rattle.conf_ast.specs.declared.attribute.Attribute.{Attribute}
use Rattle.conf_ast.specs.declared.filters.CompareOp.{CompareOp}
use Rattle.conf_ast.specs.declared.filters.CompareOp.TheVariants as compare_ops
use Rattle.conf_ast.specs.declared.filters.MulOp.{MulOp}
use Rattle.conf_ast.specs.declared.filters.MulOp.TheVariants as mul_ops
use Rattle.conf_ast.specs.declared.filters.LogicalOp.{LogicalOp}
use Rattle.conf_ast.specs.declared.filters.LogicalOp.TheVariants as logical_ops
use Rattle.conf_ast.specs.declared.filters.MethodKind.{MethodKind}
use Rattle.conf_ast.specs.declared.filters.MethodKind.TheVariants as methods
use Rattle.conf_ast.specs.declared.filters.Property.{Property}
use Rattle.conf_ast.specs.declared.filters.Property.TheVariants as properties
use Rattle.conf_ast.specs.declared.filters.Atom.{Atom}
use Rattle.conf_ast.specs.declared.filters.Atom.TheVariants as atoms
use Rattle.conf_ast.specs.declared.filters.Target.{Target}
use Rattle.conf_ast.specs.declared.filters.Target.TheVariants as targets
use Rattle.conf_ast.specs.declared.filters.AddOp.{AddOp}
use Rattle.conf_ast.specs.declared.filters.AddOp.TheVariants as add_ops
use Rattle.conf_ast.specs.declared.filters.VariableType.{VariableType}
use Rattle.conf_ast.specs.Filters.{Expression, Plain, Named, Called, Grouped, Paired, SetOf, MaskOf, IsDefined, MethodOf, PropertyOf, Changed, Negated, Multiplied, Added, Compared, Joined, Expressions, NoExpressions, AndExpressions, Statement, Braced, Nothing, Declare, Assign, ChangeBy, Clear, Unset, If, IfElse, Case, CaseElse, For, Accept, Reject, Return, Print, Printn, Call, Statements, NoStatements, AndStatements, Arms, NoArms, AndArms}
use Rattle.filt_meaning.specs.declared.value.Failure.{Failure}
use Rattle.filt_meaning.specs.declared.value.Failure.TheVariants as failures
use Rattle.filt_meaning.specs.Operators.{bool_in, plus_of, minus_of, times_of, over_of, truth_of, not_of, pair_of, equal_of, not_equal_of, less_of, less_or_equal_of, greater_of, greater_or_equal_of, matches_of, matches_not_of, len_of, first_of, last_of, ip_of, prepended_of, added_of, deleted_of, filtered_of, emptied_of}
use Rattle.filt_meaning.specs.Values.{Val, VInt, VBool, VIp, VPrefix, VPair, VString, VPath, VClist, default_of}
use Rattle.filt_meaning.specs.Attributes.{attribute_of, is_defined, with_attribute, without_attribute, value_of_constant}
use Rattle.filt_meaning.specs.Flow.{Why, AtEnd, Returned, Accepted, Rejected, Stuck, Flow, Done, Stopped, Frame, Run, and_then, plainly}
use Rattle.filt_meaning.specs.Items.{set_of, mask_of, has_label}
use Rattle.filt_meaning.specs.Names.{Around, Doing, Context, place_of, constant_of, function_of, there, Variable, sort_of_type, with_variables}

-- ---- forms of expressions

-- a value that is there already, or a failure
abbrev pub given : Result Val Failure → Run Val
given v vals attrs = plainly v attrs

abbrev pub on_value : Run Val → (Val → Result Val Failure) → Run Val
on_value a f vals attrs = and_then (a vals attrs) (λ v attrs. plainly (f v) attrs)

-- the left operand before the right one
abbrev pub on_two : Run Val → Run Val → (Val → Val → Result Val Failure) → Run Val
on_two a b f vals attrs =
    and_then (a vals attrs) (λ v attrs. and_then (b vals attrs) (λ w attrs. plainly (f v w) attrs))

-- a variable by its place in the frame, and a constant where there is none
abbrev pub variable_or : Option ℕ → Option Val → Run Val
variable_or (Some place) constant vals attrs = plainly (there (slice_get vals place)) attrs
variable_or None constant vals attrs = plainly (there constant) attrs

-- the right side of `&&` or `||` behind a left one of this value: it is left out where the left one
-- decides
abbrev pub right_side : LogicalOp → Bool → Run Val → Run Val
right_side logical_ops.And true b vals attrs = on_value b truth_of vals attrs
right_side logical_ops.And false b vals attrs = Done (VBool false) attrs
right_side logical_ops.Or true b vals attrs = Done (VBool true) attrs
right_side logical_ops.Or false b vals attrs = on_value b truth_of vals attrs

abbrev pub joined : LogicalOp → Run Val → Run Val → Run Val
joined joint a b vals attrs =
    and_then (a vals attrs) (λ v attrs. and_then (plainly (bool_in v) attrs)
    (λ left attrs. right_side joint left b vals attrs))

-- values between commas, from left to right
abbrev pub no_values : Run Frame
no_values vals attrs = Done [] attrs

abbrev pub one_more : Run Val → Run Frame → Run Frame
one_more a more vals attrs =
    and_then (a vals attrs) (λ v attrs. and_then (more vals attrs)
    (λ vs attrs. Done (v ∷ vs) attrs))

-- a function of these arguments, which are evaluated first
abbrev pub call : Option Doing → Run Frame → Run (Option Val)
call None arguments vals attrs = Stopped Stuck attrs
call (Some f) arguments vals attrs = and_then (arguments vals attrs) f

-- what a function gives
abbrev pub called_value : Option Doing → Run Frame → Run Val
called_value f arguments vals attrs =
    and_then (call f arguments vals attrs) (λ result attrs. plainly (there result) attrs)

-- ---- operators

abbrev pub term_of : AddOp → Val → Val → Result Val Failure
term_of add_ops.Plus = plus_of
term_of add_ops.Minus = minus_of

abbrev pub factor_of : MulOp → Val → Val → Result Val Failure
factor_of mul_ops.Times = times_of
factor_of mul_ops.Over = over_of

abbrev pub compare_of : CompareOp → Val → Val → Result Val Failure
compare_of compare_ops.Equal = equal_of
compare_of compare_ops.NotEqual = not_equal_of
compare_of compare_ops.Less = less_of
compare_of compare_ops.LessOrEqual = less_or_equal_of
compare_of compare_ops.Greater = greater_of
compare_of compare_ops.GreaterOrEqual = greater_or_equal_of
compare_of compare_ops.Matches = matches_of
compare_of compare_ops.MatchesNot = matches_not_of

abbrev pub property_of : Property → Val → Result Val Failure
property_of properties.Len = len_of
property_of properties.First = first_of
property_of properties.Last = last_of
property_of properties.Ip = ip_of

abbrev pub method_of : MethodKind → Val → Val → Result Val Failure
method_of methods.Prepend = prepended_of
method_of methods.Add = added_of
method_of methods.Delete = deleted_of
method_of methods.Filter = filtered_of

-- ---- expressions

abbrev pub attribute : Around → Attribute → Run Val
attribute around a vals attrs = plainly (attribute_of around a attrs) attrs

-- values, attributes and constants, by their words
abbrev pub plain : Atom → Context → Run Val
plain (atoms.Number at n) c = given (Ok (VInt n))
plain (atoms.Text at start len) c = given (Ok (VString (take len (drop start c.text))))
plain (atoms.Ip at addr) c = given (Ok (VIp addr))
plain (atoms.Prefix at net) c = given (Ok (VPrefix net))
plain (atoms.True at) c = given (Ok (VBool true))
plain (atoms.False at) c = given (Ok (VBool false))
plain (atoms.EmptyPath at) c = given (Ok (VPath []))
plain (atoms.EmptyClist at) c = given (Ok (VClist []))
plain (atoms.Attribute at a) c = attribute c.around a
plain (atoms.Constant at constant) c = given (Ok (value_of_constant constant))

-- `defined(attribute)`
abbrev pub defined : Attribute → Run Val
defined a vals attrs = Done (VBool (is_defined a attrs)) attrs

abbrev pub named : Name → Context → Run Val
named n c = variable_or (place_of c n) (constant_of c n)

abbrev mutual
  pub value : Expression → Context → Run Val
  value (Plain s) c = plain s c
  value (Named n) c = named n c
  value (Called n place es) c = called_value (function_of c n) (values es c)
  value (Grouped at e) c = value e c
  value (Paired at a b) c = on_two (value a c) (value b c) pair_of
  value (SetOf at items) c = given (set_of c items)
  value (MaskOf at items) c = given (mask_of c items)
  value (IsDefined at place attribute_at a) c = defined a
  value (MethodOf m place a b) c = on_two (value a c) (value b c) (method_of m.kind)
  value (PropertyOf a p) c = on_value (value a c) (property_of p)
  value (Changed a m place b) c = on_two (value a c) (value b c) (method_of m.kind)
  value (Negated at a) c = on_value (value a c) not_of
  value (Multiplied a op b) c = on_two (value a c) (value b c) (factor_of op)
  value (Added a op b) c = on_two (value a c) (value b c) (term_of op)
  value (Compared a op b) c = on_two (value a c) (value b c) (compare_of op)
  value (Joined a joint b) c = joined joint (value a c) (value b c)

  pub values : Expressions → Context → Run Frame
  values NoExpressions c = no_values
  values (AndExpressions e es) c = one_more (value e c) (values es c)

-- ---- variables that statements declare

-- A variable is seen to the end of the block round its declaration, also where that is the whole
-- body of `then`, `else` or `do`, or stands in an arm of a `case`.
abbrev mutual
  pub declared : List ℕ → Statement → List Variable
  declared text (Braced ss) = []
  declared text Nothing = []
  declared text (Declare t n e) = (name_bytes text n, sort_of_type t) ∷ []
  declared text (Assign target e) = []
  declared text (ChangeBy target m place e) = []
  declared text (Clear target) = []
  declared text (Unset place at a) = []
  declared text (If e s) = declared text s
  declared text (IfElse e s t) = declared text s ++ declared text t
  declared text (Case at e as_arms) = arms_declare text as_arms
  declared text (CaseElse at e as_arms ss) = arms_declare text as_arms ++ all_declared text ss
  declared text (For at t n e body) = declared text body
  declared text Accept = []
  declared text Reject = []
  declared text (Return at e) = []
  declared text (Print es) = []
  declared text (Printn es) = []
  declared text (Call n place es) = []

  pub all_declared : List ℕ → Statements → List Variable
  all_declared text NoStatements = []
  all_declared text (AndStatements s ss) = declared text s ++ all_declared text ss

  pub arms_declare : List ℕ → Arms → List Variable
  arms_declare text NoArms = []
  arms_declare text (AndArms labels ss more) = all_declared text ss ++ arms_declare text more

abbrev pub names_of : List Variable → List (List ℕ)
names_of variables = map (λ (v : Variable). v.0) variables

-- what variables hold before anything is assigned to them
abbrev pub defaults : List Variable → Frame
defaults variables = map (λ (v : Variable). default_of v.1) variables

-- ---- forms of statements

abbrev pub Act : Type 0
Act = Run Frame

abbrev pub nothing : Act
nothing vals attrs = Done vals attrs

abbrev pub stop : Why → Act
stop why vals attrs = Stopped why attrs

abbrev pub in_turn : Act → Act → Act
in_turn first second vals attrs =
    and_then (first vals attrs) (λ after attrs. second after attrs)

-- values of variables more, which are gone at the end
abbrev pub block : Frame → Act → Act
block more body vals attrs =
    and_then (body (vals ++ more) attrs) (λ after attrs. Done (take (length vals) after) attrs)

-- a variable, by its place in the frame, holds a value from now on
abbrev pub set_variable : Option ℕ → Val → Act
set_variable None v vals attrs = Stopped Stuck attrs
set_variable (Some place) v vals attrs =
    if nat_lt place (length vals) then Done (slice_set vals place v) attrs
    else Stopped Stuck attrs

-- the frame as it was, over other attributes
abbrev pub set_attributes : Frame → Result Attrs Failure → Attrs → Flow Frame
set_attributes vals after attrs =
    and_then (plainly after attrs) (λ changed attrs. Done vals changed)

abbrev pub set_target : Context → Target → Val → Act
set_target c (targets.Name n) v vals attrs = set_variable (place_of c n) v vals attrs
set_target c (targets.Attribute at a) v vals attrs =
    set_attributes vals (with_attribute a v attrs) attrs

abbrev pub unset : Attribute → Act
unset a vals attrs = set_attributes vals (without_attribute a attrs) attrs

-- what is evaluated becomes what the target holds
abbrev pub assign : Context → Target → Run Val → Act
assign c target a vals attrs =
    and_then (a vals attrs) (λ v attrs. set_target c target v vals attrs)

-- the target as an expression
abbrev pub read : Target → Expression
read (targets.Name n) = Named n
read (targets.Attribute at a) = Plain (atoms.Attribute at a)

abbrev pub choose : Bool → Act → Act → Act
choose true first second = first
choose false first second = second

abbrev pub choice : Run Val → Act → Act → Act
choice a first second vals attrs =
    and_then (a vals attrs) (λ v attrs. and_then (plainly (bool_in v) attrs)
    (λ holds attrs. choose holds first second vals attrs))

-- an arm of a `case` whose labels have the value or haven't, and what is done where they haven't
abbrev pub arm : Result Bool Failure → Act → Act → Act
arm has body otherwise vals attrs =
    and_then (plainly has attrs) (λ holds attrs. choose holds body otherwise vals attrs)

abbrev pub cases : Run Val → (Val → Act) → Act
cases a arms_of vals attrs = and_then (a vals attrs) (λ v attrs. arms_of v vals attrs)

-- the elements of a path or a list of communities
abbrev pub elements : Val → Result Frame Failure
elements (VPath path) = Ok (map VInt path)
elements (VClist pairs) = Ok (map VPair pairs)
elements _ = Err failures.Stuck

-- The body for each element, which is one variable more. The first n variables, those round the
-- loop, are kept from turn to turn.
abbrev pub turns : ℕ → List Val → Act → Act
turns n [] body vals attrs = Done vals attrs
turns n (v ∷ vs) body vals attrs =
    and_then (body (vals ++ v ∷ []) attrs) (λ after attrs. turns n vs body (take n after) attrs)

-- the list is evaluated once, before the first turn
abbrev pub loop : Run Val → Act → Act
loop a body vals attrs =
    and_then (a vals attrs) (λ v attrs. and_then (plainly (elements v) attrs)
    (λ vs attrs. turns (length vals) vs body vals attrs))

abbrev pub give : Run Val → Act
give a vals attrs = and_then (a vals attrs) (λ v attrs. Stopped (Returned v) attrs)

-- what is evaluated, and dropped
abbrev pub evaluate : {A : Type 0} → Run A → Act
evaluate a vals attrs = and_then (a vals attrs) (λ v attrs. Done vals attrs)

-- ---- statements

-- a declaration without a value makes its variable hold what is empty, at each turn of a loop
abbrev pub initial : VariableType → Option Expression → Context → Run Val
initial t None c = given (Ok (default_of (sort_of_type t)))
initial t (Some e) c = value e c

abbrev pub result : Option Expression → Context → Act
result None c = stop AtEnd
result (Some e) c = give (value e c)

-- what is seen in a block that declares these variables
abbrev pub within : Context → List Variable → Context
within c variables = with_variables c (names_of variables)

abbrev mutual
  pub act : Statement → Context → Act
  act (Braced ss) c =
      let own = all_declared c.text ss in block (defaults own) (acts ss (within c own))
  act Nothing c = nothing
  act (Declare t n e) c = assign c (targets.Name n) (initial t e c)
  act (Assign target e) c = assign c target (value e c)
  act (ChangeBy target m place e) c =
      assign c target (on_two (value (read target) c) (value e c) (method_of m.kind))
  act (Clear target) c = assign c target (on_value (value (read target) c) emptied_of)
  act (Unset place at a) c = unset a
  act (If e s) c = choice (value e c) (act s c) nothing
  act (IfElse e s t) c = choice (value e c) (act s c) (act t c)
  act (Case at e as_arms) c = cases (value e c) (λ v. arms_act as_arms c nothing v)
  act (CaseElse at e as_arms ss) c = cases (value e c) (λ v. arms_act as_arms c (acts ss c) v)
  act (For at t n e body) c =
      loop (value e c) (act body (with_variables c (name_bytes c.text n ∷ [])))
  act Accept c = stop Accepted
  act Reject c = stop Rejected
  act (Return at e) c = result e c
  act (Print es) c = evaluate (values es c)
  act (Printn es) c = evaluate (values es c)
  act (Call n place es) c = evaluate (call (function_of c n) (values es c))

  pub acts : Statements → Context → Act
  acts NoStatements c = nothing
  acts (AndStatements s ss) c = in_turn (act s c) (acts ss c)

  -- the first arm that has the value, and none behind it
  pub arms_act : Arms → Context → (otherwise : Act) → Val → Act
  arms_act NoArms c otherwise v = otherwise
  arms_act (AndArms labels ss more) c otherwise v =
      arm (has_label c labels v) (acts ss c) (arms_act more c otherwise v)
