-- For the laws: how many steps the run of a filter takes (`steps`, `act_steps`, a line for each
-- form): each expression and each statement that is run is one step. What is behind a stop isn't
-- run. First what each form counts, of what its parts count; then the functions on the abstract
-- syntax, beside those of filt_meaning/specs/Meaning. A target, the items of a set or a mask and
-- the labels of an arm are no expressions: they are read in the step of what they stand in.
-- From: own.
-- Example: `a && b` takes one step and those of `a`, and those of `b` where `a` holds.
use Rattle.std.specs.Prelude.{ℕ, ◌+◌, Bool, true, false, List, [], ◌∷◌, ◌++◌, length, take, Option}
use Rattle.std.specs.Prelude.{Some, None, Result}
use Rattle.attrs.specs.declared.attributes.Attrs.{Attrs}
use Rattle.conf_ast.specs.declared.named.Name.{Name}
use Rattle.conf_ast.specs.Names.{name_bytes}
use Rattle.conf_ast.specs.declared.filters.LogicalOp.{LogicalOp}
use Rattle.conf_ast.specs.declared.filters.LogicalOp.TheVariants as logical_ops
use Rattle.conf_ast.specs.Configurations.{Routine}
use Rattle.conf_ast.specs.Filters.{Expression, Plain, Named, Called, Grouped, Paired, SetOf, MaskOf}
use Rattle.conf_ast.specs.Filters.{IsDefined, MethodOf, PropertyOf, Changed, Negated, Multiplied}
use Rattle.conf_ast.specs.Filters.{Added, Compared, Joined, Expressions, NoExpressions}
use Rattle.conf_ast.specs.Filters.{AndExpressions, Statement, Braced, Nothing, Declare, Assign}
use Rattle.conf_ast.specs.Filters.{ChangeBy, Clear, Unset, If, IfElse, Case, CaseElse, For, Accept}
use Rattle.conf_ast.specs.Filters.{Reject, Return, Print, Printn, Call, Statements, NoStatements}
use Rattle.conf_ast.specs.Filters.{AndStatements, Arms, NoArms, AndArms}
use Rattle.filt_meaning.specs.declared.value.Failure.{Failure}
use Rattle.filt_meaning.specs.Operators.{bool_in}
use Rattle.filt_meaning.specs.Values.{Val}
use Rattle.filt_meaning.specs.Configuration.{parameter_names, with_parameters}
use Rattle.filt_meaning.specs.Flow.{Flow, Done, Stopped, Frame, Run, plainly}
use Rattle.filt_meaning.specs.Items.{has_label}
use Rattle.filt_meaning.specs.Meaning.{Act, act, all_declared, defaults, elements, read, value}
use Rattle.filt_meaning.specs.Meaning.{values, within}
use Rattle.filt_meaning.specs.Names.{Context, named_in, with_variables}

-- How many steps something takes that is run over a frame and attributes.
abbrev pub Count : Type 0
Count = Frame → Attrs → ℕ

-- Names of functions, with what each takes over its arguments.
abbrev pub Counts : Type 0
Counts = List (List ℕ × Count)

abbrev pub count_of : Context → Counts → Name → Option Count
count_of c fs n = named_in fs (name_bytes c.text n)

-- what is behind a flow takes no step where the flow stopped
abbrev pub behind : {A : Type 0} → Flow A → (A → Attrs → ℕ) → ℕ
behind (Done a attrs) next = next a attrs
behind (Stopped why attrs) next = 0

-- ---- forms of expressions

abbrev pub none : Count
none vals attrs = 0

abbrev pub one : Count
one vals attrs = 1

-- a step, and those of a part that is run first
abbrev pub with_part : Count → Count
with_part part vals attrs = 1 + part vals attrs

-- an expression, and what is run behind it
abbrev pub both : Run Val → (first second : Count) → Count
both a first second vals attrs =
    first vals attrs + behind (a vals attrs) (λ v attrs. second vals attrs)

-- the left operand before the right one
abbrev pub operands : Run Val → (left right : Count) → Count
operands a left right = with_part (both a left right)

-- the right side of `&&` or `||` behind a left one of this value: it is left out where the left one
-- decides
abbrev pub right_side : LogicalOp → Bool → Count → Count
right_side logical_ops.And true right = right
right_side logical_ops.And false right = none
right_side logical_ops.Or true right = none
right_side logical_ops.Or false right = right

abbrev pub joined : LogicalOp → Run Val → (left right : Count) → Count
joined joint a left right vals attrs =
    1 + left vals attrs + behind (a vals attrs) (λ v attrs. behind (plainly (bool_in v) attrs)
    (λ holds attrs. right_side joint holds right vals attrs))

-- A call takes what its arguments take, and behind them what the function does. The arguments of a
-- function that isn't there aren't run.
abbrev pub call : Option Count → Run Frame → Count → Count
call None arguments all vals attrs = 1
call (Some f) arguments all vals attrs = 1 + all vals attrs + behind (arguments vals attrs) f

-- ---- expressions

abbrev mutual
  pub steps : Expression → Context → Counts → Count
  steps (Plain s) c fs = one
  steps (Named n) c fs = one
  steps (Called n place es) c fs = call (count_of c fs n) (values es c) (all_steps es c fs)
  steps (Grouped at e) c fs = with_part (steps e c fs)
  steps (Paired at a b) c fs = operands (value a c) (steps a c fs) (steps b c fs)
  steps (SetOf at items) c fs = one
  steps (MaskOf at items) c fs = one
  steps (IsDefined at place attribute_at a) c fs = one
  steps (MethodOf m place a b) c fs = operands (value a c) (steps a c fs) (steps b c fs)
  steps (PropertyOf a p) c fs = with_part (steps a c fs)
  steps (Changed a m place b) c fs = operands (value a c) (steps a c fs) (steps b c fs)
  steps (Negated at a) c fs = with_part (steps a c fs)
  steps (Multiplied a op b) c fs = operands (value a c) (steps a c fs) (steps b c fs)
  steps (Added a op b) c fs = operands (value a c) (steps a c fs) (steps b c fs)
  steps (Compared a op b) c fs = operands (value a c) (steps a c fs) (steps b c fs)
  steps (Joined a joint b) c fs = joined joint (value a c) (steps a c fs) (steps b c fs)

  pub all_steps : Expressions → Context → Counts → Count
  all_steps NoExpressions c fs = none
  all_steps (AndExpressions e es) c fs = both (value e c) (steps e c fs) (all_steps es c fs)

abbrev pub optional : Option Expression → Context → Counts → Count
optional None c fs = none
optional (Some e) c fs = steps e c fs

-- ---- forms of statements

abbrev pub in_turn : Act → (first second : Count) → Count
in_turn a first second vals attrs = first vals attrs + behind (a vals attrs) second

abbrev pub block : Frame → Count → Count
block more body vals attrs = 1 + body (vals ++ more) attrs

-- the argument of a method is run behind the reading of its target
abbrev pub change : Run Val → Count → Count
change target argument vals attrs =
    1 + behind (target vals attrs) (λ v attrs. argument vals attrs)

abbrev pub choose : Bool → (first second : Count) → Count
choose true first second = first
choose false first second = second

abbrev pub choice : Run Val → (condition first second : Count) → Count
choice a condition first second vals attrs =
    1 + condition vals attrs + behind (a vals attrs) (λ v attrs. behind (plainly (bool_in v) attrs)
    (λ holds attrs. choose holds first second vals attrs))

abbrev pub arm : Result Bool Failure → (body otherwise : Count) → Count
arm has body otherwise vals attrs =
    behind (plainly has attrs) (λ holds attrs. choose holds body otherwise vals attrs)

abbrev pub cases : Run Val → Count → (Val → Count) → Count
cases a operand arms_of vals attrs =
    1 + operand vals attrs + behind (a vals attrs) (λ v attrs. arms_of v vals attrs)

-- the body for each element, over what the turn before left, as `turns` of the meaning
abbrev pub turns : ℕ → List Val → Act → Count → Count
turns n [] body turn vals attrs = 0
turns n (v ∷ vs) body turn vals attrs =
    turn (vals ++ v ∷ []) attrs + behind (body (vals ++ v ∷ []) attrs)
    (λ after attrs. turns n vs body turn (take n after) attrs)

abbrev pub loop : Run Val → Count → Act → Count → Count
loop a list body turn vals attrs =
    1 + list vals attrs + behind (a vals attrs) (λ v attrs. behind (plainly (elements v) attrs)
    (λ vs attrs. turns (length vals) vs body turn vals attrs))

-- ---- statements

abbrev mutual
  pub act_steps : Statement → Context → Counts → Count
  act_steps (Braced ss) c fs =
      let own = all_declared c.text ss in block (defaults own) (acts_steps ss (within c own) fs)
  act_steps Nothing c fs = one
  act_steps (Declare t n e) c fs = with_part (optional e c fs)
  act_steps (Assign target e) c fs = with_part (steps e c fs)
  act_steps (ChangeBy target m place e) c fs = change (value (read target) c) (steps e c fs)
  act_steps (Clear target) c fs = one
  act_steps (Unset place at a) c fs = one
  act_steps (If e s) c fs = choice (value e c) (steps e c fs) (act_steps s c fs) none
  act_steps (IfElse e s t) c fs =
      choice (value e c) (steps e c fs) (act_steps s c fs) (act_steps t c fs)
  act_steps (Case at e as_arms) c fs =
      cases (value e c) (steps e c fs) (λ v. arms_steps as_arms c fs none v)
  act_steps (CaseElse at e as_arms ss) c fs =
      cases (value e c) (steps e c fs) (λ v. arms_steps as_arms c fs (acts_steps ss c fs) v)
  act_steps (For at t n e body) c fs =
      let inside = with_variables c (name_bytes c.text n ∷ []) in
      loop (value e c) (steps e c fs) (act body inside) (act_steps body inside fs)
  act_steps Accept c fs = one
  act_steps Reject c fs = one
  act_steps (Return at e) c fs = with_part (optional e c fs)
  act_steps (Print es) c fs = with_part (all_steps es c fs)
  act_steps (Printn es) c fs = with_part (all_steps es c fs)
  act_steps (Call n place es) c fs = call (count_of c fs n) (values es c) (all_steps es c fs)

  pub acts_steps : Statements → Context → Counts → Count
  acts_steps NoStatements c fs = none
  acts_steps (AndStatements s ss) c fs =
      in_turn (act s c) (act_steps s c fs) (acts_steps ss c fs)

  -- the first arm that has the value, and none behind it
  pub arms_steps : Arms → Context → Counts → (otherwise : Count) → Val → Count
  arms_steps NoArms c fs otherwise v = otherwise
  arms_steps (AndArms labels ss more) c fs otherwise v =
      arm (has_label c labels v) (acts_steps ss c fs) (arms_steps more c fs otherwise v)

-- ---- functions and filters

-- the statements of a function or a filter over the values of its parameters, as `body` of
-- filt_meaning/specs/Configuration runs them
abbrev pub body_steps : Context → Counts → List (List ℕ) → Statements → Count
body_steps c fs names ss arguments attrs =
    let own = all_declared c.text ss in
    acts_steps ss (within (with_parameters c names) own) fs (arguments ++ defaults own) attrs

-- what a function takes over its arguments
abbrev pub function_steps : Context → Counts → Routine → Count
function_steps c fs f = body_steps c fs (parameter_names c.text f.parameters) f.body

-- what the statements of a filter take over attributes
abbrev pub filter_steps : Context → Counts → Statements → Attrs → ℕ
filter_steps c fs ss attrs = body_steps c fs [] ss [] attrs
