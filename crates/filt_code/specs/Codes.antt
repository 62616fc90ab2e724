-- What code does (`mean`), and what compiled filters come to (`code_flow`) and say of a route
-- (`code_judged`). A line for each instruction: what it does to the variables, the operands and the
-- attributes, and which place it leads to. The variables are the frame of the meaning of filters,
-- whose forms stand here too; the operands lie apart, the one on top first.
-- Nothing is to be believed of it: what compiled filters say is tied to the meaning of their sources.
use Rattle.std.specs.Prelude.{◌≡◌, ℕ, suc, zero, ◌-◌, Bool, true, false, not, ◌&&◌, nat_le, List, [], ◌∷◌, ◌++◌, length, map, take, drop, reverse, Option, Some, None, Result, Ok, Err, get_or, slice_get}
use Rattle.attrs.specs.declared.attributes.Attrs.{Attrs}
use Rattle.attrs.specs.declared.judge.FilterFault.TheVariants as faults
use Rattle.attrs.specs.declared.judge.Verdict.{Verdict}
use Rattle.conf_ast.specs.declared.filters.LogicalOp.{LogicalOp}
use Rattle.conf_ast.specs.declared.filters.LogicalOp.TheVariants as logical_ops
use Rattle.conf_ast.specs.declared.attribute.Attribute.TheVariants as attributes
use Rattle.filt_meaning.specs.declared.value.Failure.{Failure}
use Rattle.filt_meaning.specs.declared.value.Failure.TheVariants.{Fault}
use Rattle.filt_meaning.specs.Operators as operators
use Rattle.filt_meaning.specs.Operators.{bool_in, emptied_of, matches_of, not_of, pair_of, says, truth_of}
use Rattle.filt_meaning.specs.Seen.{val_of_fixed}
use Rattle.filt_meaning.specs.Values.{Val, VBool, VPrefixSet, default_of}
use Rattle.filt_meaning.specs.Attributes.{with_attribute}
use Rattle.filt_meaning.specs.Configuration.{given_by, verdict_of}
use Rattle.filt_meaning.specs.Flow.{AtEnd, Returned, Accepted, Rejected, Stuck, Flow, Done, Stopped, Frame, Run, and_then, plainly}
use Rattle.filt_meaning.specs.Meaning.{given, on_two, variable_or, attribute, defined, factor_of, term_of, compare_of, property_of, method_of, set_variable, set_attributes, unset, elements, turns}
use Rattle.filt_meaning.specs.Names.{Around, Doing, there}
use Rattle.filt_meaning.specs.declared.tree.Labels.{Labels}
use Rattle.filt_meaning.specs.declared.tree.TArm.{TArm}
use Rattle.filt_meaning.specs.declared.tree.TStmt.{TStmt}
use Rattle.filt_meaning.specs.Trees.{test, has}
use Rattle.filt_code.specs.declared.code.Draft.{Draft}
use Rattle.filt_code.specs.declared.code.Routine.{Routine}
use Rattle.filt_code.specs.declared.instr.Effect.{Effect}
use Rattle.filt_code.specs.declared.instr.Effect.TheVariants as effects
use Rattle.filt_code.specs.declared.instr.Instr.{Instr}
use Rattle.filt_code.specs.declared.instr.Instr.TheVariants as instrs
use Rattle.filt_code.specs.declared.instr.Number.{Number}
use Rattle.filt_code.specs.declared.instr.Number.TheVariants as numbers
use Rattle.filt_code.specs.declared.instr.OfOne.{OfOne}
use Rattle.filt_code.specs.declared.instr.OfOne.TheVariants as of_one
use Rattle.filt_code.specs.declared.instr.OfTwo.{OfTwo}
use Rattle.filt_code.specs.declared.instr.OfTwo.TheVariants as of_two
use Rattle.filt_code.specs.declared.instr.Question.{Question}
use Rattle.filt_code.specs.declared.instr.Question.TheVariants as questions

-- What code is run over: what no instruction changes, and what the functions do that it may call, by
-- their numbers.
pub record Setting : Type 0 where
  pub around : Around
  pub functions : List Doing

-- What is run from a place of a code on.
abbrev pub At : Type 0
At = Frame → (operands : List Val) → Attrs → Flow Frame

-- ---- operands

-- the top operand, and those under it
abbrev pub with_one : {A : Type 0} → (Val → List Val → Attrs → Flow A) → List Val → Attrs → Flow A
with_one next [] attrs = Stopped Stuck attrs
with_one next (v ∷ os) attrs = next v os attrs

-- a value on top of the operands
abbrev pub put : Frame → List Val → Flow Val → Flow (Frame × List Val)
put vals os flow = and_then flow (λ v attrs. Done (vals, v ∷ os) attrs)

-- the same operands over another frame
abbrev pub over : List Val → Flow Frame → Flow (Frame × List Val)
over os flow = and_then flow (λ vals attrs. Done (vals, os) attrs)

-- ---- operators

abbrev pub one_of : OfOne → Val → Result Val Failure
one_of of_one.Not = not_of
one_of of_one.Truth = truth_of
one_of of_one.Empty = emptied_of
one_of (of_one.Property property) = property_of property

abbrev pub two_of : OfTwo → Val → Val → Result Val Failure
two_of of_two.Pair = pair_of
two_of (of_two.Method kind) = method_of kind
two_of (of_two.Factor op) = factor_of op
two_of (of_two.Term op) = term_of op
two_of (of_two.Compare op) = compare_of op

-- ---- effects

abbrev pub effect : Around → Effect → Frame → (operands : List Val) → Attrs → Flow (Frame × List Val)
effect around (effects.Push v) vals os attrs = put vals os (given (Ok (val_of_fixed v.now)) vals attrs)
effect around (effects.Local place) vals os attrs = put vals os (variable_or (Some place) None vals attrs)
effect around (effects.Attribute a) vals os attrs = put vals os (attribute around a vals attrs)
effect around (effects.Defined a) vals os attrs = put vals os (defined a vals attrs)
effect around (effects.Default sort) vals os attrs = put vals os (given (Ok (default_of sort)) vals attrs)
effect around (effects.One op) vals os attrs =
    with_one (λ v os attrs. put vals os (plainly (one_of op v) attrs)) os attrs
effect around (effects.Two op) vals os attrs =
    with_one (λ w os attrs. with_one (λ v os attrs. put vals os (plainly (two_of op v w) attrs))
    os attrs) os attrs
effect around effects.Discard vals os attrs = with_one (λ v os attrs. Done (vals, os) attrs) os attrs
effect around (effects.Store place) vals os attrs =
    with_one (λ v os attrs. over os (set_variable (Some place) v vals attrs)) os attrs
effect around (effects.Assign a) vals os attrs =
    with_one (λ v os attrs. over os (set_attributes vals (with_attribute a v attrs) attrs)) os attrs
effect around (effects.Unset a) vals os attrs = over os (unset a vals attrs)
effect around (effects.Declare sort) vals os attrs = Done (vals ++ default_of sort ∷ [], os) attrs
effect around (effects.Leave n) vals os attrs = Done (take (length vals - n) vals, os) attrs

-- ---- numbers

abbrev pub known : Option ℕ → Result ℕ Failure
known None = Err (Fault faults.Undefined)
known (Some n) = Ok n

-- what a route holds; a number that it may not have is a fault where it hasn't
abbrev pub number_in : Around → Number → Attrs → Result ℕ Failure
number_in around numbers.NetLength attrs = Ok around.net.len
number_in around numbers.Preference attrs = Ok attrs.pref
number_in around numbers.Med attrs = known attrs.med
number_in around numbers.LocalPref attrs = known attrs.lp
number_in around numbers.IgpMetric attrs = known attrs.igp
number_in around numbers.PathLength attrs = Ok (length attrs.path)
number_in around numbers.First attrs = Ok (get_or attrs.path 0 0)
number_in around numbers.Last attrs = Ok (get_or attrs.path (length attrs.path - 1) 0)
number_in around numbers.Communities attrs = Ok (length attrs.coms)

-- whether a number is at least the first one and at most the second one
abbrev pub within : (low high : ℕ) → ℕ → Bool
within low high n = nat_le low n && nat_le n high

-- ---- jumps

abbrev pub question : Around → Question → Run Val
question around (questions.Within number low high) =
    λ vals attrs. plainly (operators.and_then (number_in around number attrs)
    (λ n. says (within low high n))) attrs
question around (questions.Test what) = test around what
question around (questions.NetIn set) =
    on_two (attribute around attributes.Net) (given (Ok (VPrefixSet set.now))) matches_of
question around (questions.Defined a) = defined a

-- over so many instructions where a truth value is this one, else to the next
abbrev pub jump_where : (is : Bool) → ℕ → Bool → ℕ
jump_where true n true = n
jump_where true n false = 0
jump_where false n true = 0
jump_where false n false = n

-- whether the left side's value is the whole's
abbrev pub decides : LogicalOp → Bool → Bool
decides logical_ops.And left = not left
decides logical_ops.Or left = left

-- behind a left side of this value
abbrev pub behind_left : (decided : Bool) → (left : Bool) → ℕ → (rest : ℕ → At) → At
behind_left true left n rest vals os attrs = rest n vals (VBool left ∷ os) attrs
behind_left false left n rest vals os attrs = rest 0 vals os attrs

-- how many labels stand before the first ones that have the value
abbrev pub before_in : Bool → Result ℕ Failure → Result ℕ Failure
before_in true more = Ok 0
before_in false more = operators.and_then more (λ n. Ok (suc n))

abbrev pub arms_before : List Labels → Val → Result ℕ Failure
arms_before [] v = Ok 0
arms_before (ls ∷ more) v =
    operators.and_then (has ls v) (λ is. before_in is (arms_before more v))

abbrev pub labels_of : List (TArm TStmt) → List Labels
labels_of arms = map (λ (arm : TArm TStmt). arm.labels) arms

-- ---- calls

-- a function with the n top operands, of which the lowest is the first argument
abbrev pub called : Option Doing → ℕ → (operands : List Val) → Attrs → Flow (Option Val)
called None n os attrs = Stopped Stuck attrs
called (Some f) n os attrs = f (reverse (take n os)) attrs

-- ---- instructions

-- what an instruction does, where `rest n` is what is done behind the n instructions behind it
abbrev pub one : Setting → Instr → (rest : ℕ → At) → At
one s (instrs.Do e) rest vals os attrs =
    and_then (effect s.around e vals os attrs) (λ held attrs. rest 0 held.0 held.1 attrs)
one s (instrs.Jump n) rest vals os attrs = rest n vals os attrs
one s (instrs.JumpIf is n) rest vals os attrs =
    with_one (λ v os attrs. and_then (plainly (bool_in v) attrs)
    (λ b attrs. rest (jump_where is n b) vals os attrs)) os attrs
one s (instrs.JumpIfAsked is q n) rest vals os attrs =
    and_then (question s.around q vals attrs) (λ v attrs. and_then (plainly (bool_in v) attrs)
    (λ b attrs. rest (jump_where is n b) vals os attrs))
one s (instrs.JumpIfDecided joint n) rest vals os attrs =
    with_one (λ v os attrs. and_then (plainly (bool_in v) attrs)
    (λ left attrs. behind_left (decides joint left) left n rest vals os attrs)) os attrs
one s (instrs.Switch arms) rest vals os attrs =
    with_one (λ v os attrs. and_then (plainly (arms_before (labels_of arms.now) v) attrs)
    (λ n attrs. rest n vals os attrs)) os attrs
one s (instrs.ForEach n) rest vals os attrs =
    with_one (λ v os attrs. and_then (plainly (elements v) attrs)
    (λ vs attrs. and_then (turns (length vals) vs (λ vals attrs. rest 0 vals [] attrs) vals attrs)
    (λ vals attrs. rest n vals os attrs))) os attrs
one s instrs.EndTurn rest vals os attrs = Done vals attrs
one s (instrs.Call f n) rest vals os attrs =
    and_then (called (slice_get s.functions f) n os attrs) (λ result attrs.
    and_then (plainly (there result) attrs) (λ v attrs. rest 0 vals (v ∷ drop n os) attrs))
one s (instrs.Perform f n) rest vals os attrs =
    and_then (called (slice_get s.functions f) n os attrs)
    (λ result attrs. rest 0 vals (drop n os) attrs)
one s instrs.Accept rest vals os attrs = Stopped Accepted attrs
one s instrs.Reject rest vals os attrs = Stopped Rejected attrs
one s instrs.Return rest vals os attrs = with_one (λ v os attrs. Stopped (Returned v) attrs) os attrs
one s instrs.ReturnNothing rest vals os attrs = Stopped AtEnd attrs
one s instrs.Stuck rest vals os attrs = Stopped Stuck attrs

-- What code does behind its first n instructions. Behind the last one nothing is done.
abbrev pub mean : Setting → List Instr → ℕ → At
mean s [] n vals os attrs = Done vals attrs
mean s (i ∷ more) zero vals os attrs = one s i (mean s more) vals os attrs
mean s (i ∷ more) (suc n) vals os attrs = mean s more n vals os attrs

-- ---- functions and filters

-- what a function does with its arguments, over the functions before it
abbrev pub doing : Setting → Routine → Doing
doing s f arguments attrs = given_by f.gives (mean s f.code.items 0 arguments [] attrs)

abbrev pub with_routine : Setting → Doing → Setting
with_routine s f = record { around = s.around; functions = s.functions ++ f ∷ [] }

-- with these functions behind the others, each of which calls only earlier ones
abbrev pub with_routines : Setting → List Routine → Setting
with_routines s [] = s
with_routines s (f ∷ fs) = with_routines (with_routine s (doing s f)) fs

-- functions, around a route
abbrev pub setting : Around → List Routine → Setting
setting around fs = with_routines (record { around = around; functions = [] }) fs

-- what the code of a filter comes to, over functions of which it sees the first
abbrev pub code_flow : Around → List Routine → Draft → Attrs → Flow Frame
code_flow around fs code attrs =
    mean (setting around (take code.functions fs)) code.code.items 0 [] [] attrs

-- what it says of attributes
abbrev pub code_judged : Around → List Routine → Draft → Attrs → Verdict
code_judged around fs code attrs = verdict_of (code_flow around fs code attrs)

-- The code of a filter is never stuck over these functions, whatever route it is run for.
abbrev pub IsNeverStuck : List Routine → Draft → Type 0
IsNeverStuck fs code = (around : Around) (attrs after : Attrs)
    → code_flow around fs code attrs ≡ Stopped Stuck after → ⊥
