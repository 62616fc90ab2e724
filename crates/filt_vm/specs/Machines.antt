-- For private contracts alone: what a machine comes to in the end, and how much it has left to do.
use Rattle.std.specs.Prelude.{◌≡◌, ℕ, suc, zero, ◌+◌, ◌-◌, ◌<◌, Bool, true, false, List, [], ◌∷◌, drop, length, take, Option, Some, None, Result, Ok, Err, ⊤}
use Rattle.attrs.specs.declared.attributes.Attrs.{Attrs}
use Rattle.attrs.specs.declared.judge.Verdict.TheVariants as verdicts
use Rattle.filt_meaning.specs.Operators.{bool_in}
use Rattle.filt_meaning.specs.Values.{Val}
use Rattle.filt_meaning.specs.Configuration.{given_by, verdict_of}
use Rattle.filt_meaning.specs.Flow.{Flow, Frame, and_then, plainly}
use Rattle.filt_meaning.specs.Meaning.{turns}
use Rattle.filt_meaning.specs.Names.{Around, there}
use Rattle.filt_code.specs.declared.code.Routine.{Routine}
use Rattle.filt_code.specs.declared.instr.Instr.{Instr}
use Rattle.filt_code.specs.declared.instr.Instr.TheVariants as instrs
use Rattle.filt_code.specs.Codes.{arms_before, labels_of, mean, question, setting}
use Rattle.filt_code.specs.Costs.{cost, costs}
use Rattle.filt_vm.specs.declared.level.Level.{Level}
use Rattle.filt_vm.specs.declared.level.Level.TheVariants as levels
use Rattle.filt_vm.specs.declared.level.Call.{Call}
use Rattle.filt_vm.specs.declared.level.Turn.{Turn}
use Rattle.filt_vm.specs.declared.machine.Machine.{Machine}
use Rattle.filt_vm.specs.declared.step.Step.{Step}
use Rattle.filt_vm.specs.declared.step.Step.TheVariants as steps
use Rattle.filt_vm.specs.Levels.{Waiting, behind_first, top_elements}
use Rattle.filt_route.specs.declared.halt.Halt.{Halt}
use Rattle.filt_route.specs.declared.halt.Halt.TheVariants as halts
use Rattle.filt_route.specs.Seen.{Fails, IsUnstuck, around_in}
use Rattle.filt_vm.specs.Seen.{Held, TakesTop, first_of, rest_of}

-- a caller goes on with what a function gave, which it puts, or doesn't
abbrev pub handed : Bool → (List Val → Attrs → Flow Frame) → List Val → Option Val → Attrs → Flow Frame
handed true next os given attrs =
    and_then (plainly (there given) attrs) (λ v attrs. next (v ∷ os) attrs)
handed false next os given attrs = next os attrs

-- a caller behind a function that came to this
abbrev pub returned : Around → Call → (vals os : List Val) → Flow Frame → Flow Frame
returned around c vals os flow =
    and_then (given_by c.gives flow)
    (handed c.puts (λ os attrs. mean (setting around c.functions.now) c.rest.now 0 vals os attrs) os)

-- a loop behind a turn that came to this
abbrev pub turned : Around → Turn → Frame → (os : List Val) → Flow Frame → Flow Frame
turned around t elements os flow =
    and_then (and_then flow (λ vals attrs. turns t.variables (drop t.next elements)
    (λ vals attrs. mean (setting around t.functions.now) t.body.now 0 vals [] attrs)
    (take t.variables vals) attrs))
    (λ vals attrs. mean (setting around t.functions.now) t.body.now t.over vals os attrs)

-- what is come to in the end where what runs comes to this, and these wait: levels, the variables of
-- callers, operands, and the elements of loops
abbrev pub resumed :
    Around → List Level → (frames operands : List (List Val)) → List Frame → Flow Frame → Flow Frame
resumed around [] fs os ls flow = flow
resumed around (levels.Returns c ∷ more) fs os ls flow =
    resumed around more (rest_of fs) (rest_of os) ls
    (returned around c (first_of fs) (first_of os) flow)
resumed around (levels.Turns t ∷ more) fs os ls flow =
    resumed around more fs (rest_of os) (behind_first ls)
    (turned around t (top_elements ls) (first_of os) flow)

-- the same, by what holds values
abbrev pub ended : Around → Held → Held → Waiting → Flow Frame → Flow Frame
ended around vals os waiting flow =
    resumed around waiting.levels vals.under os.under waiting.lists flow

-- what is come to in the end, from this code on
abbrev pub said :
    Around → List Routine → List Instr → Held → Held → Waiting → Attrs → Flow Frame
said around fs rest vals os waiting attrs =
    ended around vals os waiting (mean (setting around fs) rest 0 vals.here os.here attrs)

-- so many turns of a body that costs this
abbrev pub turns_left : ℕ → ℕ → ℕ
turns_left zero n = 0
turns_left (suc left) n = 1 + n + turns_left left n

-- what those that wait cost
abbrev pub left_in : List Level → List Frame → ℕ
left_in [] ls = 0
left_in (levels.Returns c ∷ more) ls = 1 + cost (costs c.functions.now) c.rest.now 0 + left_in more ls
left_in (levels.Turns t ∷ more) ls =
    1 + turns_left (length (top_elements ls) - t.next) (cost (costs t.functions.now) t.body.now 0)
    + cost (costs t.functions.now) t.body.now t.over + left_in more (behind_first ls)

-- how much is left to do
abbrev pub left : List Routine → List Instr → Waiting → ℕ
left fs rest waiting = cost (costs fs) rest 0 + left_in waiting.levels waiting.lists

-- A step of the machine: what is come to in the end stays, and less is left; or this is said, of the
-- attributes as they then are.
abbrev pub Steps :
    Result Step Halt → (before after : Flow Frame) → Attrs → (left now : ℕ) → Type 0
Steps (Ok steps.On) before after attrs left now = (before ≡ after) × (now < left)
Steps (Ok steps.Accepts) before after attrs left now = verdict_of before ≡ verdicts.Accept attrs
Steps (Ok (steps.Rejects fault)) before after attrs left now =
    verdict_of before ≡ verdicts.Reject fault
Steps (Err (halts.Fault fault)) before after attrs left now =
    verdict_of before ≡ verdicts.Reject (Some fault)
Steps (Err halts.Memory) before after attrs left now = ⊤

-- The call tells where a jump leads, or why there is none.
abbrev pub Leads : Result ℕ Halt → (ℕ → Flow Frame) → Attrs → Flow Frame → Type 0
Leads (Ok n) to attrs flow = flow ≡ to n
Leads (Err halt) to attrs flow = Fails halt attrs flow

-- what jumps, and does nothing else
abbrev pub IsJump : Instr → Type 0
IsJump (instrs.Jump n) = ⊤
IsJump (instrs.JumpIf is n) = ⊤
IsJump (instrs.JumpIfAsked is q n) = ⊤
IsJump (instrs.JumpIfDecided joint n) = ⊤
IsJump (instrs.Switch arms) = ⊤
IsJump _ = ⊥

-- what a jump needs is there
abbrev pub IsReady : Around → Instr → (operands : List Val) → Attrs → Type 0
IsReady around (instrs.JumpIf is n) os attrs = TakesTop bool_in os
IsReady around (instrs.JumpIfAsked is q n) os attrs =
    IsUnstuck (and_then (question around q [] attrs) (λ v attrs. plainly (bool_in v) attrs))
IsReady around (instrs.JumpIfDecided joint n) os attrs = TakesTop bool_in os
IsReady around (instrs.Switch arms) os attrs = TakesTop (arms_before (labels_of arms.now)) os
IsReady around _ os attrs = ⊤

-- ---- what waits

-- What each level goes on with is there: a caller's variables and operands, the operands round a loop and
-- what the loop goes over.
abbrev pub AreThere : List Level → (frames operands : List (List Val)) → List Frame → Type 0
AreThere [] fs os ls = ⊤
AreThere (levels.Returns c ∷ more) fs os ls =
    (0 < length fs) × (0 < length os) × AreThere more (rest_of fs) (rest_of os) ls
AreThere (levels.Turns t ∷ more) fs os ls =
    (0 < length os) × (0 < length ls) × AreThere more fs (rest_of os) (behind_first ls)

-- ---- machines

-- what the machine's levels go on with is there
abbrev pub IsWhole : Machine → Type 0
IsWhole m = AreThere m.levels.levels m.locals.under m.operands.under m.levels.lists

-- what these levels go on with is there
abbrev pub IsWholeBehind : List Level → Machine → Type 0
IsWholeBehind all m = AreThere all m.locals.under m.operands.under m.levels.lists

-- a machine that goes on is whole
abbrev pub StaysWhole : Result Step Halt → Machine → Type 0
StaysWhole (Ok steps.On) m = IsWhole m
StaysWhole _ m = ⊤

-- what the machine comes to
abbrev pub outcome : Machine → Flow Frame
outcome m =
    said (around_in m.around) m.functions.now m.rest.now m.locals m.operands m.levels m.attrs

-- what it comes to behind these levels, where what runs comes to this
abbrev pub outcome_behind : List Level → Flow Frame → Machine → Flow Frame
outcome_behind all flow m =
    resumed (around_in m.around) all m.locals.under m.operands.under m.levels.lists flow

abbrev pub work : Machine → ℕ
work m = left m.functions.now m.rest.now m.levels

-- a step
abbrev pub Goes : Result Step Halt → Machine → Machine → Type 0
Goes result before after =
    Steps result (outcome before) (outcome after) after.attrs (work before) (work after)

-- a step of a machine behind these levels, where what runs comes to this
abbrev pub Ends : Result Step Halt → List Level → Flow Frame → Machine → Machine → Type 0
Ends result all flow before after =
    Steps result (outcome_behind all flow before) (outcome after) after.attrs
    (left_in all before.levels.lists) (work after)

-- the caller goes on
abbrev pub back_in : Machine → Call → Machine
back_in m c = record {
  around = m.around;
  functions = c.functions;
  rest = c.rest;
  locals = record { here = first_of m.locals.under; under = rest_of m.locals.under };
  operands = record { here = first_of m.operands.under; under = rest_of m.operands.under };
  levels = m.levels;
  attrs = m.attrs;
}

-- the caller that waits, and those behind it; without one there are none
abbrev pub waits : Option Call → List Level → List Level
waits None all = []
waits (Some c) all = levels.Returns c ∷ all

-- a call, as an expression or a statement
abbrev pub call_of : (puts : Bool) → (function count : ℕ) → Instr
call_of true f n = instrs.Call f n
call_of false f n = instrs.Perform f n
