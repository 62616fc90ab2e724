-- What is there where a run isn't stuck.
use Rattle.std.proofs.Common.{◌≡◌, ℕ, ◌<◌, List, [], ◌∷◌, length, Result, refl, subst, ap, ◌∙◌, arith, suc, zero}
use Rattle.std.proofs.Math.Dec.{ltb}
use Rattle.std.proofs.lemmas.Bool.{ltb-true}
use Rattle.std.specs.Prelude.{Bool, true, false, cond, slice_get, slice_set}
use Rattle.attrs.specs.declared.attributes.Attrs.{Attrs}
use Rattle.conf_ast.specs.declared.attribute.Attribute.{Attribute}
use Rattle.filt_meaning.specs.declared.value.Failure.{Failure}
use Rattle.filt_meaning.specs.Operators.{bool_in}
use Rattle.filt_meaning.specs.Values.{Val}
use Rattle.filt_meaning.specs.Attributes.{with_attribute, without_attribute}
use Rattle.filt_meaning.specs.Flow.{Flow, Done, Stopped, Frame, Returned, Stuck, and_then, plainly}
use Rattle.filt_meaning.specs.Meaning.{elements, set_attributes, turns}
use Rattle.filt_meaning.specs.Names.{Around, there}
use Rattle.filt_code.specs.declared.code.Routine.{Routine}
use Rattle.filt_code.specs.declared.instr.Effect.{Effect}
use Rattle.filt_code.specs.declared.instr.Effect.TheVariants as effects
use Rattle.filt_code.specs.declared.instr.Instr.{Instr}
use Rattle.filt_code.specs.declared.instr.Instr.TheVariants as instrs
use Rattle.filt_code.specs.declared.instr.OfOne.{OfOne}
use Rattle.filt_code.specs.declared.instr.OfTwo.{OfTwo}
use Rattle.filt_code.specs.declared.instr.Question.{Question}
use Rattle.filt_code.specs.declared.instr.Question.TheVariants as questions
use Rattle.filt_code.specs.Codes.{At, Setting, arms_before, behind_left, decides, effect, jump_where, labels_of, mean, one, one_of, question, setting, two_of, with_one}
use Rattle.filt_meaning.specs.declared.tree.TTest.TheVariants as tests
use Rattle.filt_route.specs.Seen.{IsApplicable, IsUnstuck}
use Rattle.filt_vm.specs.declared.level.Level.{Level}
use Rattle.filt_vm.specs.Levels.{Waiting}
use Rattle.filt_vm.specs.Machines.{IsReady, resumed, said}
use Rattle.filt_vm.specs.Seen.{Held, TakesTop, TakesTopTwo}
use Rattle.filt_vm.proofs.Steps as s

-- ---- flows

-- what comes first
pub first : {A B : Type 0} (flow : Flow A) (next : A → Attrs → Flow B) → IsUnstuck (and_then flow next) → IsUnstuck flow
first flow next unstuck attrs is = unstuck attrs (ap (λ flow. and_then flow next) is)

-- what waits for it
pub inside : (around : Around) (all : List Level) (fs os : List (List Val)) (ls : List Frame) (flow : Flow Frame) → IsUnstuck (resumed around all fs os ls flow) → IsUnstuck flow
inside around all fs os ls flow unstuck attrs is = unstuck attrs (ap (resumed around all fs os ls) is ∙ s.ends_stuck around all fs os ls attrs)

-- the same by another word
pub moved : {A : Type 0} (flow same : Flow A) → flow ≡ same → IsUnstuck flow → IsUnstuck same
moved flow same is unstuck attrs stuck = unstuck attrs (is ∙ stuck)

pub plain : {A : Type 0} (r : Result A Failure) (attrs : Attrs) → IsUnstuck (plainly r attrs) → IsApplicable r
plain r attrs unstuck is = unstuck attrs (ap (λ r. plainly r attrs) is)

-- ---- operands

pub top : {A B : Type 0} (f : Val → Result A Failure) (next : List Val → A → Attrs → Flow B) (os : List Val) (attrs : Attrs) → IsUnstuck (with_one (λ v os attrs. and_then (plainly (f v) attrs) (next os)) os attrs) → TakesTop f os
top f next [] attrs unstuck = unstuck attrs refl
top f next (v ∷ os) attrs unstuck = plain (f v) attrs (first (plainly (f v) attrs) (next os) unstuck)

pub top_two : {A B : Type 0} (f : Val → Val → Result A Failure) (next : List Val → A → Attrs → Flow B) (os : List Val) (attrs : Attrs) → IsUnstuck (with_one (λ w os attrs. with_one (λ v os attrs. and_then (plainly (f v w) attrs) (next os)) os attrs) os attrs) → TakesTopTwo f os
top_two f next [] attrs unstuck = unstuck attrs refl
top_two f next (w ∷ []) attrs unstuck = unstuck attrs refl
top_two f next (w ∷ v ∷ os) attrs unstuck = plain (f v w) attrs (first (plainly (f v w) attrs) (next os) unstuck)

pub some : {B : Type 0} (next : Val → List Val → Attrs → Flow B) (os : List Val) (attrs : Attrs) → IsUnstuck (with_one next os attrs) → 0 < length os
some next [] attrs unstuck = absurd (unstuck attrs refl)
some next (v ∷ os) attrs unstuck = omega arith

pub some_top : {A : Type 0} (f : Val → Result A Failure) (os : List Val) → TakesTop f os → 0 < length os
some_top f [] takes = absurd takes
some_top f (v ∷ os) takes = omega arith

pub taken_top : {A : Type 0} (f : Val → Result A Failure) (os more : Held) (v : Val) → os ≡ record { here = v ∷ more.here; under = more.under } → TakesTop f os.here → IsApplicable (f v)
taken_top f os more v is takes = subst (λ (os : Held). TakesTop f os.here) is takes

-- ---- variables

pub variable : {B : Type 0} (place : ℕ) (vals : Frame) (attrs : Attrs) (next : Val → Attrs → Flow B) → IsUnstuck (and_then (plainly (there (slice_get vals place)) attrs) next) → place < length vals
variable place [] attrs next unstuck = absurd (unstuck attrs refl)
variable zero (v ∷ vals) attrs next unstuck = omega arith
variable (suc place) (v ∷ vals) attrs next unstuck = let lt : place < length vals = variable place vals attrs next unstuck in omega (arith, lt)

pub place_of : {B : Type 0} (place : ℕ) (vals : Frame) (v : Val) (attrs : Attrs) (next : Frame → Attrs → Flow B) → IsUnstuck (and_then (cond (ltb place (length vals)) (Done (slice_set vals place v) attrs) (Stopped Stuck attrs)) next) → place < length vals
place_of place vals v attrs next unstuck = by (ltb place (length vals)) refl
  where
    by : (b : Bool) → ltb place (length vals) ≡ b → place < length vals
    by true is = ltb-true place (length vals) is
    by false isnt = absurd (unstuck attrs (ap (λ (b : Bool). and_then (cond b (Done (slice_set vals place v) attrs) (Stopped Stuck attrs)) next) isnt))

-- ---- effects

pub of_local : (around : Around) (e : Effect) (place : ℕ) (vals : Frame) (os : List Val) (attrs : Attrs) → e ≡ effects.Local place → IsUnstuck (effect around e vals os attrs) → place < length vals
of_local around e place vals os attrs is unstuck =
    variable place vals attrs (λ v attrs. Done (vals, v ∷ os) attrs) (subst (λ (e : Effect). IsUnstuck (effect around e vals os attrs)) is unstuck)

pub of_one : (around : Around) (e : Effect) (op : OfOne) (vals : Frame) (os : List Val) (attrs : Attrs) → e ≡ effects.One op → IsUnstuck (effect around e vals os attrs) → TakesTop (one_of op) os
of_one around e op vals os attrs is unstuck =
    top (one_of op) (λ os u attrs. Done (vals, u ∷ os) attrs) os attrs (subst (λ (e : Effect). IsUnstuck (effect around e vals os attrs)) is unstuck)

pub of_two : (around : Around) (e : Effect) (op : OfTwo) (vals : Frame) (os : List Val) (attrs : Attrs) → e ≡ effects.Two op → IsUnstuck (effect around e vals os attrs) → TakesTopTwo (two_of op) os
of_two around e op vals os attrs is unstuck =
    top_two (two_of op) (λ os u attrs. Done (vals, u ∷ os) attrs) os attrs (subst (λ (e : Effect). IsUnstuck (effect around e vals os attrs)) is unstuck)

pub of_discard : (around : Around) (e : Effect) (vals : Frame) (os : List Val) (attrs : Attrs) → e ≡ effects.Discard → IsUnstuck (effect around e vals os attrs) → 0 < length os
of_discard around e vals os attrs is unstuck =
    some (λ v os attrs. Done (vals, os) attrs) os attrs (subst (λ (e : Effect). IsUnstuck (effect around e vals os attrs)) is unstuck)

pub of_store : (around : Around) (e : Effect) (place : ℕ) (vals : Frame) (os : List Val) (attrs : Attrs) → e ≡ effects.Store place → IsUnstuck (effect around e vals os attrs) → (0 < length os) × (place < length vals)
of_store around e place vals os attrs is unstuck = by os (subst (λ (e : Effect). IsUnstuck (effect around e vals os attrs)) is unstuck)
  where
    by : (os : List Val) → IsUnstuck (effect around (effects.Store place) vals os attrs) → (0 < length os) × (place < length vals)
    by [] unstuck = absurd (unstuck attrs refl)
    by (v ∷ os) unstuck = (omega arith, place_of place vals v attrs (λ vals attrs. Done (vals, os) attrs) unstuck)

pub of_assign : (around : Around) (e : Effect) (a : Attribute) (vals : Frame) (os : List Val) (attrs : Attrs) → e ≡ effects.Assign a → IsUnstuck (effect around e vals os attrs) → TakesTop (λ v. with_attribute a v attrs) os
of_assign around e a vals os attrs is unstuck = by os (subst (λ (e : Effect). IsUnstuck (effect around e vals os attrs)) is unstuck)
  where
    by : (os : List Val) → IsUnstuck (effect around (effects.Assign a) vals os attrs) → TakesTop (λ v. with_attribute a v attrs) os
    by [] unstuck = unstuck attrs refl
    by (v ∷ os) unstuck = plain (with_attribute a v attrs) attrs (first (plainly (with_attribute a v attrs) attrs) (λ changed attrs. Done vals changed) (first (set_attributes vals (with_attribute a v attrs) attrs) (λ vals attrs. Done (vals, os) attrs) unstuck))

pub of_unset : (around : Around) (e : Effect) (a : Attribute) (vals : Frame) (os : List Val) (attrs : Attrs) → e ≡ effects.Unset a → IsUnstuck (effect around e vals os attrs) → IsApplicable (without_attribute a attrs)
of_unset around e a vals os attrs is unstuck =
    plain (without_attribute a attrs) attrs (first (plainly (without_attribute a attrs) attrs) (λ changed attrs. Done vals changed) (first (set_attributes vals (without_attribute a attrs) attrs) (λ vals attrs. Done (vals, os) attrs) (subst (λ (e : Effect). IsUnstuck (effect around e vals os attrs)) is unstuck)))

-- ---- jumps

-- an answer is over no variables
question_over : (around : Around) (q : Question) (vals : Frame) (attrs : Attrs) → question around q vals attrs ≡ question around q [] attrs
question_over around (questions.Within number low high) vals attrs = refl
question_over around (questions.Test (tests.Attribute a op n)) vals attrs = refl
question_over around (questions.Test (tests.Property a p op n)) vals attrs = refl
question_over around (questions.Test (tests.Pair x y op a)) vals attrs = refl
question_over around (questions.NetIn set) vals attrs = refl
question_over around (questions.Defined a) vals attrs = refl

one_by_one : {A B C : Type 0} (flow : Flow A) (f : A → Attrs → Flow B) (next : B → Attrs → Flow C) → and_then flow (λ a attrs. and_then (f a attrs) next) ≡ and_then (and_then flow f) next
one_by_one (Done a attrs) f next = refl
one_by_one (Stopped why attrs) f next = refl

asked : {B : Type 0} (around : Around) (q : Question) (vals : Frame) (attrs : Attrs) (next : Bool → Attrs → Flow B) → IsUnstuck (and_then (question around q vals attrs) (λ v attrs. and_then (plainly (bool_in v) attrs) next)) → IsUnstuck (and_then (question around q [] attrs) (λ v attrs. plainly (bool_in v) attrs))
asked around q vals attrs next unstuck =
    first (and_then (question around q [] attrs) (λ v attrs. plainly (bool_in v) attrs)) next
    (moved (and_then (question around q vals attrs) (λ v attrs. and_then (plainly (bool_in v) attrs) next)) (and_then (and_then (question around q [] attrs) (λ v attrs. plainly (bool_in v) attrs)) next)
    (ap (λ (flow : Flow Val). and_then flow (λ v attrs. and_then (plainly (bool_in v) attrs) next)) (question_over around q vals attrs)
    ∙ one_by_one (question around q [] attrs) (λ v attrs. plainly (bool_in v) attrs) next) unstuck)

ready : (s : Setting) (i : Instr) (rest : ℕ → At) (vals : Frame) (os : List Val) (attrs : Attrs) → IsUnstuck (one s i rest vals os attrs) → IsReady s.around i os attrs
ready s (instrs.JumpIf is n) rest vals os attrs unstuck = top bool_in (λ os b attrs. rest (jump_where is n b) vals os attrs) os attrs unstuck
ready s (instrs.JumpIfAsked is q n) rest vals os attrs unstuck = asked s.around q vals attrs (λ b attrs. rest (jump_where is n b) vals os attrs) unstuck
ready s (instrs.JumpIfDecided joint n) rest vals os attrs unstuck = top bool_in (λ os left attrs. behind_left (decides joint left) left n rest vals os attrs) os attrs unstuck
ready s (instrs.Switch arms) rest vals os attrs unstuck = top (arms_before (labels_of arms.now)) (λ os n attrs. rest n vals os attrs) os attrs unstuck
ready s _ rest vals os attrs unstuck = tt

-- ---- the next instruction

pub of_code : (around : Around) (fs : List Routine) (rest tail : List Instr) (i : Instr) (vals os : Held) (w : Waiting) (attrs : Attrs) → rest ≡ i ∷ tail → IsUnstuck (said around fs rest vals os w attrs) → IsUnstuck (one (setting around fs) i (mean (setting around fs) tail) vals.here os.here attrs)
of_code around fs rest tail i vals os w attrs is unstuck =
    moved (mean (setting around fs) rest 0 vals.here os.here attrs) (one (setting around fs) i (mean (setting around fs) tail) vals.here os.here attrs)
    (ap (λ (code : List Instr). mean (setting around fs) code 0 vals.here os.here attrs) is)
    (inside around w.levels vals.under os.under w.lists (mean (setting around fs) rest 0 vals.here os.here attrs) unstuck)

pub jump_ready : (around : Around) (fs : List Routine) (rest tail : List Instr) (i : Instr) (vals os : Held) (w : Waiting) (attrs : Attrs) → rest ≡ i ∷ tail → IsUnstuck (said around fs rest vals os w attrs) → IsReady around i os.here attrs
jump_ready around fs rest tail i vals os w attrs is unstuck =
    subst (λ (a : Around). IsReady a i os.here attrs) (s.around_is around fs) (ready (setting around fs) i (mean (setting around fs) tail) vals.here os.here attrs (of_code around fs rest tail i vals os w attrs is unstuck))

pub effect_ready : (around : Around) (fs : List Routine) (rest tail : List Instr) (e : Effect) (vals os : Held) (w : Waiting) (attrs : Attrs) → rest ≡ instrs.Do e ∷ tail → IsUnstuck (said around fs rest vals os w attrs) → IsUnstuck (effect around e vals.here os.here attrs)
effect_ready around fs rest tail e vals os w attrs is unstuck =
    subst (λ (a : Around). IsUnstuck (effect a e vals.here os.here attrs)) (s.around_is around fs) (first (effect (setting around fs).around e vals.here os.here attrs) (λ held attrs. mean (setting around fs) tail 0 held.0 held.1 attrs) (of_code around fs rest tail (instrs.Do e) vals os w attrs is unstuck))

pub loop_ready : (around : Around) (fs : List Routine) (rest tail : List Instr) (n : ℕ) (vals os : Held) (w : Waiting) (attrs : Attrs) → rest ≡ instrs.ForEach n ∷ tail → IsUnstuck (said around fs rest vals os w attrs) → TakesTop elements os.here
loop_ready around fs rest tail n vals os w attrs is unstuck =
    top elements (λ os vs attrs. and_then (turns (length vals.here) vs (λ vals attrs. mean (setting around fs) tail 0 vals [] attrs) vals.here attrs) (λ vals attrs. mean (setting around fs) tail n vals os attrs)) os.here attrs (of_code around fs rest tail (instrs.ForEach n) vals os w attrs is unstuck)

pub return_ready : (around : Around) (fs : List Routine) (rest tail : List Instr) (vals os : Held) (w : Waiting) (attrs : Attrs) → rest ≡ instrs.Return ∷ tail → IsUnstuck (said around fs rest vals os w attrs) → 0 < length os.here
return_ready around fs rest tail vals os w attrs is unstuck =
    some (λ v os attrs. Stopped (Returned v) attrs) os.here attrs (of_code around fs rest tail instrs.Return vals os w attrs is unstuck)
