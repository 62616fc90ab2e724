-- Jumps by answers that are there.
use Rattle.std.proofs.Common.{◌≡◌, ℕ, suc, zero, ◌<◌, ◌≤◌, max, min, Bool, true, false, List, [], ◌∷◌, ◌+◌, ◌-◌, ◌^◌, ◌⊎◌, inl, inr, drop, length, Some, Result, Ok, Err, refl, sym, ap, ◌∙◌, arith}
use Rattle.std.proofs.Math.Dec.{ltb}
use Rattle.std.proofs.Math.Nat.{le-max_left, le-max_right, min-eq_left, min-eq_right}
use Rattle.std.proofs.lemmas.Bool.{ltb-true, ltb-false}
use Rattle.std.specs.Prelude.{slice_get}
use Rattle.attrs.specs.declared.attributes.Attrs.{Attrs}
use Rattle.filt_meaning.specs.Operators.{bool_in}
use Rattle.filt_meaning.specs.Values.{Val, VBool}
use Rattle.filt_meaning.specs.Configuration.{verdict_of}
use Rattle.filt_meaning.specs.Flow.{Flow, Done, Frame, and_then, plainly}
use Rattle.filt_meaning.specs.Names.{Around}
use Rattle.filt_code.specs.declared.code.Routine.{Routine}
use Rattle.filt_code.specs.declared.instr.Instr.{Instr}
use Rattle.filt_code.specs.declared.instr.Instr.TheVariants as instrs
use Rattle.filt_code.specs.declared.instr.Question.{Question}
use Rattle.filt_code.specs.Codes.{At, Setting, jump_where, mean, one, question, setting}
use Rattle.filt_code.specs.Costs.{beside, cost, costs}
use Rattle.filt_route.specs.declared.halt.Halt.{Halt}
use Rattle.filt_route.specs.declared.halt.Halt.TheVariants as halts
use Rattle.filt_vm.specs.declared.step.Step.{Step}
use Rattle.filt_vm.specs.declared.step.Step.TheVariants as steps
use Rattle.filt_vm.specs.Levels.{Waiting}
use Rattle.filt_vm.specs.Machines.{Steps, ended, left, said}
use Rattle.filt_vm.specs.Seen.{Held}
use Rattle.filt_vm.proofs.Steps as st
use Rattle.filt_vm.proofs.Works as works

-- a place of code, by what stands there
at_place : (s : Setting) (code : List Instr) (p : ℕ) (i : Instr) (vals : Frame) (os : List Val) (attrs : Attrs) → slice_get code p ≡ Some i → mean s code p vals os attrs ≡ one s i (mean s (drop (suc p) code)) vals os attrs
at_place s [] p i vals os attrs is = absurd (cc)
at_place s (x ∷ more) zero i vals os attrs is = let e : x ≡ i = cc in rw e refl
at_place s (x ∷ more) (suc p) i vals os attrs is = at_place s more p i vals os attrs is

cost_at : (fs : List ℕ) (code : List Instr) (p : ℕ) (i : Instr) → slice_get code p ≡ Some i → cost fs code p ≡ suc (beside fs i (cost fs (drop (suc p) code)))
cost_at fs [] p i is = absurd (cc)
cost_at fs (x ∷ more) zero i is = let e : x ≡ i = cc in rw e refl
cost_at fs (x ∷ more) (suc p) i is = cost_at fs more p i is

-- a place behind a place
mean_beyond : (s : Setting) (code : List Instr) (k m t : ℕ) (vals : Frame) (os : List Val) (attrs : Attrs) → t ≡ k + m → mean s (drop k code) m vals os attrs ≡ mean s code t vals os attrs
mean_beyond s code zero m t vals os attrs is =
    let e : m ≡ t = omega (arith, is) in ap (λ (n : ℕ). mean s code n vals os attrs) e
mean_beyond s [] (suc k) m t vals os attrs is = refl
mean_beyond s (x ∷ more) (suc k) m zero vals os attrs is = absurd (omega (arith, is))
mean_beyond s (x ∷ more) (suc k) m (suc t) vals os attrs is = mean_beyond s more k m t vals os attrs (omega (arith, is))

cost_beyond : (fs : List ℕ) (code : List Instr) (k m t : ℕ) → t ≡ k + m → cost fs (drop k code) m ≡ cost fs code t
cost_beyond fs code zero m t is = let e : m ≡ t = omega (arith, is) in ap (λ (n : ℕ). cost fs code n) e
cost_beyond fs [] (suc k) m t is = refl
cost_beyond fs (x ∷ more) (suc k) m zero is = absurd (omega (arith, is))
cost_beyond fs (x ∷ more) (suc k) m (suc t) is = cost_beyond fs more k m t (omega (arith, is))

-- behind the last instruction
mean_past : (s : Setting) (code : List Instr) (n : ℕ) (vals : Frame) (os : List Val) (attrs : Attrs) → length code ≤ n → mean s code n vals os attrs ≡ Done vals attrs
mean_past s [] n vals os attrs le = refl
mean_past s (x ∷ more) zero vals os attrs le = absurd (omega (arith, le))
mean_past s (x ∷ more) (suc n) vals os attrs le = mean_past s more n vals os attrs (omega (arith, le))

cost_past : (fs : List ℕ) (code : List Instr) (n : ℕ) → length code ≤ n → cost fs code n ≡ 0
cost_past fs [] n le = refl
cost_past fs (x ∷ more) zero le = absurd (omega (arith, le))
cost_past fs (x ∷ more) (suc n) le = cost_past fs more n (omega (arith, le))

-- as far, or both behind the last instruction
same_place : (code : List Instr) (far next : ℕ) → length code < 2 ^ 63 → next ≡ min far (2 ^ 64 - 1) → (next ≡ far) ⊎ ((length code ≤ next) × (length code ≤ far))
same_place code far next few is = by (ltb far (2 ^ 64)) refl
  where
    by : (b : Bool) → ltb far (2 ^ 64) ≡ b → (next ≡ far) ⊎ ((length code ≤ next) × (length code ≤ far))
    by true below = let lt : far < 2 ^ 64 = ltb-true far (2 ^ 64) below in inl (is ∙ min-eq_left (omega (arith, lt)))
    by false above =
        let le : 2 ^ 64 ≤ far = ltb-false far (2 ^ 64) above in
        let e : next ≡ 2 ^ 64 - 1 = is ∙ min-eq_right (omega (arith, le)) in
        inr (omega (arith, e, few), omega (arith, le, few))

mean_there : (s : Setting) (code : List Instr) (far next : ℕ) (vals : Frame) (os : List Val) (attrs : Attrs) → (next ≡ far) ⊎ ((length code ≤ next) × (length code ≤ far)) → mean s code far vals os attrs ≡ mean s code next vals os attrs
mean_there s code far next vals os attrs (inl e) = ap (λ (n : ℕ). mean s code n vals os attrs) (sym e)
mean_there s code far next vals os attrs (inr past) = mean_past s code far vals os attrs past.1 ∙ sym (mean_past s code next vals os attrs past.0)

cost_there : (fs : List ℕ) (code : List Instr) (far next : ℕ) → (next ≡ far) ⊎ ((length code ≤ next) × (length code ≤ far)) → cost fs code next ≡ cost fs code far
cost_there fs code far next (inl e) = ap (λ (n : ℕ). cost fs code n) e
cost_there fs code far next (inr past) = cost_past fs code next past.0 ∙ sym (cost_past fs code far past.1)

pub leads : (s : Setting) (code : List Instr) (i : Instr) (place count next : ℕ) (vals : Frame) (os : List Val) (attrs : Attrs) → length code < 2 ^ 63 → slice_get code place ≡ Some i → one s i (mean s (drop (suc place) code)) vals os attrs ≡ mean s (drop (suc place) code) count vals os attrs → next ≡ min (place + 1 + count) (2 ^ 64 - 1) → mean s code place vals os attrs ≡ mean s code next vals os attrs
leads s code i place count next vals os attrs few there goes to =
    at_place s code place i vals os attrs there
    ∙ goes
    ∙ mean_beyond s code (suc place) count (place + 1 + count) vals os attrs (omega arith)
    ∙ mean_there s code (place + 1 + count) next vals os attrs (same_place code (place + 1 + count) next few to)

pub costs-less : (fs : List ℕ) (code : List Instr) (i : Instr) (place count next : ℕ) → length code < 2 ^ 63 → slice_get code place ≡ Some i → cost fs (drop (suc place) code) count ≤ beside fs i (cost fs (drop (suc place) code)) → next ≡ min (place + 1 + count) (2 ^ 64 - 1) → cost fs code next < cost fs code place
costs-less fs code i place count next few there le to =
    omega (arith, cost_at fs code place i there, le, cost_beyond fs code (suc place) count (place + 1 + count) (omega arith), cost_there fs code (place + 1 + count) next (same_place code (place + 1 + count) next few to))

-- an answer's jump
pub answers : (s : Setting) (around : Around) (i : Instr) (m : ℕ) (is : Bool) (q : Question) (n : ℕ) (b : Bool) (rest : ℕ → At) (vals : Frame) (os : List Val) (attrs : Attrs) → i ≡ instrs.JumpIfAsked is q n → s.around ≡ around → question around q vals attrs ≡ Done (VBool b) attrs → m ≡ jump_where is n b → one s i rest vals os attrs ≡ rest m vals os attrs
answers s around i m is q n b rest vals os attrs what same answer far =
    ap (λ (i : Instr). one s i rest vals os attrs) what
    ∙ ap (λ (a : Around). and_then (question a q vals attrs) (λ v attrs. and_then (plainly (bool_in v) attrs) (λ b attrs. rest (jump_where is n b) vals os attrs))) same
    ∙ ap (λ (flow : Flow Val). and_then flow (λ v attrs. and_then (plainly (bool_in v) attrs) (λ b attrs. rest (jump_where is n b) vals os attrs))) answer
    ∙ ap (λ (m : ℕ). rest m vals os attrs) (sym far)

one_way : (of : ℕ → ℕ) (is : Bool) (n : ℕ) (b : Bool) → of (jump_where is n b) ≤ max (of 0) (of n)
one_way of true n true = le-max_right (of 0) (of n)
one_way of true n false = le-max_left (of 0) (of n)
one_way of false n true = le-max_left (of 0) (of n)
one_way of false n false = le-max_right (of 0) (of n)

pub cheaper : (fs : List ℕ) (i : Instr) (m : ℕ) (is : Bool) (q : Question) (n : ℕ) (b : Bool) (of : ℕ → ℕ) → i ≡ instrs.JumpIfAsked is q n → m ≡ jump_where is n b → of m ≤ beside fs i of
cheaper fs i m is q n b of what far = rw (what, far) (one_way of is n b)

-- a step behind jumps that were passed
pub goes_from : (r : Result Step Halt) (before mid after : Flow Frame) (attrs : Attrs) (more less now : ℕ) → before ≡ mid → less ≤ more → Steps r mid after attrs less now → Steps r before after attrs more now
goes_from (Ok steps.On) before mid after attrs more less now same le p = (same ∙ p.0, omega (arith, le, p.1))
goes_from (Ok steps.Accepts) before mid after attrs more less now same le p = ap verdict_of same ∙ p
goes_from (Ok (steps.Rejects fault)) before mid after attrs more less now same le p = ap verdict_of same ∙ p
goes_from (Err (halts.Fault fault)) before mid after attrs more less now same le p = ap verdict_of same ∙ p
goes_from (Err halts.Memory) before mid after attrs more less now same le p = tt

pub means_behind : (s : Setting) (code rest : List Instr) (place : ℕ) (vals : Frame) (os : List Val) (attrs : Attrs) → rest ≡ drop place code → mean s code 0 vals os attrs ≡ mean s code place vals os attrs → mean s code 0 vals os attrs ≡ mean s rest 0 vals os attrs
means_behind s code rest place vals os attrs to same =
    same ∙ sym (st.mean-behind s code place vals os attrs) ∙ ap (λ (code : List Instr). mean s code 0 vals os attrs) (sym to)

pub costs_behind : (fs : List ℕ) (code rest : List Instr) (place : ℕ) → rest ≡ drop place code → cost fs code place ≤ cost fs code 0 → cost fs rest 0 ≤ cost fs code 0
costs_behind fs code rest place to le = omega (arith, le, works.cost-behind fs code place, ap (λ (code : List Instr). cost fs code 0) to)

pub same_said : (around : Around) (fs : List Routine) (code rest : List Instr) (vals os : Held) (w : Waiting) (attrs : Attrs) → mean (setting around fs) code 0 vals.here os.here attrs ≡ mean (setting around fs) rest 0 vals.here os.here attrs → said around fs code vals os w attrs ≡ said around fs rest vals os w attrs
same_said around fs code rest vals os w attrs same = ap (ended around vals os w) same

pub less_left : (fs : List Routine) (code rest : List Instr) (w : Waiting) → cost (costs fs) rest 0 ≤ cost (costs fs) code 0 → left fs rest w ≤ left fs code w
less_left fs code rest w le = omega (arith, le)
