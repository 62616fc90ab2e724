-- The steps of the machine.
use Rattle.std.proofs.Common.{◌≡◌, ℕ, suc, zero, ◌<◌, ◌≤◌, List, [], ◌∷◌, drop, None, Err, refl, sym, ap, ◌∙◌, arith}
use Rattle.attrs.specs.declared.attributes.Attrs.{Attrs}
use Rattle.attrs.specs.declared.judge.FilterFault.{FilterFault}
use Rattle.attrs.specs.declared.judge.Verdict.TheVariants as verdicts
use Rattle.filt_meaning.specs.Values.{Val}
use Rattle.filt_meaning.specs.Configuration.{verdict_of}
use Rattle.filt_meaning.specs.Flow.{Flow, Done, Stopped, Frame, Faulted, Stuck, Accepted, Rejected, and_then}
use Rattle.filt_meaning.specs.Names.{Around}
use Rattle.filt_code.specs.declared.code.Routine.{Routine}
use Rattle.filt_code.specs.declared.instr.Effect.{Effect}
use Rattle.filt_code.specs.declared.instr.Instr.{Instr}
use Rattle.filt_code.specs.declared.instr.Instr.TheVariants as instrs
use Rattle.filt_code.specs.Codes.{Setting, doing, effect, mean, one, setting, with_routine, with_routines}
use Rattle.filt_code.specs.Costs.{beside, cost, costs}
use Rattle.filt_vm.specs.declared.level.Level.{Level}
use Rattle.filt_vm.specs.declared.level.Level.TheVariants as levels
use Rattle.filt_vm.specs.Levels.{Waiting, behind_first}
use Rattle.filt_route.specs.declared.halt.Halt.{Halt}
use Rattle.filt_route.specs.declared.halt.Halt.TheVariants as halts
use Rattle.filt_route.specs.Seen.{Fails}
use Rattle.filt_vm.specs.Machines.{Steps, ended, left, resumed, said}
use Rattle.filt_vm.specs.Seen.{Held, rest_of}
use Rattle.filt_vm.proofs.Works as works

-- ---- lists of code

pub mean-behind : (s : Setting) (code : List Instr) (n : ℕ) (vals : Frame) (os : List Val) (attrs : Attrs) → mean s (drop n code) 0 vals os attrs ≡ mean s code n vals os attrs
mean-behind s [] zero vals os attrs = refl
mean-behind s [] (suc n) vals os attrs = refl
mean-behind s (i ∷ more) zero vals os attrs = refl
mean-behind s (i ∷ more) (suc n) vals os attrs = mean-behind s more n vals os attrs

around_kept : (s : Setting) (fs : List Routine) → (with_routines s fs).around ≡ s.around
around_kept s [] = refl
around_kept s (f ∷ fs) = around_kept (with_routine s (doing s f)) fs

pub around_is : (around : Around) (fs : List Routine) → (setting around fs).around ≡ around
around_is around fs = around_kept (record { around = around; functions = [] }) fs

-- ---- what ends a filter

pub ends_faulted : (around : Around) (all : List Level) (fs os : List (List Val)) (ls : List Frame) (fault : FilterFault) (attrs : Attrs) → resumed around all fs os ls (Stopped (Faulted fault) attrs) ≡ Stopped (Faulted fault) attrs
ends_faulted around [] fs os ls fault attrs = refl
ends_faulted around (levels.Returns c ∷ more) fs os ls fault attrs = ends_faulted around more (rest_of fs) (rest_of os) ls fault attrs
ends_faulted around (levels.Turns t ∷ more) fs os ls fault attrs = ends_faulted around more fs (rest_of os) (behind_first ls) fault attrs

pub ends_stuck : (around : Around) (all : List Level) (fs os : List (List Val)) (ls : List Frame) (attrs : Attrs) → resumed around all fs os ls (Stopped Stuck attrs) ≡ Stopped Stuck attrs
ends_stuck around [] fs os ls attrs = refl
ends_stuck around (levels.Returns c ∷ more) fs os ls attrs = ends_stuck around more (rest_of fs) (rest_of os) ls attrs
ends_stuck around (levels.Turns t ∷ more) fs os ls attrs = ends_stuck around more fs (rest_of os) (behind_first ls) attrs

pub ends_accepted : (around : Around) (all : List Level) (fs os : List (List Val)) (ls : List Frame) (attrs : Attrs) → resumed around all fs os ls (Stopped Accepted attrs) ≡ Stopped Accepted attrs
ends_accepted around [] fs os ls attrs = refl
ends_accepted around (levels.Returns c ∷ more) fs os ls attrs = ends_accepted around more (rest_of fs) (rest_of os) ls attrs
ends_accepted around (levels.Turns t ∷ more) fs os ls attrs = ends_accepted around more fs (rest_of os) (behind_first ls) attrs

pub ends_rejected : (around : Around) (all : List Level) (fs os : List (List Val)) (ls : List Frame) (attrs : Attrs) → resumed around all fs os ls (Stopped Rejected attrs) ≡ Stopped Rejected attrs
ends_rejected around [] fs os ls attrs = refl
ends_rejected around (levels.Returns c ∷ more) fs os ls attrs = ends_rejected around more (rest_of fs) (rest_of os) ls attrs
ends_rejected around (levels.Turns t ∷ more) fs os ls attrs = ends_rejected around more fs (rest_of os) (behind_first ls) attrs

-- a step that fails
pub fails_at : (halt : Halt) (around : Around) (vals os : Held) (w : Waiting) (flow : Flow Frame) (attrs : Attrs) (after : Flow Frame) (now : Attrs) (l n : ℕ) → Fails halt attrs flow → Steps (Err halt) (ended around vals os w flow) after now l n
fails_at (halts.Fault fault) around vals os w flow attrs after now l n is = ap verdict_of (ap (ended around vals os w) is ∙ ends_faulted around w.levels vals.under os.under w.lists fault attrs)
fails_at halts.Memory around vals os w flow attrs after now l n is = tt

-- ---- effects

act-flow : (around : Around) (fs : List Routine) (rest tail : List Instr) (e : Effect) (vals : Frame) (os : List Val) (attrs : Attrs) → rest ≡ instrs.Do e ∷ tail → mean (setting around fs) rest 0 vals os attrs ≡ and_then (effect around e vals os attrs) (λ held attrs. mean (setting around fs) tail 0 held.0 held.1 attrs)
act-flow around fs rest tail e vals os attrs is =
    ap (λ (code : List Instr). mean (setting around fs) code 0 vals os attrs) is
    ∙ ap (λ (a : Around). and_then (effect a e vals os attrs) (λ held attrs. mean (setting around fs) tail 0 held.0 held.1 attrs)) (around_is around fs)

over-tail : (fs : List Routine) (rest tail : List Instr) (e : Effect) (w : Waiting) → rest ≡ instrs.Do e ∷ tail → left fs tail w < left fs rest w
over-tail fs rest tail e w is = omega (arith, ap (λ (code : List Instr). cost (costs fs) code 0) is)

same-under : (around : Around) (vals new os onew : Held) (w : Waiting) (flow : Flow Frame) → new.under ≡ vals.under → onew.under ≡ os.under → ended around vals os w flow ≡ ended around new onew w flow
same-under around vals new os onew w flow p q = ap (λ (fs : List (List Val)). resumed around w.levels fs os.under w.lists flow) (sym p) ∙ ap (λ (us : List (List Val)). resumed around w.levels new.under us w.lists flow) (sym q)

pub acted : (around : Around) (fs : List Routine) (rest tail : List Instr) (e : Effect) (vals new os onew : Held) (w : Waiting) (attrs anew : Attrs) → rest ≡ instrs.Do e ∷ tail → effect around e vals.here os.here attrs ≡ Done (new.here, onew.here) anew → new.under ≡ vals.under → onew.under ≡ os.under → (said around fs rest vals os w attrs ≡ said around fs tail new onew w anew) × (left fs tail w < left fs rest w)
acted around fs rest tail e vals new os onew w attrs anew is done p q = (
  ap (ended around vals os w) (act-flow around fs rest tail e vals.here os.here attrs is ∙ ap (λ (flow : Flow (Frame × List Val)). and_then flow (λ held attrs. mean (setting around fs) tail 0 held.0 held.1 attrs)) done)
      ∙ same-under around vals new os onew w (mean (setting around fs) tail 0 new.here onew.here anew) p q,
  over-tail fs rest tail e w is,
)

pub fails-then : {A B : Type 0} (halt : Halt) (flow : Flow A) (next : A → Attrs → Flow B) (attrs : Attrs) → Fails halt attrs flow → Fails halt attrs (and_then flow next)
fails-then (halts.Fault fault) flow next attrs is = rw is refl
fails-then halts.Memory flow next attrs is = tt

pub act-fails : (halt : Halt) (around : Around) (fs : List Routine) (rest tail : List Instr) (e : Effect) (vals os : Held) (w : Waiting) (attrs anew : Attrs) (after : Flow Frame) (now : Attrs) (l n : ℕ) → rest ≡ instrs.Do e ∷ tail → Fails halt anew (effect around e vals.here os.here attrs) → Steps (Err halt) (said around fs rest vals os w attrs) after now l n
act-fails halt around fs rest tail e vals os w attrs anew after now l n is fail =
    rw (act-flow around fs rest tail e vals.here os.here attrs is) (fails_at halt around vals os w (and_then (effect around e vals.here os.here attrs) (λ held attrs. mean (setting around fs) tail 0 held.0 held.1 attrs)) anew after now l n (fails-then halt (effect around e vals.here os.here attrs) (λ held attrs. mean (setting around fs) tail 0 held.0 held.1 attrs) anew fail))

-- ---- jumps

pub jumped : (around : Around) (fs : List Routine) (rest tail code : List Instr) (i : Instr) (n : ℕ) (vals os onew : Held) (w : Waiting) (attrs : Attrs) → rest ≡ i ∷ tail → code ≡ drop n tail → one (setting around fs) i (mean (setting around fs) tail) vals.here os.here attrs ≡ mean (setting around fs) tail n vals.here onew.here attrs → onew.under ≡ os.under → cost (costs fs) tail n ≤ beside (costs fs) i (cost (costs fs) tail) → (said around fs rest vals os w attrs ≡ said around fs code vals onew w attrs) × (left fs code w < left fs rest w)
jumped around fs rest tail code i n vals os onew w attrs is to leads q le = (
  ap (ended around vals os w) (ap (λ (code : List Instr). mean (setting around fs) code 0 vals.here os.here attrs) is ∙ leads ∙ sym (mean-behind (setting around fs) tail n vals.here onew.here attrs) ∙ ap (λ (xs : List Instr). mean (setting around fs) xs 0 vals.here onew.here attrs) (sym to))
      ∙ same-under around vals vals os onew w (mean (setting around fs) code 0 vals.here onew.here attrs) refl q,
  omega (arith, ap (λ (code : List Instr). cost (costs fs) code 0) is, ap (λ (code : List Instr). cost (costs fs) code 0) to, works.cost-behind (costs fs) tail n, le),
)

pub jump-fails : (halt : Halt) (around : Around) (fs : List Routine) (rest tail : List Instr) (i : Instr) (vals os : Held) (w : Waiting) (attrs : Attrs) (after : Flow Frame) (now : Attrs) (l n : ℕ) → rest ≡ i ∷ tail → Fails halt attrs (one (setting around fs) i (mean (setting around fs) tail) vals.here os.here attrs) → Steps (Err halt) (said around fs rest vals os w attrs) after now l n
jump-fails halt around fs rest tail i vals os w attrs after now l n is fail =
    rw is (fails_at halt around vals os w (one (setting around fs) i (mean (setting around fs) tail) vals.here os.here attrs) attrs after now l n fail)

-- ---- ends

pub accepts : (around : Around) (fs : List Routine) (rest tail : List Instr) (i : Instr) (vals os : Held) (w : Waiting) (attrs : Attrs) → rest ≡ i ∷ tail → i ≡ instrs.Accept → verdict_of (said around fs rest vals os w attrs) ≡ verdicts.Accept attrs
accepts around fs rest tail i vals os w attrs is what = rw (is, what) (ap verdict_of (ends_accepted around w.levels vals.under os.under w.lists attrs))

pub rejects : (around : Around) (fs : List Routine) (rest tail : List Instr) (i : Instr) (vals os : Held) (w : Waiting) (attrs : Attrs) → rest ≡ i ∷ tail → i ≡ instrs.Reject → verdict_of (said around fs rest vals os w attrs) ≡ verdicts.Reject None
rejects around fs rest tail i vals os w attrs is what = rw (is, what) (ap verdict_of (ends_rejected around w.levels vals.under os.under w.lists attrs))

pub stuck : (around : Around) (fs : List Routine) (rest tail : List Instr) (i : Instr) (vals os : Held) (w : Waiting) (attrs : Attrs) → rest ≡ i ∷ tail → i ≡ instrs.Stuck → said around fs rest vals os w attrs ≡ Stopped Stuck attrs
stuck around fs rest tail i vals os w attrs is what = rw (is, what) (ends_stuck around w.levels vals.under os.under w.lists attrs)
