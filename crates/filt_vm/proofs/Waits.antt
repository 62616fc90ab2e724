-- What waits for what runs.
use Rattle.std.proofs.Common.{◌≡◌, ℕ, suc, zero, ◌+◌, ◌-◌, ◌<◌, ◌≤◌, Bool, true, false, List, [], ◌∷◌, ◌++◌, length, take, drop, get_or, reverse, Option, Some, None, Result, Ok, Err, refl, sym, ap, ◌∙◌, arith, length-append}
use Rattle.std.specs.Prelude.{slice_get, is_some}
use Rattle.std.proofs.lemmas.Bool.{ltb-true, ltb-false}
use Rattle.std.proofs.Math.Dec.{ltb}
use Rattle.std.proofs.lemmas.Option.{slice_get_past, slice_get-get_or}
use Rattle.attrs.specs.declared.attributes.Attrs.{Attrs}
use Rattle.attrs.specs.declared.judge.FilterFault.TheVariants as faults
use Rattle.attrs.specs.declared.judge.Verdict.TheVariants as verdicts
use Rattle.filt_meaning.specs.declared.value.Sort.{Sort}
use Rattle.filt_meaning.specs.Values.{Val, VInt}
use Rattle.filt_meaning.specs.Configuration.{at_end, given_by, verdict_of}
use Rattle.filt_meaning.specs.Flow.{AtEnd, Flow, Done, Stopped, Frame, Stuck, Why, and_then, plainly}
use Rattle.filt_meaning.specs.Meaning.{elements, turns}
use Rattle.filt_meaning.specs.Names.{Around, Doing}
use Rattle.filt_code.specs.declared.code.Routine.{Routine}
use Rattle.filt_code.specs.declared.instr.Instr.{Instr}
use Rattle.filt_code.specs.declared.instr.Instr.TheVariants as instrs
use Rattle.filt_code.specs.Codes.{Setting, doing, mean, setting, with_routine, with_routines}
use Rattle.filt_code.specs.Costs.{cost, costs}
use Rattle.filt_vm.specs.declared.level.Call.{Call}
use Rattle.filt_vm.specs.declared.level.Level.{Level}
use Rattle.filt_vm.specs.declared.level.Level.TheVariants as levels
use Rattle.filt_vm.specs.declared.level.Turn.{Turn}
use Rattle.filt_vm.specs.declared.step.Step.{Step}
use Rattle.filt_vm.specs.declared.step.Step.TheVariants as steps
use Rattle.filt_vm.specs.Levels.{Waiting, behind_first, top_elements}
use Rattle.filt_vm.specs.Machines.{Steps, call_of, ended, handed, waits, left, left_in, resumed, returned, said, turned, turns_left}
use Rattle.filt_route.specs.declared.halt.Halt.{Halt}
use Rattle.filt_route.specs.declared.halt.Halt.TheVariants as halts
use Rattle.filt_route.specs.Seen.{IsUnstuck}
use Rattle.filt_vm.specs.Seen.{Held, first_of, rest_of}
use Rattle.filt_vm.proofs.Steps as s
use Rattle.filt_vm.proofs.Unstuck as u
use Rattle.filt_vm.proofs.Works as works

-- a step from what is the same, and has no less left
pub steps-from : (r : Result Step Halt) (before same after : Flow Frame) (attrs : Attrs) (l more n : ℕ) → same ≡ before → l ≤ more → Steps r before after attrs l n → Steps r same after attrs more n
steps-from (Ok steps.On) before same after attrs l more n is le h = (is ∙ h.0, omega (arith, h.1, le))
steps-from (Ok steps.Accepts) before same after attrs l more n is le h = ap verdict_of is ∙ h
steps-from (Ok (steps.Rejects fault)) before same after attrs l more n is le h = ap verdict_of is ∙ h
steps-from (Err (halts.Fault fault)) before same after attrs l more n is le h = ap verdict_of is ∙ h
steps-from (Err halts.Memory) before same after attrs l more n is le h = tt

all-of : {A : Type 0} (xs : List A) → take (length xs) xs ≡ xs
all-of [] = refl
all-of (x ∷ xs) = ap (λ (ys : List _). x ∷ ys) (all-of xs)

none-of : {A : Type 0} (xs : List A) → drop (length xs) xs ≡ []
none-of [] = refl
none-of (x ∷ xs) = none-of xs

-- ---- loops

loop-flow : (around : Around) (fs : List Routine) (tail : List Instr) (t : Turn) (vals : Frame) (v : Val) (els : Frame) (os : List Val) (attrs : Attrs) (n : ℕ) → t.functions.now ≡ fs → t.body.now ≡ tail → t.next ≡ 0 → t.over ≡ n → t.variables ≡ length vals → elements v ≡ Ok els → and_then (plainly (elements v) attrs) (λ vs attrs. and_then (turns (length vals) vs (λ vals attrs. mean (setting around fs) tail 0 vals [] attrs) vals attrs) (λ vals attrs. mean (setting around fs) tail n vals os attrs)) ≡ turned around t els os (Done vals attrs)
loop-flow around fs tail t vals v els os attrs n f b zero-is over-is depth-is list-is =
    rw (list-is, f, b, zero-is, over-is, depth-is, all-of vals) refl

pub begun : (around : Around) (fs : List Routine) (rest tail code : List Instr) (n m : ℕ) (t : Turn) (vals os o new : Held) (w middle waiting : Waiting) (v : Val) (els : Frame) (attrs : Attrs) → rest ≡ instrs.ForEach n ∷ tail → t.functions.now ≡ fs → t.body.now ≡ tail → t.next ≡ 0 → t.over ≡ n → t.variables ≡ length vals.here → os ≡ record { here = v ∷ o.here; under = o.under } → elements v ≡ Ok els → length els ≤ 120 → m ≡ length tail → code ≡ drop m tail → middle ≡ record { levels = w.levels; lists = els ∷ w.lists } → waiting ≡ record { levels = levels.Turns t ∷ middle.levels; lists = middle.lists } → new ≡ record { here = []; under = o.here ∷ o.under } → (said around fs rest vals os w attrs ≡ said around fs code vals new waiting attrs) × (left fs code waiting < left fs rest w)
begun around fs rest tail code n m t vals os o new w middle waiting v els attrs is f b z ov d pops list few whole end mid wait onew =
    let e : code ≡ [] = end ∙ ap (λ (k : ℕ). drop k tail) whole ∙ none-of tail in
    rw (is, pops, e, wait, mid, onew) (
      ap (resumed around w.levels vals.under o.under w.lists) (loop-flow around fs tail t vals.here v els o.here attrs n f b z ov d list),
      rw (f, b, z, ov) (omega (arith, works.at_most (length els - 0) (cost (costs fs) tail 0) (omega (arith, few)))),
    )

next-or : {A : Type 0} (xs : List A) (i : ℕ) (d : A) → i < length xs → drop i xs ≡ get_or xs i d ∷ drop (i + 1) xs
next-or [] i d lt = absurd (omega arith)
next-or (y ∷ ys) zero d lt = refl
next-or (y ∷ ys) (suc i) d lt = let e : suc i + 1 ≡ suc (i + 1) = omega arith in rw e (next-or ys i d (omega arith))

nothing-left : {A : Type 0} (xs : List A) (i : ℕ) → length xs ≤ i → drop i xs ≡ []
nothing-left [] zero le = refl
nothing-left [] (suc i) le = refl
nothing-left (x ∷ xs) zero le = absurd (omega arith)
nothing-left (x ∷ xs) (suc i) le = nothing-left xs i (omega arith)

turn-flow : (around : Around) (t again : Turn) (els : Frame) (vals : Frame) (os : List Val) (attrs : Attrs) → t.next < length els → again.functions.now ≡ t.functions.now → again.body.now ≡ t.body.now → again.over ≡ t.over → again.variables ≡ t.variables → again.next ≡ t.next + 1 → turned around t els os (Done vals attrs) ≡ turned around again els os (mean (setting around t.functions.now) t.body.now 0 (take t.variables vals ++ get_or els t.next (VInt 0) ∷ []) [] attrs)
turn-flow around t again els vals os attrs lt f b ov d n =
    rw (f, b, ov, d, n) (ap (λ (vs : Frame). and_then (turns t.variables vs (λ vals attrs. mean (setting around t.functions.now) t.body.now 0 vals [] attrs) (take t.variables vals) attrs) (λ vals attrs. mean (setting around t.functions.now) t.body.now t.over vals os attrs)) (next-or els t.next (VInt 0) lt))

one-turn : (next all n : ℕ) → next < all → turns_left (all - next) n ≡ 1 + n + turns_left (all - (next + 1)) n
one-turn next all n lt = let e : all - next ≡ suc (all - (next + 1)) = omega (arith, lt) in rw e refl

pub goes-on : (around : Around) (t again : Turn) (vals mid new os onew : Held) (w waiting : Waiting) (attrs : Attrs) (v : Val) → t.next < length (top_elements w.lists) → again.functions.now ≡ t.functions.now → again.body.now ≡ t.body.now → again.over ≡ t.over → again.variables ≡ t.variables → again.next ≡ t.next + 1 → v ≡ get_or (top_elements w.lists) t.next (VInt 0) → mid ≡ record { here = take t.variables vals.here; under = vals.under } → new ≡ record { here = mid.here ++ v ∷ []; under = mid.under } → onew ≡ record { here = []; under = os.under } → waiting ≡ record { levels = levels.Turns again ∷ w.levels; lists = w.lists } → (resumed around (levels.Turns t ∷ w.levels) vals.under os.under w.lists (Done vals.here attrs) ≡ said around t.functions.now t.body.now new onew waiting attrs) × (left t.functions.now t.body.now waiting < left_in (levels.Turns t ∷ w.levels) w.lists)
goes-on around t again vals mid new os onew w waiting attrs v lt f b ov d n is m e eo wait =
    rw (e, m, eo, wait, is) (
      ap (resumed around w.levels vals.under (rest_of os.under) (behind_first w.lists)) (turn-flow around t again (top_elements w.lists) vals.here (first_of os.under) attrs lt f b ov d n),
      rw (f, b, ov, n) (omega (arith, one-turn t.next (length (top_elements w.lists)) (cost (costs t.functions.now) t.body.now 0) lt)),
    )

over-flow : (around : Around) (t : Turn) (els : Frame) (vals : Frame) (os : List Val) (attrs : Attrs) → length els ≤ t.next → turned around t els os (Done vals attrs) ≡ mean (setting around t.functions.now) t.body.now t.over (take t.variables vals) os attrs
over-flow around t els vals os attrs le = ap (λ (vs : Frame). and_then (turns t.variables vs (λ vals attrs. mean (setting around t.functions.now) t.body.now 0 vals [] attrs) (take t.variables vals) attrs) (λ vals attrs. mean (setting around t.functions.now) t.body.now t.over vals os attrs)) (nothing-left els t.next le)

pub is-over : (around : Around) (t : Turn) (code : List Instr) (vals new os onew : Held) (w waiting : Waiting) (attrs : Attrs) → length (top_elements w.lists) ≤ t.next → code ≡ drop t.over t.body.now → new ≡ record { here = take t.variables vals.here; under = vals.under } → onew ≡ record { here = first_of os.under; under = rest_of os.under } → waiting ≡ record { levels = w.levels; lists = behind_first w.lists } → (resumed around (levels.Turns t ∷ w.levels) vals.under os.under w.lists (Done vals.here attrs) ≡ said around t.functions.now code new onew waiting attrs) × (left t.functions.now code waiting < left_in (levels.Turns t ∷ w.levels) w.lists)
is-over around t code vals new os onew w waiting attrs le to e eo wait =
    rw (e, eo, wait, to) (
      ap (resumed around w.levels vals.under (rest_of os.under) (behind_first w.lists)) (over-flow around t (top_elements w.lists) vals.here (first_of os.under) attrs le ∙ sym (s.mean-behind (setting around t.functions.now) t.body.now t.over (take t.variables vals.here) (first_of os.under) attrs)),
      omega (arith, works.cost-behind (costs t.functions.now) t.body.now t.over),
    )

-- ---- calls

get-front : {A : Type 0} (xs ys : List A) (n : ℕ) (x : A) → slice_get xs n ≡ Some x → slice_get (xs ++ ys) n ≡ Some x
get-front [] ys n x is = absurd (cc)
get-front (a ∷ xs) ys zero x is = is
get-front (a ∷ xs) ys (suc n) x is = get-front xs ys n x is

get-last : {A : Type 0} (xs : List A) (x : A) → slice_get (xs ++ x ∷ []) (length xs + 0) ≡ Some x
get-last [] x = refl
get-last (a ∷ xs) x = let e : length (a ∷ xs) + 0 ≡ suc (length xs + 0) = omega arith in rw e (get-last xs x)

table-front : (t : Setting) (fs : List Routine) (n : ℕ) (f : Doing) → slice_get t.functions n ≡ Some f → slice_get (with_routines t fs).functions n ≡ Some f
table-front t [] n f is = is
table-front t (g ∷ fs) n f is = table-front (with_routine t (doing t g)) fs n f (get-front t.functions _ n f is)

at_after : (t : Setting) (fs : List Routine) (n : ℕ) (f : Routine) → slice_get fs n ≡ Some f → slice_get (with_routines t fs).functions (length t.functions + n) ≡ Some (doing (with_routines t (take n fs)) f)
at_after t [] n f is = absurd (cc)
at_after t (g ∷ fs) zero f is =
    let p : g ≡ f = cc in
    table-front (with_routine t (doing t g)) fs (length t.functions + 0) (doing t f) (rw (← p) (get-last t.functions (doing t g)))
at_after t (g ∷ fs) (suc n) f is =
    let e : length t.functions + suc n ≡ length (t.functions ++ doing t g ∷ []) + n = omega (arith, length-append t.functions (doing t g ∷ [])) in
    rw e (at_after (with_routine t (doing t g)) fs n f is)

table-at : (around : Around) (fs : List Routine) (n : ℕ) (f : Routine) → slice_get fs n ≡ Some f → slice_get (setting around fs).functions n ≡ Some (doing (setting around (take n fs)) f)
table-at around fs n f is = let e : 0 + n ≡ n = omega arith in rw e at (at_after (record { around = around; functions = [] }) fs n f is)

length-table : (t : Setting) (fs : List Routine) → length (with_routines t fs).functions ≡ length t.functions + length fs
length-table t [] = omega arith
length-table t (g ∷ fs) = omega (arith, length-table (with_routine t (doing t g)) fs, length-append t.functions (doing t g ∷ []))

table-past : (around : Around) (fs : List Routine) (n : ℕ) → length fs ≤ n → slice_get (setting around fs).functions n ≡ None
table-past around fs n le = slice_get_past (setting around fs).functions n (omega (arith, length-table (record { around = around; functions = [] }) fs))

call-flow : (around : Around) (c : Call) (n k : ℕ) (f : Routine) (vals : Frame) (os : List Val) (attrs : Attrs) → slice_get c.functions.now n ≡ Some f → c.gives ≡ f.gives → mean (setting around c.functions.now) (call_of c.puts n k ∷ c.rest.now) 0 vals os attrs ≡ returned around c vals (drop k os) (mean (setting around (take n c.functions.now)) f.code.items 0 (reverse (take k os)) [] attrs)
call-flow around c n k f vals os attrs is g = by-puts c.puts
  where
    found : slice_get (setting around c.functions.now).functions n ≡ Some (doing (setting around (take n c.functions.now)) f)
    found = table-at around c.functions.now n f is

    by-puts : (puts : Bool) → mean (setting around c.functions.now) (call_of puts n k ∷ c.rest.now) 0 vals os attrs ≡ and_then (given_by c.gives (mean (setting around (take n c.functions.now)) f.code.items 0 (reverse (take k os)) [] attrs)) (handed puts (λ os attrs. mean (setting around c.functions.now) c.rest.now 0 vals os attrs) (drop k os))
    by-puts true = rw (found, g) refl
    by-puts false = rw (found, g) refl

call-cost : (puts : Bool) (cs : List ℕ) (n k : ℕ) (tail : List Instr) → cost cs (call_of puts n k ∷ tail) 0 ≡ suc (1 + get_or cs n 0 + cost cs tail 0)
call-cost true cs n k tail = refl
call-cost false cs n k tail = refl

pub enters : (around : Around) (c : Call) (n k : ℕ) (f : Routine) (rest code : List Instr) (below : List Routine) (arguments : List Val) (vals new os o onew : Held) (w waiting : Waiting) (attrs : Attrs) → rest ≡ call_of c.puts n k ∷ c.rest.now → slice_get c.functions.now n ≡ Some f → c.gives ≡ f.gives → code ≡ f.code.items → below ≡ take n c.functions.now → arguments ≡ reverse (take k os.here) → o ≡ record { here = drop k os.here; under = os.under } → onew ≡ record { here = []; under = o.here ∷ o.under } → new ≡ record { here = arguments; under = vals.here ∷ vals.under } → waiting ≡ record { levels = levels.Returns c ∷ w.levels; lists = w.lists } → (said around c.functions.now rest vals os w attrs ≡ said around below code new onew waiting attrs) × (left below code waiting < left c.functions.now rest w)
enters around c n k f rest code below arguments vals new os o onew w waiting attrs is found g body first args taken eo e wait =
    rw (is, wait, e, eo, taken, args, body, first) (
      ap (resumed around w.levels vals.under os.under w.lists) (call-flow around c n k f vals.here os.here attrs found g),
      omega (arith, call-cost c.puts (costs c.functions.now) n k c.rest.now, works.cost-of c.functions.now n f found),
    )

pub found-at : {A : Type 0} (xs : List A) (n : ℕ) (x : A) → n < length xs → x ≡ get_or xs n x → slice_get xs n ≡ Some x
found-at xs n x lt is = slice_get-get_or xs n x lt ∙ ap Some (sym is)

no-call : (around : Around) (puts : Bool) (fs : List Routine) (n k : ℕ) (tail : List Instr) (vals : Frame) (os : List Val) (attrs : Attrs) → slice_get (setting around fs).functions n ≡ None → mean (setting around fs) (call_of puts n k ∷ tail) 0 vals os attrs ≡ Stopped Stuck attrs
no-call around true fs n k tail vals os attrs is = rw is refl
no-call around false fs n k tail vals os attrs is = rw is refl

-- the function is there
pub has-function : (around : Around) (puts : Bool) (fs : List Routine) (n k : ℕ) (rest tail : List Instr) (vals os : Held) (w : Waiting) (attrs : Attrs) → rest ≡ call_of puts n k ∷ tail → IsUnstuck (said around fs rest vals os w attrs) → n < length fs
has-function around puts fs n k rest tail vals os w attrs is unstuck = by (ltb n (length fs)) refl
  where
    by : (b : Bool) → ltb n (length fs) ≡ b → n < length fs
    by true below = ltb-true n (length fs) below
    by false isnt = absurd (u.inside around w.levels vals.under os.under w.lists (mean (setting around fs) rest 0 vals.here os.here attrs) unstuck attrs (ap (λ (code : List Instr). mean (setting around fs) code 0 vals.here os.here attrs) is ∙ no-call around puts fs n k tail vals.here os.here attrs (table-past around fs n (ltb-false n (length fs) isnt))))

-- ---- what ends

pub end-none : (around : Around) (fs : List Routine) (rest : List Instr) (vals os : Held) (w : Waiting) (attrs : Attrs) → mean (setting around fs) rest 0 vals.here os.here attrs ≡ Done vals.here attrs → w.levels ≡ [] → verdict_of (said around fs rest vals os w attrs) ≡ verdicts.Reject (Some faults.NoVerdict)
end-none around fs rest vals os w attrs m is = ap verdict_of (ap (ended around vals os w) m ∙ ap (λ (all : List Level). resumed around all vals.under os.under w.lists (Done vals.here attrs)) is)

pub end-steps : (r : Result Step Halt) (around : Around) (fs : List Routine) (rest : List Instr) (level : Level) (vals os : Held) (w new : Waiting) (flow : Flow Frame) (attrs : Attrs) (after : Flow Frame) (now : Attrs) (n : ℕ) → mean (setting around fs) rest 0 vals.here os.here attrs ≡ flow → w.levels ≡ level ∷ new.levels → new.lists ≡ w.lists → Steps r (resumed around (level ∷ new.levels) vals.under os.under new.lists flow) after now (left_in (level ∷ new.levels) new.lists) n → Steps r (said around fs rest vals os w attrs) after now (left fs rest w) n
end-steps r around fs rest level vals os w new flow attrs after now n m is lists h =
    steps-from r _ _ after now _ _ n
    (ap (ended around vals os w) m ∙ ap (λ (all : List Level). resumed around all vals.under os.under w.lists flow) is ∙ ap (λ (ls : List Frame). resumed around (level ∷ new.levels) vals.under os.under ls flow) (sym lists))
    (omega (arith, ap (λ (all : List Level). left_in all w.lists) is, ap (λ (ls : List Frame). left_in (level ∷ new.levels) ls) lists))
    h

pub unwinds : (r : Result Step Halt) (around : Around) (fs : List Routine) (rest : List Instr) (found : Option Call) (call : Call) (vals os o onew : Held) (w new : Waiting) (why : Why) (attrs : Attrs) (after : Flow Frame) (now : Attrs) (n : ℕ) → mean (setting around fs) rest 0 vals.here os.here attrs ≡ Stopped why attrs → os.under ≡ o.under → resumed around w.levels vals.under o.under w.lists (Stopped why attrs) ≡ resumed around (waits found new.levels) vals.under onew.under new.lists (Stopped why attrs) → left_in (waits found new.levels) new.lists ≤ left_in w.levels w.lists → found ≡ Some call → Steps r (resumed around (levels.Returns call ∷ new.levels) vals.under onew.under new.lists (Stopped why attrs)) after now (left_in (levels.Returns call ∷ new.levels) new.lists) n → Steps r (said around fs rest vals os w attrs) after now (left fs rest w) n
unwinds r around fs rest found call vals os o onew w new why attrs after now n m u flow le is h =
    steps-from r _ _ after now _ _ n
    (ap (ended around vals os w) m ∙ ap (λ (us : List (List Val)). resumed around w.levels vals.under us w.lists (Stopped why attrs)) u ∙ flow ∙ ap (λ (c : Option Call). resumed around (waits c new.levels) vals.under onew.under new.lists (Stopped why attrs)) is)
    (omega (arith, le, ap (λ (c : Option Call). left_in (waits c new.levels) new.lists) is))
    h

-- what is behind a `return` that leads to a caller
pub unwound-to : (around : Around) (fs : List Routine) (rest : List Instr) (found : Option Call) (call : Call) (vals os o onew : Held) (w new : Waiting) (why : Why) (attrs : Attrs) → mean (setting around fs) rest 0 vals.here os.here attrs ≡ Stopped why attrs → os.under ≡ o.under → resumed around w.levels vals.under o.under w.lists (Stopped why attrs) ≡ resumed around (waits found new.levels) vals.under onew.under new.lists (Stopped why attrs) → found ≡ Some call → said around fs rest vals os w attrs ≡ resumed around (levels.Returns call ∷ new.levels) vals.under onew.under new.lists (Stopped why attrs)
unwound-to around fs rest found call vals os o onew w new why attrs m u flow is =
    ap (ended around vals os w) m ∙ ap (λ (us : List (List Val)). resumed around w.levels vals.under us w.lists (Stopped why attrs)) u ∙ flow ∙ ap (λ (c : Option Call). resumed around (waits c new.levels) vals.under onew.under new.lists (Stopped why attrs)) is

pub unwinds-all : (around : Around) (fs : List Routine) (rest : List Instr) (found : Option Call) (vals os o onew : Held) (w new : Waiting) (why : Why) (attrs : Attrs) → mean (setting around fs) rest 0 vals.here os.here attrs ≡ Stopped why attrs → os.under ≡ o.under → resumed around w.levels vals.under o.under w.lists (Stopped why attrs) ≡ resumed around (waits found new.levels) vals.under onew.under new.lists (Stopped why attrs) → found ≡ None → verdict_of (said around fs rest vals os w attrs) ≡ verdict_of (Stopped why attrs)
unwinds-all around fs rest found vals os o onew w new why attrs m u flow is =
    ap verdict_of (ap (ended around vals os w) m ∙ ap (λ (us : List (List Val)). resumed around w.levels vals.under us w.lists (Stopped why attrs)) u ∙ flow ∙ ap (λ (c : Option Call). resumed around (waits c new.levels) vals.under onew.under new.lists (Stopped why attrs)) is)

-- what such a level is behind
pub popped : (around : Around) (fs : List Routine) (rest : List Instr) (level : Level) (vals os : Held) (w new : Waiting) (flow : Flow Frame) (attrs : Attrs) → mean (setting around fs) rest 0 vals.here os.here attrs ≡ flow → w.levels ≡ level ∷ new.levels → new.lists ≡ w.lists → said around fs rest vals os w attrs ≡ resumed around (level ∷ new.levels) vals.under os.under new.lists flow
popped around fs rest level vals os w new flow attrs m is lists =
    ap (ended around vals os w) m ∙ ap (λ (all : List Level). resumed around all vals.under os.under w.lists flow) is ∙ ap (λ (ls : List Frame). resumed around (level ∷ new.levels) vals.under os.under ls flow) (sym lists)

-- ---- functions that end without a value

pub gives-none : (around : Around) (more : List Level) (fs os : List (List Val)) (ls : List Frame) (g : Option Sort) (next : Option Val → Attrs → Flow Frame) (attrs : Attrs) → is_some g ≡ true → verdict_of (resumed around more fs os ls (and_then (at_end g attrs) next)) ≡ verdicts.Reject (Some faults.NoValue)
gives-none around more fs os ls None next attrs is = absurd (cc)
gives-none around more fs os ls (Some sort) next attrs is = ap verdict_of (s.ends_faulted around more fs os ls faults.NoValue attrs)

pub puts-none : (around : Around) (more : List Level) (fs us : List (List Val)) (ls : List Frame) (g : Option Sort) (puts : Bool) (next : List Val → Attrs → Flow Frame) (os : List Val) (attrs : Attrs) → is_some g ≡ false → IsUnstuck (resumed around more fs us ls (and_then (at_end g attrs) (handed puts next os))) → and_then (at_end g attrs) (handed puts next os) ≡ next os attrs
puts-none around more fs us ls None true next os attrs is unstuck = absurd (unstuck attrs (s.ends_stuck around more fs us ls attrs))
puts-none around more fs us ls None false next os attrs is unstuck = refl
puts-none around more fs us ls (Some sort) puts next os attrs is unstuck = absurd (cc)

pub gives-nothing : (around : Around) (c : Call) (vals os : Held) (w : Waiting) (attrs : Attrs) → is_some c.gives ≡ false → IsUnstuck (resumed around (levels.Returns c ∷ w.levels) vals.under os.under w.lists (Stopped AtEnd attrs)) → (resumed around (levels.Returns c ∷ w.levels) vals.under os.under w.lists (Stopped AtEnd attrs) ≡ said around c.functions.now c.rest.now (record { here = first_of vals.under; under = rest_of vals.under }) (record { here = first_of os.under; under = rest_of os.under }) w attrs) × (left c.functions.now c.rest.now w < left_in (levels.Returns c ∷ w.levels) w.lists)
gives-nothing around c vals os w attrs none unstuck = (
  ap (resumed around w.levels (rest_of vals.under) (rest_of os.under) w.lists) (puts-none around w.levels (rest_of vals.under) (rest_of os.under) w.lists c.gives c.puts (λ os attrs. mean (setting around c.functions.now) c.rest.now 0 (first_of vals.under) os attrs) (first_of os.under) attrs none unstuck),
  omega arith,
)
