-- What the code of conditions comes to that `&&`, `||` and `!` join.
use Rattle.std.proofs.Common.{◌≡◌, ℕ, suc, zero, ◌+◌, ◌-◌, ◌<◌, ◌≤◌, Bool, true, false, not, List, [], ◌∷◌, ◌++◌, length, drop, Some, Result, Ok, Err, refl, sym, ap, ◌∙◌, arith, length-append, Box, Vec}
use Rattle.std.proofs.lemmas.List.{length-reverse}
use Rattle.std.specs.Prelude.{slice_get}
use Rattle.std.specs.Global.{Global}
use Rattle.attrs.specs.declared.attributes.Attrs.{Attrs}
use Rattle.conf_ast.specs.declared.filters.LogicalOp.{LogicalOp}
use Rattle.conf_ast.specs.declared.filters.LogicalOp.TheVariants as logical_ops
use Rattle.filt_meaning.specs.declared.value.Failure.{Failure}
use Rattle.filt_meaning.specs.Operators as operators
use Rattle.filt_meaning.specs.Operators.{bool_in, not_of, truth_of}
use Rattle.filt_meaning.specs.Values.{Val}
use Rattle.filt_meaning.specs.Flow.{Flow, Done, Stopped, Frame, Run, and_then, plainly}
use Rattle.filt_meaning.specs.Meaning as m
use Rattle.filt_meaning.specs.declared.tree.TExpr.{TExpr}
use Rattle.filt_meaning.specs.declared.tree.TExpr.TheVariants as e
use Rattle.filt_meaning.specs.Trees as trees
use Rattle.filt_meaning.specs.Trees.{Tables}
use Rattle.filt_meaning.proofs.Forms as forms
use Rattle.filt_code.specs.declared.instr.Instr.{Instr}
use Rattle.filt_code.specs.Codes.{Setting, jump_where, mean}
use Rattle.filt_compile.specs.declared.seen.Seen.{Seen}
use Rattle.filt_compile.specs.Emits.{ahead, decider, landing, tables_of, Asks, Leads}
use Rattle.filt_compile.proofs.Acting as ac
use Rattle.filt_compile.proofs.Emitting.{further}
use Rattle.filt_compile.proofs.Walk as w

-- ---- places

-- so far behind the front of a code its rest is run from there
passed_more : (s : Setting) (code old : List Instr) (n k : ℕ) (vals : Frame) (os : List Val) (attrs : Attrs) → k ≡ length code + n → mean s (code ++ old) k vals os attrs ≡ mean s old n vals os attrs
passed_more s [] old n k vals os attrs is =
    let same : k ≡ n = omega (arith, is) in ap (λ (i : ℕ). mean s old i vals os attrs) same
passed_more s (i ∷ code) old n zero vals os attrs is = absurd (omega (arith, is))
passed_more s (i ∷ code) old n (suc k) vals os attrs is = passed_more s code old n k vals os attrs (omega (arith, is))

-- a place is told by how much code there is from it on
reached : (s : Setting) (new code old : List Instr) (to : ℕ) (vals : Frame) (os : List Val) (attrs : Attrs) → new ≡ code ++ old → to ≤ length old → mean s new (length new - to) vals os attrs ≡ mean s old (length old - to) vals os attrs
reached s new code old to vals os attrs is low =
    let k : length (code ++ old) - to ≡ length code + (length old - to) = omega (arith, length-append code old, low) in
    rw is (passed_more s code old (length old - to) (length (code ++ old) - to) vals os attrs k)

pub over_is : (over len to : ℕ) (out : Vec Instr Global) → over ≡ len - to → len ≡ length out.items → over ≡ length (ahead out) - to
over_is over len to out is a = rw (is, a, length-reverse out.items) refl

pub asks_over : (seen : Seen) (is : Bool) (over n : ℕ) (run : Tables → Run Val) (old new : List Instr) → over ≡ n → Asks seen is over run old new → Asks seen is n run old new
asks_over seen is over n run old new same p = rw (← same) p

-- ---- `!`

turned : (is : Bool) (n : ℕ) (b : Bool) → jump_where (not is) n b ≡ jump_where is n (not b)
turned true n true = refl
turned true n false = refl
turned false n true = refl
turned false n false = refl

not_in : (is : Bool) (n : ℕ) (r : Result Bool Failure) (attrs : Attrs) (next : ℕ → Attrs → Flow Frame) → and_then (plainly r attrs) (λ b attrs. next (jump_where (not is) n b) attrs) ≡ and_then (plainly (operators.and_then r (λ b. operators.says (not b))) attrs) (λ v attrs. and_then (plainly (bool_in v) attrs) (λ b attrs. next (jump_where is n b) attrs))
not_in is n (Ok b) attrs next = ap (λ (k : ℕ). next k attrs) (turned is n b)
not_in is n (Err failure) attrs next = refl

not_then : (is : Bool) (n : ℕ) (flow : Flow Val) (next : ℕ → Attrs → Flow Frame) → and_then flow (λ v attrs. and_then (plainly (bool_in v) attrs) (λ b attrs. next (jump_where (not is) n b) attrs)) ≡ and_then (and_then flow (λ v attrs. plainly (not_of v) attrs)) (λ v attrs. and_then (plainly (bool_in v) attrs) (λ b attrs. next (jump_where is n b) attrs))
not_then is n (Done v attrs) next = not_in is n (bool_in v) attrs next
not_then is n (Stopped why attrs) next = refl

not_asks : (seen : Seen) (is : Bool) (n : ℕ) (run : Tables → Run Val) (old new : List Instr) → Asks seen (not is) n run old new → Asks seen is n (λ t. m.on_value (run t) not_of) old new
not_asks seen is n run old new p = record {
  code = p.code;
  grows = p.grows;
  means = λ s few vals os attrs. p.means s few vals os attrs ∙ not_then is n (run (tables_of seen s) vals attrs) (λ k attrs. mean s old k vals os attrs);
}

pub not_leads : (seen : Seen) (is : Bool) (n : ℕ) (a : Box TExpr Global) (x first : TExpr) (old new : List Instr) → x ≡ e.Not a → first ≡ a.value → Asks seen (not is) n (λ t. trees.expr first t) old new → Asks seen is n (λ t. trees.expr x t) old new
not_leads seen is n a x first old new same f p =
    ac.asks_as seen is n (λ t. m.on_value (trees.expr first t) not_of) (λ t. trees.expr x t) old new (λ t vals attrs. ap (λ (x : TExpr). trees.expr x t vals attrs) same ∙ ap (λ (f : Tables → Run Val). f t vals attrs) (forms.of-Not _ trees.expr_step a) ∙ ap (λ (y : TExpr). m.on_value (trees.expr y t) not_of vals attrs) (sym f)) (not_asks seen is n (λ t. trees.expr first t) old new p)

-- ---- `&&` and `||`

joints_are : (t : Tables) (a : Box TExpr Global) (v : Vec (LogicalOp × TExpr) Global) (x first : TExpr) (more : List (LogicalOp × TExpr)) (vals : Frame) (attrs : Attrs) → x ≡ e.Joint a v → first ≡ a.value → more ≡ v.items → trees.expr x t vals attrs ≡ trees.joints (trees.expr first t) (trees.parts t more) vals attrs
joints_are t a v x first more vals attrs same f i =
    ap (λ (x : TExpr). trees.expr x t vals attrs) same ∙ ap (λ (f : Run Val). f vals attrs) (w.expr-Joint a v t) ∙ rw (← f, ← i) refl

pub joint_leads : (seen : Seen) (is : Bool) (n : ℕ) (a : Box TExpr Global) (v : Vec (LogicalOp × TExpr) Global) (x first : TExpr) (more : List (LogicalOp × TExpr)) (old new : List Instr) → x ≡ e.Joint a v → first ≡ a.value → more ≡ v.items → Asks seen is n (λ t. trees.joints (trees.expr first t) (trees.parts t more)) old new → Asks seen is n (λ t. trees.expr x t) old new
joint_leads seen is n a v x first more old new same f i p =
    ac.asks_as seen is n (λ t. trees.joints (trees.expr first t) (trees.parts t more)) (λ t. trees.expr x t) old new (λ t vals attrs. joints_are t a v x first more vals attrs same f i) p

truth_in : (r : Result Bool Failure) (attrs : Attrs) (next : Bool → Attrs → Flow Frame) → and_then (plainly r attrs) next ≡ and_then (plainly (operators.and_then r (λ b. operators.says b)) attrs) (λ v attrs. and_then (plainly (bool_in v) attrs) next)
truth_in (Ok b) attrs next = refl
truth_in (Err failure) attrs next = refl

pub truth_then : (flow : Flow Val) (next : Bool → Attrs → Flow Frame) → and_then flow (λ v attrs. and_then (plainly (bool_in v) attrs) next) ≡ and_then (and_then flow (λ v attrs. plainly (truth_of v) attrs)) (λ v attrs. and_then (plainly (bool_in v) attrs) next)
truth_then (Done v attrs) next = truth_in (bool_in v) attrs next
truth_then (Stopped why attrs) next = refl

-- what is done behind the left side of this value; it leads to the right one, to the place, or
-- behind the right one
behind_left : (joint : LogicalOp) (is left : Bool) (far near n : ℕ) (b : Run Val) (vals : Frame) (attrs : Attrs) (first next : ℕ → Attrs → Flow Frame) → first 0 attrs ≡ and_then (b vals attrs) (λ v attrs. and_then (plainly (bool_in v) attrs) (λ h attrs. next (jump_where is n h) attrs)) → first far attrs ≡ next n attrs → first near attrs ≡ next 0 attrs → first (jump_where (decider joint) (landing (decider joint) is far near) left) attrs ≡ and_then (m.right_side joint left b vals attrs) (λ v attrs. and_then (plainly (bool_in v) attrs) (λ h attrs. next (jump_where is n h) attrs))
behind_left logical_ops.And is true far near n b vals attrs first next on to past = on ∙ truth_then (b vals attrs) (λ h attrs. next (jump_where is n h) attrs)
behind_left logical_ops.And true false far near n b vals attrs first next on to past = past
behind_left logical_ops.And false false far near n b vals attrs first next on to past = to
behind_left logical_ops.Or true true far near n b vals attrs first next on to past = to
behind_left logical_ops.Or false true far near n b vals attrs first next on to past = past
behind_left logical_ops.Or is false far near n b vals attrs first next on to past = on ∙ truth_then (b vals attrs) (λ h attrs. next (jump_where is n h) attrs)

joined_in : {A : Type 0} (r : Result Bool Failure) (attrs : Attrs) (first : Bool → Attrs → Flow Frame) (second : Bool → Attrs → Flow A) (next : A → Attrs → Flow Frame) → ((b : Bool) (attrs : Attrs) → first b attrs ≡ and_then (second b attrs) next) → and_then (plainly r attrs) first ≡ and_then (and_then (plainly r attrs) second) next
joined_in (Ok b) attrs first second next same = same b attrs
joined_in (Err failure) attrs first second next same = refl

joined_then : {A : Type 0} (flow : Flow Val) (first : Bool → Attrs → Flow Frame) (second : Bool → Attrs → Flow A) (next : A → Attrs → Flow Frame) → ((b : Bool) (attrs : Attrs) → first b attrs ≡ and_then (second b attrs) next) → and_then flow (λ v attrs. and_then (plainly (bool_in v) attrs) first) ≡ and_then (and_then flow (λ v attrs. and_then (plainly (bool_in v) attrs) second)) next
joined_then (Done v attrs) first second next same = joined_in (bool_in v) attrs first second next same
joined_then (Stopped why attrs) first second next same = refl

landing_from : (deciding is : Bool) (len place behind : ℕ) → len - landing deciding is place behind ≡ landing deciding is (len - place) (len - behind)
landing_from true true len place behind = refl
landing_from true false len place behind = refl
landing_from false true len place behind = refl
landing_from false false len place behind = refl

-- a left side in front of a right one
joint_asks : (seen : Seen) (joint : LogicalOp) (is : Bool) (place behind : ℕ) (x : TExpr) (run : Tables → Run Val) (old mid new : List Instr) → place ≤ length old → behind ≡ length old → Asks seen is (length old - place) (λ t. trees.expr x t) old mid → Asks seen (decider joint) (length mid - landing (decider joint) is place behind) run mid new → Asks seen is (length old - place) (λ t. m.joined joint (run t) (trees.expr x t)) old new
joint_asks seen joint is place behind x run old mid new low at p q = record {
  code = q.code ++ p.code;
  grows = further new mid old q.code p.code q.grows p.grows;
  means = λ s few vals os attrs. q.means s few vals os attrs
      ∙ joined_then (run (tables_of seen s) vals attrs) (λ left attrs. mean s mid (jump_where (decider joint) (length mid - landing (decider joint) is place behind) left) vals os attrs) (λ left attrs. m.right_side joint left (trees.expr x (tables_of seen s)) vals attrs) (λ v attrs. and_then (plainly (bool_in v) attrs) (λ h attrs. mean s old (jump_where is (length old - place) h) vals os attrs)) (λ left attrs.
      ap (λ (k : ℕ). mean s mid (jump_where (decider joint) k left) vals os attrs) (landing_from (decider joint) is (length mid) place behind)
      ∙ behind_left joint is left (length mid - place) (length mid - behind) (length old - place) (trees.expr x (tables_of seen s)) vals attrs (λ k attrs. mean s mid k vals os attrs) (λ k attrs. mean s old k vals os attrs) (p.means s few vals os attrs)
      (reached s mid p.code old place vals os attrs p.grows low)
      (reached s mid p.code old behind vals os attrs p.grows (omega (arith, at)) ∙ to_front s vals os attrs (omega (arith, at))));
}
  where
    to_front : (s : Setting) (vals : Frame) (os : List Val) (attrs : Attrs) → length old - behind ≡ 0 → mean s old (length old - behind) vals os attrs ≡ mean s old 0 vals os attrs
    to_front s vals os attrs none = ap (λ (k : ℕ). mean s old k vals os attrs) none

landed : (deciding is : Bool) (place behind n : ℕ) → place ≤ n → behind ≤ n → landing deciding is place behind ≤ n
landed true true place behind n p q = p
landed true false place behind n p q = q
landed false true place behind n p q = q
landed false false place behind n p q = p

longer : (seen : Seen) (is : Bool) (n : ℕ) (run : Tables → Run Val) (old new : List Instr) → Asks seen is n run old new → length old ≤ length new
longer seen is n run old new p = omega (arith, ap (λ (xs : List Instr). length xs) p.grows, length-append p.code old)

pub landing_far : (seen : Seen) (deciding is : Bool) (place behind to : ℕ) (run : Tables → Run Val) (old mid : List Instr) → to ≡ landing deciding is place behind → place ≤ length old → behind ≡ length old → Leads seen is place run old mid → to ≤ length mid
landing_far seen deciding is place behind to run old mid same low at p =
    let more = longer seen is (length old - place) run old mid (p low) in
    rw same (landed deciding is place behind (length mid) (omega (arith, low, more)) (omega (arith, at, more)))

joints_from : (seen : Seen) (is : Bool) (n : ℕ) (x : LogicalOp × TExpr) (rest all : List (LogicalOp × TExpr)) (run : Tables → Run Val) (old new : List Instr) → all ≡ x ∷ rest → Asks seen is n (λ t. trees.joints (m.joined x.0 (run t) (trees.expr x.1 t)) (trees.parts t rest)) old new → Asks seen is n (λ t. trees.joints (run t) (trees.parts t all)) old new
joints_from seen is n x rest all run old new same p = rw same p

-- one more side from the end
pub joint_at : (seen : Seen) (is : Bool) (to : ℕ) (wanted deciding : Bool) (place behind landed n : ℕ) (more : List (LogicalOp × TExpr)) (x : LogicalOp × TExpr) (run : Tables → Run Val) (base old mid new : List Instr) → 0 < n → slice_get more (n - 1) ≡ Some x → deciding ≡ decider x.0 → landed ≡ landing deciding wanted place behind → behind ≡ length old → place ≤ length old → Leads seen wanted place (λ t. trees.expr x.1 t) old mid → Leads seen deciding landed run mid new → ((run : Tables → Run Val) (new : List Instr) → Leads seen wanted place run old new → Leads seen is to (λ t. trees.joints (run t) (trees.parts t (drop n more))) base new) → Leads seen is to (λ t. trees.joints (run t) (trees.parts t (drop (n - 1) more))) base new
joint_at seen is to wanted deciding place behind landed n more x run base old mid new some got d l at low p q rest =
    let k : n - 1 + 1 ≡ n = omega (arith, some) in
    let reach : landed ≤ length mid = landing_far seen deciding wanted place behind landed (λ t. trees.expr x.1 t) old mid l low at p in
    λ within. joints_from seen is (length base - to) x (drop n more) (drop (n - 1) more) run base new (w.next_got more (n - 1) x got ∙ ap (λ (i : ℕ). x ∷ drop i more) k)
    (rest (λ t. m.joined x.0 (run t) (trees.expr x.1 t)) new (λ low. joint_asks seen x.0 wanted place behind x.1 run old mid new low at (p low) (decided deciding landed d l (q reach))) within)
  where
    decided : (deciding : Bool) (landed : ℕ) → deciding ≡ decider x.0 → landed ≡ landing deciding wanted place behind → Asks seen deciding (length mid - landed) run mid new → Asks seen (decider x.0) (length mid - landing (decider x.0) wanted place behind) run mid new
    decided deciding landed d l q = rw (← d, ← l) q

joints_whole : (seen : Seen) (is : Bool) (n i : ℕ) (first : TExpr) (more : List (LogicalOp × TExpr)) (old new : List Instr) → i ≤ 0 → Asks seen is n (λ t. trees.joints (trees.expr first t) (trees.parts t (drop i more))) old new → Asks seen is n (λ t. trees.joints (trees.expr first t) (trees.parts t more)) old new
joints_whole seen is n zero first more old new le p = p
joints_whole seen is n (suc i) first more old new le p = absurd (omega (arith, le))

pub joint_end : (seen : Seen) (is : Bool) (to : ℕ) (wanted : Bool) (place n : ℕ) (first : TExpr) (more : List (LogicalOp × TExpr)) (base old new : List Instr) → n ≤ 0 → ((run : Tables → Run Val) (new : List Instr) → Leads seen wanted place run old new → Leads seen is to (λ t. trees.joints (run t) (trees.parts t (drop n more))) base new) → Leads seen wanted place (λ t. trees.expr first t) old new → Leads seen is to (λ t. trees.joints (trees.expr first t) (trees.parts t more)) base new
joint_end seen is to wanted place n first more base old new le rest p = λ within.
    joints_whole seen is (length base - to) n first more base new le (rest (λ t. trees.expr first t) new p within)

-- nothing is joined yet
pub joint_start : (seen : Seen) (is : Bool) (to n : ℕ) (more : List (LogicalOp × TExpr)) (run : Tables → Run Val) (old new : List Instr) → length more ≤ n → Leads seen is to run old new → Leads seen is to (λ t. trees.joints (run t) (trees.parts t (drop n more))) old new
joint_start seen is to n more run old new le p = λ low. nothing (drop n more) (w.nothing_left more n le) (p low)
  where
    nothing : (rest : List (LogicalOp × TExpr)) → rest ≡ [] → Asks seen is (length old - to) run old new → Asks seen is (length old - to) (λ t. trees.joints (run t) (trees.parts t rest)) old new
    nothing rest none p = rw none p
