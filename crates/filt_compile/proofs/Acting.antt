-- What code comes to that does what statements do, a piece in front of another.
use Rattle.std.proofs.Common.{◌≡◌, ℕ, suc, zero, ◌+◌, ◌-◌, ◌<◌, ◌≤◌, Bool, true, false, List, [], ◌∷◌, ◌++◌, map, reverse, length, take, drop, Option, Some, Result, Ok, Err, refl, sym, ap, ◌∙◌, arith, length-append, append_assoc, Vec}
use Rattle.std.proofs.lemmas.List.{append-nil, length-take, length-map, length-set}
use Rattle.std.proofs.lemmas.Option.{slice_get_past}
use Rattle.std.proofs.Math.ListN.{get_or}
use Rattle.std.specs.Prelude.{slice_get, slice_set, nat_lt, if◌then◌else◌}
use Rattle.std.specs.Global.{Global}
use Rattle.filt_meaning.specs.declared.tree.TExpr.TheVariants as e
use Rattle.std.proofs.lemmas.List.{length-reverse}
use Rattle.filt_compile.specs.Emits.{ahead}
use Rattle.attrs.specs.declared.attributes.Attrs.{Attrs}
use Rattle.conf_ast.specs.declared.attribute.Attribute.{Attribute}
use Rattle.filt_meaning.specs.declared.value.Failure.{Failure}
use Rattle.filt_meaning.specs.declared.value.Sort.{Sort}
use Rattle.filt_meaning.specs.Operators.{bool_in}
use Rattle.filt_meaning.specs.Values.{Val, default_of}
use Rattle.filt_meaning.specs.Attributes.{with_attribute, without_attribute}
use Rattle.filt_meaning.specs.Flow.{Returned, Stuck, Why, Flow, Done, Stopped, Frame, Run, and_then, plainly}
use Rattle.filt_meaning.specs.Meaning as m
use Rattle.filt_meaning.specs.Meaning.{Act}
use Rattle.filt_meaning.specs.Names.{Doing}
use Rattle.filt_meaning.specs.declared.tree.TExpr.{TExpr}
use Rattle.filt_meaning.specs.declared.tree.TStmt.{TStmt}
use Rattle.filt_meaning.specs.declared.tree.TTarget.{TTarget}
use Rattle.filt_meaning.specs.declared.tree.TTarget.TheVariants as targets
use Rattle.filt_meaning.specs.declared.tree.TTest.{TTest}
use Rattle.filt_meaning.specs.Trees as trees
use Rattle.filt_meaning.specs.Trees.{Tables}
use Rattle.filt_code.specs.declared.instr.Effect.TheVariants as effects
use Rattle.filt_code.specs.declared.instr.Instr.{Instr}
use Rattle.filt_code.specs.declared.instr.Instr.TheVariants as instrs
use Rattle.filt_code.specs.declared.instr.Question.TheVariants as questions
use Rattle.filt_code.specs.Codes.{Setting, mean, jump_where, over}
use Rattle.filt_compile.specs.declared.seen.Seen.{Seen}
use Rattle.filt_compile.specs.Emits.{Acts, Asks, Declares, Leads, Leaves, Puts, PutsAll, Runs, Sets, tables_of}
use Rattle.filt_compile.proofs.Emitting as em
use Rattle.filt_compile.proofs.Emitting.{passed_by, further}
use Rattle.filt_compile.proofs.Seeing.{seen_count}
use Rattle.filt_compile.proofs.Walk as w

-- ---- conditions

pub value_asks : (seen : Seen) (is : Bool) (n : ℕ) (run : Tables → Run Val) (old mid new : List Instr) → mid ≡ instrs.JumpIf is n ∷ old → Puts seen run mid new → Asks seen is n run old new
value_asks seen is n run old mid new front p = record {
  code = p.code ++ instrs.JumpIf is n ∷ [];
  grows = further new mid old p.code (instrs.JumpIf is n ∷ []) p.grows front;
  means = λ s few vals os attrs. p.means s few vals os attrs ∙ ap (λ (code : List Instr). and_then (run (tables_of seen s) vals attrs) (λ v attrs. mean s code 0 vals (v ∷ os) attrs)) front;
}

pub asks_as : (seen : Seen) (is : Bool) (n : ℕ) (run other : Tables → Run Val) (old new : List Instr) → ((t : Tables) (vals : Frame) (attrs : Attrs) → other t vals attrs ≡ run t vals attrs) → Asks seen is n run old new → Asks seen is n other old new
asks_as seen is n run other old new same p = record {
  code = p.code;
  grows = p.grows;
  means = λ s few vals os attrs. p.means s few vals os attrs ∙ sym (ap (λ (f : Flow Val). and_then f (λ v attrs. and_then (plainly (bool_in v) attrs) (λ b attrs. mean s old (jump_where is n b) vals os attrs))) (same (tables_of seen s) vals attrs));
}

pub test_asks : (seen : Seen) (is : Bool) (n : ℕ) (what : TTest) (old new : List Instr) → new ≡ instrs.JumpIfAsked is (questions.Test what) n ∷ old → Asks seen is n (λ t. trees.test t.around what) old new
test_asks seen is n what old new front = record {
  code = instrs.JumpIfAsked is (questions.Test what) n ∷ [];
  grows = front;
  means = λ s few vals os attrs. ap (λ (code : List Instr). mean s code 0 vals os attrs) front;
}

pub defined_asks : (seen : Seen) (is : Bool) (n : ℕ) (a : Attribute) (old new : List Instr) → new ≡ instrs.JumpIfAsked is (questions.Defined a) n ∷ old → Asks seen is n (λ t. m.defined a) old new
defined_asks seen is n a old new front = record {
  code = instrs.JumpIfAsked is (questions.Defined a) n ∷ [];
  grows = front;
  means = λ s few vals os attrs. ap (λ (code : List Instr). mean s code 0 vals os attrs) front;
}

-- ---- statements of one instruction, and in turn

pub acts_as : (seen : Seen) (run other : Tables → Act) (old new : List Instr) → ((t : Tables) (vals : Frame) (attrs : Attrs) → other t vals attrs ≡ run t vals attrs) → Acts seen run old new → Acts seen other old new
acts_as seen run other old new same p = record {
  code = p.code;
  grows = p.grows;
  means = λ s few vals attrs. p.means s few vals attrs ∙ sym (ap (λ (f : Flow Frame). and_then f (λ after attrs. mean s old 0 after [] attrs)) (same (tables_of seen s) vals attrs));
  keeps = λ t vals attrs. leaves_as (length vals) (other t vals attrs) (run t vals attrs) (same t vals attrs) (p.keeps t vals attrs);
}
  where
    leaves_as : (n : ℕ) (flow given : Flow Frame) → flow ≡ given → Leaves n given → Leaves n flow
    leaves_as n flow given is h = rw is h

pub acts_nothing : (seen : Seen) (old : List Instr) → Acts seen (λ t. m.nothing) old old
acts_nothing seen old = record { code = []; grows = refl; means = λ s few vals attrs. refl; keeps = λ t vals attrs. refl }

pub acts_stop : (seen : Seen) (i : Instr) (why : Why) (old new : List Instr) → new ≡ i ∷ old → ((s : Setting) (vals : Frame) (attrs : Attrs) → mean s (i ∷ old) 0 vals [] attrs ≡ Stopped why attrs) → Acts seen (λ t. m.stop why) old new
acts_stop seen i why old new front stops = record {
  code = i ∷ [];
  grows = front;
  means = λ s few vals attrs. ap (λ (code : List Instr). mean s code 0 vals [] attrs) front ∙ stops s vals attrs;
  keeps = λ t vals attrs. tt;
}

set_attributes_leave : (n : ℕ) (vals : Frame) (r : Result Attrs Failure) (attrs : Attrs) → length vals ≡ n → Leaves n (m.set_attributes vals r attrs)
set_attributes_leave n vals (Ok after) attrs long = long
set_attributes_leave n vals (Err failure) attrs long = tt

over_then : (flow : Flow Frame) (next : Frame → List Val → Attrs → Flow Frame) → and_then {A = Frame × List Val} (over [] flow) (λ held attrs. next held.0 held.1 attrs) ≡ and_then flow (λ vals attrs. next vals [] attrs)
over_then (Done vals attrs) next = refl
over_then (Stopped why attrs) next = refl

pub acts_unset : (seen : Seen) (a : Attribute) (old new : List Instr) → new ≡ instrs.Do (effects.Unset a) ∷ old → Acts seen (λ t. m.unset a) old new
acts_unset seen a old new front = record {
  code = instrs.Do (effects.Unset a) ∷ [];
  grows = front;
  means = λ s few vals attrs. ap (λ (code : List Instr). mean s code 0 vals [] attrs) front ∙ over_then (m.unset a vals attrs) (mean s old 0);
  keeps = λ t vals attrs. set_attributes_leave (length vals) vals (without_attribute a attrs) attrs refl;
}

turn_then : (flow : Flow Frame) (first second : Frame → Attrs → Flow Frame) (next : Frame → Attrs → Flow Frame) → ((after : Frame) (attrs : Attrs) → first after attrs ≡ and_then (second after attrs) next) → and_then flow first ≡ and_then (and_then flow second) next
turn_then (Done after attrs) first second next same = same after attrs
turn_then (Stopped why attrs) first second next same = refl

turn_leaves : (n : ℕ) (flow : Flow Frame) (second : Frame → Attrs → Flow Frame) → Leaves n flow → ((after : Frame) (attrs : Attrs) → length after ≡ n → Leaves n (second after attrs)) → Leaves n (and_then flow second)
turn_leaves n (Done after attrs) second long keeps = keeps after attrs long
turn_leaves n (Stopped why attrs) second long keeps = tt

leaves_at : (n k : ℕ) (flow : Flow Frame) → n ≡ k → Leaves n flow → Leaves k flow
leaves_at n k flow is h = rw (← is) h

pub acts_more : (seen : Seen) (st : TStmt) (ss : List TStmt) (old mid new : List Instr) → Acts seen (λ t. trees.body t ss) old mid → Acts seen (λ t. trees.stmt st t) mid new → Acts seen (λ t. trees.body t (st ∷ ss)) old new
acts_more seen st ss old mid new p q = record {
  code = q.code ++ p.code;
  grows = further new mid old q.code p.code q.grows p.grows;
  means = λ s few vals attrs. q.means s few vals attrs ∙ turn_then (trees.stmt st (tables_of seen s) vals attrs) (λ after attrs. mean s mid 0 after [] attrs) (trees.body (tables_of seen s) ss) (λ after attrs. mean s old 0 after [] attrs) (p.means s few);
  keeps = λ t vals attrs. turn_leaves (length vals) (trees.stmt st t vals attrs) (trees.body t ss) (q.keeps t vals attrs) (λ after attrs long. leaves_at (length after) (length vals) (trees.body t ss after attrs) long (p.keeps t after attrs));
}

body_parts : (seen : Seen) (xs ys : List TStmt) (old new : List Instr) → xs ≡ ys → Acts seen (λ t. trees.body t ys) old new → Acts seen (λ t. trees.body t xs) old new
body_parts seen xs ys old new is p = rw is p

pub acts_start : (seen : Seen) (ss : List TStmt) (n : ℕ) (old : List Instr) → length ss ≤ n → Acts seen (λ t. trees.body t (drop n ss)) old old
acts_start seen ss n old le = body_parts seen (drop n ss) [] old old (w.nothing_left ss n le) (acts_nothing seen old)

pub acts_at : (seen : Seen) (ss : List TStmt) (n : ℕ) (x : TStmt) (old mid new : List Instr) → 0 < n → n ≤ length ss → x ≡ get_or ss (n - 1) x → Acts seen (λ t. trees.body t (drop n ss)) old mid → Acts seen (λ t. trees.stmt x t) mid new → Acts seen (λ t. trees.body t (drop (n - 1) ss)) old new
acts_at seen ss n x old mid new some low at p q =
    let k : n - 1 + 1 ≡ n = omega (arith, some) in
    body_parts seen (drop (n - 1) ss) (x ∷ drop n ss) old new (w.next_item ss (n - 1) x (omega (arith, some, low)) at ∙ ap (λ (i : ℕ). x ∷ drop i ss) k) (acts_more seen x (drop n ss) old mid new p q)

pub acts_end : (seen : Seen) (ss : List TStmt) (n : ℕ) (old new : List Instr) → n ≤ 0 → Acts seen (λ t. trees.body t (drop n ss)) old new → Acts seen (λ t. trees.body t ss) old new
acts_end seen ss zero old new le p = p
acts_end seen ss (suc n) old new le p = absurd (omega (arith, le))

-- ---- assignments

pub sets_local : (place : ℕ) (old new : List Instr) → new ≡ instrs.Do (effects.Store place) ∷ old → Sets (targets.Local place) old new
sets_local place old new front = record {
  code = instrs.Do (effects.Store place) ∷ [];
  grows = front;
  means = λ s v vals attrs. ap (λ (code : List Instr). mean s code 0 vals (v ∷ []) attrs) front ∙ over_then (m.set_variable (Some place) v vals attrs) (mean s old 0);
}

pub sets_attribute : (a : Attribute) (old new : List Instr) → new ≡ instrs.Do (effects.Assign a) ∷ old → Sets (targets.Attribute a) old new
sets_attribute a old new front = record {
  code = instrs.Do (effects.Assign a) ∷ [];
  grows = front;
  means = λ s v vals attrs. ap (λ (code : List Instr). mean s code 0 vals (v ∷ []) attrs) front ∙ over_then (m.set_attributes vals (with_attribute a v attrs) attrs) (mean s old 0);
}

pub sets_nowhere : (old new : List Instr) → new ≡ instrs.Stuck ∷ old → Sets targets.Nowhere old new
sets_nowhere old new front = record {
  code = instrs.Stuck ∷ [];
  grows = front;
  means = λ s v vals attrs. ap (λ (code : List Instr). mean s code 0 vals (v ∷ []) attrs) front;
}

pub sets_as : (target other : TTarget) (old new : List Instr) → target ≡ other → Sets other old new → Sets target old new
sets_as target other old new is p = rw is p

set_leaves : (n place : ℕ) (v : Val) (vals : Frame) (attrs : Attrs) (lt : Bool) → length vals ≡ n → Leaves n (if lt then Done (slice_set vals place v) attrs else Stopped Stuck attrs)
set_leaves n place v vals attrs true long = length-set vals place v ∙ long
set_leaves n place v vals attrs false long = tt

place_leaves : (n : ℕ) (target : TTarget) (v : Val) (vals : Frame) (attrs : Attrs) → length vals ≡ n → Leaves n (trees.set_place target v vals attrs)
place_leaves n (targets.Local place) v vals attrs long = set_leaves n place v vals attrs (nat_lt place (length vals)) long
place_leaves n (targets.Attribute a) v vals attrs long = set_attributes_leave n vals (with_attribute a v attrs) attrs long
place_leaves n targets.Nowhere v vals attrs long = tt

assign_then : (flow : Flow Val) (first : Val → Attrs → Flow Frame) (set : Val → Attrs → Flow Frame) (next : Frame → Attrs → Flow Frame) → ((v : Val) (attrs : Attrs) → first v attrs ≡ and_then (set v attrs) next) → and_then flow first ≡ and_then (and_then flow set) next
assign_then (Done v attrs) first set next same = same v attrs
assign_then (Stopped why attrs) first set next same = refl

pub given_leaves : {A : Type 0} (n : ℕ) (flow : Flow A) (next : A → Attrs → Flow Frame) → ((a : A) (attrs : Attrs) → Leaves n (next a attrs)) → Leaves n (and_then flow next)
given_leaves n (Done a attrs) next keeps = keeps a attrs
given_leaves n (Stopped why attrs) next keeps = tt

pub acts_assign : (seen : Seen) (target : TTarget) (x : TExpr) (old mid new : List Instr) → Sets target old mid → Puts seen (λ t. trees.expr x t) mid new → Acts seen (λ t. trees.assign target (trees.expr x t)) old new
acts_assign seen target x old mid new p q = record {
  code = q.code ++ p.code;
  grows = further new mid old q.code p.code q.grows p.grows;
  means = λ s few vals attrs. q.means s few vals [] attrs ∙ assign_then (trees.expr x (tables_of seen s) vals attrs) (λ v attrs. mean s mid 0 vals (v ∷ []) attrs) (λ v attrs. trees.set_place target v vals attrs) (λ after attrs. mean s old 0 after [] attrs) (λ v attrs. p.means s v vals attrs);
  keeps = λ t vals attrs. given_leaves (length vals) (trees.expr x t vals attrs) (λ v attrs. trees.set_place target v vals attrs) (λ v attrs. place_leaves (length vals) target v vals attrs refl);
}

-- ---- `if`

-- what is done where a condition holds or doesn't
asked_then : (flow : Flow Val) (first : Bool → Attrs → Flow Frame) (second : Bool → Attrs → Flow Frame) (next : Frame → Attrs → Flow Frame) → ((b : Bool) (attrs : Attrs) → first b attrs ≡ and_then (second b attrs) next) → and_then flow (λ v attrs. and_then (plainly (bool_in v) attrs) first) ≡ and_then (and_then flow (λ v attrs. and_then (plainly (bool_in v) attrs) second)) next
asked_then (Done v attrs) first second next same = held_then (bool_in v) attrs first second next same
  where
    held_then : (r : Result Bool Failure) (attrs : Attrs) (first second : Bool → Attrs → Flow Frame) (next : Frame → Attrs → Flow Frame) → ((b : Bool) (attrs : Attrs) → first b attrs ≡ and_then (second b attrs) next) → and_then (plainly r attrs) first ≡ and_then (and_then (plainly r attrs) second) next
    held_then (Ok b) attrs first second next same = same b attrs
    held_then (Err failure) attrs first second next same = refl
asked_then (Stopped why attrs) first second next same = refl

choose_leaves : (n : ℕ) (b : Bool) (first second : Act) (vals : Frame) (attrs : Attrs) → Leaves n (first vals attrs) → Leaves n (second vals attrs) → Leaves n (m.choose b first second vals attrs)
choose_leaves n true first second vals attrs one two = one
choose_leaves n false first second vals attrs one two = two

choice_leaves : (n : ℕ) (a : Run Val) (first second : Act) (vals : Frame) (attrs : Attrs) → ((attrs : Attrs) → Leaves n (first vals attrs)) → ((attrs : Attrs) → Leaves n (second vals attrs)) → Leaves n (m.choice a first second vals attrs)
choice_leaves n a first second vals attrs one two =
    given_leaves n (a vals attrs) (λ v attrs. and_then (plainly (bool_in v) attrs) (λ holds attrs. m.choose holds first second vals attrs)) (λ v attrs. given_leaves n (plainly (bool_in v) attrs) (λ holds attrs. m.choose holds first second vals attrs) (λ b attrs. choose_leaves n b first second vals attrs (one attrs) (two attrs)))

pub acts_if : (seen : Seen) (to : ℕ) (x : TExpr) (st : TStmt) (old mid new : List Instr) → Acts seen (λ t. trees.stmt st t) old mid → to ≡ length old → Leads seen false to (λ t. trees.expr x t) mid new → Acts seen (λ t. m.choice (trees.expr x t) (trees.stmt st t) m.nothing) old new
acts_if seen to x st old mid new p far leads =
    let q : Asks seen false (length mid - to) (λ t. trees.expr x t) mid new = leads (omega (arith, far, ap (λ (xs : List Instr). length xs) p.grows, length-append p.code old)) in
    record {
      code = q.code ++ p.code;
      grows = further new mid old q.code p.code q.grows p.grows;
      means = λ s few vals attrs. q.means s few vals [] attrs ∙ asked_then (trees.expr x (tables_of seen s) vals attrs) (λ b attrs. mean s mid (jump_where false (length mid - to) b) vals [] attrs) (λ b attrs. m.choose b (trees.stmt st (tables_of seen s)) m.nothing vals attrs) (λ after attrs. mean s old 0 after [] attrs) (λ b attrs. chosen s vals b attrs (p.means s few vals attrs));
      keeps = λ t vals attrs. choice_leaves (length vals) (trees.expr x t) (trees.stmt st t) m.nothing vals attrs (λ attrs. p.keeps t vals attrs) (λ attrs. refl);
    }
  where
    chosen : (s : Setting) (vals : Frame) (b : Bool) (attrs : Attrs) → mean s mid 0 vals [] attrs ≡ and_then (trees.stmt st (tables_of seen s) vals attrs) (λ after attrs. mean s old 0 after [] attrs) → mean s mid (jump_where false (length mid - to) b) vals [] attrs ≡ and_then (m.choose b (trees.stmt st (tables_of seen s)) m.nothing vals attrs) (λ after attrs. mean s old 0 after [] attrs)
    chosen s vals true attrs first = first
    chosen s vals false attrs first = passed_by s mid p.code old (length mid - to) vals [] attrs p.grows (ap (λ (k : ℕ). length mid - k) far)

pub acts_either : (seen : Seen) (k to : ℕ) (x : TExpr) (st other : TStmt) (old a b c new : List Instr) → Acts seen (λ t. trees.stmt other t) old a → k ≡ length a - length old → b ≡ instrs.Jump k ∷ a → Acts seen (λ t. trees.stmt st t) b c → to ≡ length a → Leads seen false to (λ t. trees.expr x t) c new → Acts seen (λ t. m.choice (trees.expr x t) (trees.stmt st t) (trees.stmt other t)) old new
acts_either seen k to x st other old a b c new p near front r far leads =
    let to_a : c ≡ (r.code ++ instrs.Jump k ∷ []) ++ a = further c b a r.code (instrs.Jump k ∷ []) r.grows front in
    let to_old : c ≡ ((r.code ++ instrs.Jump k ∷ []) ++ p.code) ++ old = further c a old (r.code ++ instrs.Jump k ∷ []) p.code to_a p.grows in
    let q : Asks seen false (length c - to) (λ t. trees.expr x t) c new = leads (omega (arith, far, ap (λ (xs : List Instr). length xs) to_a, length-append (r.code ++ instrs.Jump k ∷ []) a)) in
    record {
      code = q.code ++ ((r.code ++ instrs.Jump k ∷ []) ++ p.code);
      grows = further new c old q.code ((r.code ++ instrs.Jump k ∷ []) ++ p.code) q.grows to_old;
      means = λ s few vals attrs. q.means s few vals [] attrs ∙ asked_then (trees.expr x (tables_of seen s) vals attrs) (λ h attrs. mean s c (jump_where false (length c - to) h) vals [] attrs) (λ h attrs. m.choose h (trees.stmt st (tables_of seen s)) (trees.stmt other (tables_of seen s)) vals attrs) (λ after attrs. mean s old 0 after [] attrs) (λ h attrs. chosen s vals h attrs
          (r.means s few vals attrs ∙ ap_then (trees.stmt st (tables_of seen s) vals attrs) (λ after attrs. mean s b 0 after [] attrs) (λ after attrs. mean s old 0 after [] attrs) (λ after attrs. ap (λ (code : List Instr). mean s code 0 after [] attrs) front ∙ passed_by s a p.code old k after [] attrs p.grows near))
          (passed_by s c (r.code ++ instrs.Jump k ∷ []) a (length c - to) vals [] attrs to_a (ap (λ (i : ℕ). length c - i) far) ∙ p.means s few vals attrs));
      keeps = λ t vals attrs. choice_leaves (length vals) (trees.expr x t) (trees.stmt st t) (trees.stmt other t) vals attrs (λ attrs. r.keeps t vals attrs) (λ attrs. p.keeps t vals attrs);
    }
  where
    chosen : (s : Setting) (vals : Frame) (h : Bool) (attrs : Attrs) → mean s c 0 vals [] attrs ≡ and_then (trees.stmt st (tables_of seen s) vals attrs) (λ after attrs. mean s old 0 after [] attrs) → mean s c (length c - to) vals [] attrs ≡ and_then (trees.stmt other (tables_of seen s) vals attrs) (λ after attrs. mean s old 0 after [] attrs) → mean s c (jump_where false (length c - to) h) vals [] attrs ≡ and_then (m.choose h (trees.stmt st (tables_of seen s)) (trees.stmt other (tables_of seen s)) vals attrs) (λ after attrs. mean s old 0 after [] attrs)
    chosen s vals true attrs first second = first
    chosen s vals false attrs first second = second

    ap_then : (flow : Flow Frame) (f g : Frame → Attrs → Flow Frame) → ((after : Frame) (attrs : Attrs) → f after attrs ≡ g after attrs) → and_then flow f ≡ and_then flow g
    ap_then (Done after attrs) f g same = same after attrs
    ap_then (Stopped why attrs) f g same = refl

-- ---- blocks

pub declares_start : (sorts : List Sort) (n : ℕ) (old : List Instr) → length sorts ≤ n → Declares (drop n sorts) old old
declares_start sorts n old le = declares_parts (drop n sorts) [] old old (w.nothing_left sorts n le) (record { code = []; grows = refl; means = λ s vals os attrs. ap (λ (vals : Frame). mean s old 0 vals os attrs) (sym (append-nil vals)) })
  where
    declares_parts : (xs ys : List Sort) (old new : List Instr) → xs ≡ ys → Declares ys old new → Declares xs old new
    declares_parts xs ys old new is p = rw is p

declares_more : (sort : Sort) (sorts : List Sort) (old mid new : List Instr) → Declares sorts old mid → new ≡ instrs.Do (effects.Declare sort) ∷ mid → Declares (sort ∷ sorts) old new
declares_more sort sorts old mid new p front = record {
  code = instrs.Do (effects.Declare sort) ∷ p.code;
  grows = front ∙ ap (λ (code : List Instr). instrs.Do (effects.Declare sort) ∷ code) p.grows;
  means = λ s vals os attrs. ap (λ (code : List Instr). mean s code 0 vals os attrs) front ∙ p.means s (vals ++ default_of sort ∷ []) os attrs ∙ ap (λ (vals : Frame). mean s old 0 vals os attrs) (append_assoc vals (default_of sort ∷ []) (map default_of sorts));
}

pub declares_at : (sorts : List Sort) (n : ℕ) (x : Sort) (old mid new : List Instr) → 0 < n → n ≤ length sorts → x ≡ get_or sorts (n - 1) x → Declares (drop n sorts) old mid → new ≡ instrs.Do (effects.Declare x) ∷ mid → Declares (drop (n - 1) sorts) old new
declares_at sorts n x old mid new some low at p front =
    let k : n - 1 + 1 ≡ n = omega (arith, some) in
    parts (drop (n - 1) sorts) (x ∷ drop n sorts) (w.next_item sorts (n - 1) x (omega (arith, some, low)) at ∙ ap (λ (i : ℕ). x ∷ drop i sorts) k) (declares_more x (drop n sorts) old mid new p front)
  where
    parts : (xs ys : List Sort) → xs ≡ ys → Declares ys old new → Declares xs old new
    parts xs ys is p = rw is p

pub declares_end : (sorts : List Sort) (n : ℕ) (old new : List Instr) → n ≤ 0 → Declares (drop n sorts) old new → Declares sorts old new
declares_end sorts zero old new le p = p
declares_end sorts (suc n) old new le p = absurd (omega (arith, le))

longer : (vals : Frame) (sorts : List Sort) → length (vals ++ map default_of sorts) ≡ length vals + length sorts
longer vals sorts = omega (arith, length-append vals (map default_of sorts), length-map sorts default_of)

pub runs_block : (seen : Seen) (sorts : List Sort) (ss : List TStmt) (old mid new : List Instr) → Acts seen (λ t. trees.body t ss) old mid → Declares sorts mid new → Runs seen sorts (λ t. trees.body t ss) old new
runs_block seen sorts ss old mid new p q = record {
  code = q.code ++ p.code;
  grows = further new mid old q.code p.code q.grows p.grows;
  means = λ s few vals attrs. q.means s vals [] attrs ∙ p.means s few (vals ++ map default_of sorts) attrs;
  keeps = λ t vals attrs. leaves_at (length (vals ++ map default_of sorts)) (length vals + length sorts) (trees.body t ss (vals ++ map default_of sorts) attrs) (longer vals sorts) (p.keeps t (vals ++ map default_of sorts) attrs);
}

leave_then : (n more count : ℕ) (s : Setting) (flow : Flow Frame) (old mid : List Instr) → count ≡ more → mid ≡ instrs.Do (effects.Leave count) ∷ old → Leaves (n + more) flow → and_then flow (λ after attrs. mean s mid 0 after [] attrs) ≡ and_then (and_then flow (λ after attrs. Done (take n after) attrs)) (λ after attrs. mean s old 0 after [] attrs)
leave_then n more count s (Done after attrs) old mid is front long =
    let e : length after - count ≡ n = omega (arith, long, is) in
    ap (λ (code : List Instr). mean s code 0 after [] attrs) front ∙ ap (λ (k : ℕ). mean s old 0 (take k after) [] attrs) e
leave_then n more count s (Stopped why attrs) old mid is front long = refl

taken_leaves : (n more : ℕ) (flow : Flow Frame) → Leaves (n + more) flow → Leaves n (and_then flow (λ after attrs. Done (take n after) attrs))
taken_leaves n more (Done after attrs) long = omega (arith, length-take n after, long)
taken_leaves n more (Stopped why attrs) long = tt

-- a block's statements, and that its variables are gone
abbrev pub in_block : List Sort → List TStmt → Tables → Act
in_block sorts ss t vals attrs = and_then (trees.run t sorts ss vals attrs) (λ after attrs. Done (take (length vals) after) attrs)

pub acts_block : (seen : Seen) (count : ℕ) (sorts : List Sort) (ss : List TStmt) (old mid new : List Instr) → count ≡ length sorts → mid ≡ instrs.Do (effects.Leave count) ∷ old → Runs seen sorts (λ t. trees.body t ss) mid new → Acts seen (in_block sorts ss) old new
acts_block seen count sorts ss old mid new is front p = record {
  code = p.code ++ instrs.Do (effects.Leave count) ∷ [];
  grows = further new mid old p.code (instrs.Do (effects.Leave count) ∷ []) p.grows front;
  means = λ s few vals attrs. p.means s few vals attrs ∙ leave_then (length vals) (length sorts) count s (trees.run (tables_of seen s) sorts ss vals attrs) old mid is front (p.keeps (tables_of seen s) vals attrs);
  keeps = λ t vals attrs. taken_leaves (length vals) (length sorts) (trees.run t sorts ss vals attrs) (p.keeps t vals attrs);
}

-- ---- `return`, `print`, calls

give_then : (s : Setting) (flow : Flow Val) (vals : Frame) (old mid : List Instr) → mid ≡ instrs.Return ∷ old → and_then flow (λ v attrs. mean s mid 0 vals (v ∷ []) attrs) ≡ and_then (and_then flow (λ v attrs. Stopped (Returned v) attrs)) (λ after attrs. mean s old 0 after [] attrs)
give_then s (Done v attrs) vals old mid front = ap (λ (code : List Instr). mean s code 0 vals (v ∷ []) attrs) front
give_then s (Stopped why attrs) vals old mid front = refl

pub acts_give : (seen : Seen) (x : TExpr) (old mid new : List Instr) → mid ≡ instrs.Return ∷ old → Puts seen (λ t. trees.expr x t) mid new → Acts seen (λ t. m.give (trees.expr x t)) old new
acts_give seen x old mid new front p = record {
  code = p.code ++ instrs.Return ∷ [];
  grows = further new mid old p.code (instrs.Return ∷ []) p.grows front;
  means = λ s few vals attrs. p.means s few vals [] attrs ∙ give_then s (trees.expr x (tables_of seen s) vals attrs) vals old mid front;
  keeps = λ t vals attrs. given_leaves (length vals) (trees.expr x t vals attrs) (λ v attrs. Stopped (Returned v) attrs) (λ v attrs. tt);
}

drop_then : (s : Setting) (vals : Frame) (flow : Flow Val) (rest : Attrs → Flow Frame) (old mid front : List Instr) → front ≡ instrs.Do effects.Discard ∷ mid → ((attrs : Attrs) → mean s mid 0 vals [] attrs ≡ and_then (and_then (rest attrs) (λ vs attrs. Done vals attrs)) (λ after attrs. mean s old 0 after [] attrs)) → and_then flow (λ v attrs. mean s front 0 vals (v ∷ []) attrs) ≡ and_then (and_then (and_then flow (λ v attrs. and_then (rest attrs) (λ vs attrs. Done (v ∷ vs) attrs))) (λ vs attrs. Done vals attrs)) (λ after attrs. mean s old 0 after [] attrs)
drop_then s vals (Done v attrs) rest old mid front is same = ap (λ (code : List Instr). mean s code 0 vals (v ∷ []) attrs) is ∙ same attrs ∙ ap (λ (f : Flow Frame). and_then f (λ after attrs. mean s old 0 after [] attrs)) (further_then (rest attrs) v)
  where
    further_then : (flow : Flow Frame) (v : Val) → and_then flow (λ vs attrs. Done vals attrs) ≡ and_then (and_then flow (λ vs attrs. Done (v ∷ vs) attrs)) (λ vs attrs. Done vals attrs)
    further_then (Done vs attrs) v = refl
    further_then (Stopped why attrs) v = refl
drop_then s vals (Stopped why attrs) rest old mid front is same = refl

evaluate_leaves : {A : Type 0} (n : ℕ) (a : Run A) (vals : Frame) (attrs : Attrs) → length vals ≡ n → Leaves n (m.evaluate a vals attrs)
evaluate_leaves n a vals attrs long = given_leaves n (a vals attrs) (λ v attrs. Done vals attrs) (λ v attrs. long)

abbrev pub Printed : Seen → List TExpr → (old new : List Instr) → Type 0
Printed seen es old new = Acts seen (λ t. m.evaluate (trees.all_values (trees.exprs t es))) old new

printed_parts : (seen : Seen) (xs ys : List TExpr) (old new : List Instr) → xs ≡ ys → Printed seen ys old new → Printed seen xs old new
printed_parts seen xs ys old new is p = rw is p

pub printed_start : (seen : Seen) (es : List TExpr) (n : ℕ) (old : List Instr) → length es ≤ n → Printed seen (drop n es) old old
printed_start seen es n old le = printed_parts seen (drop n es) [] old old (w.nothing_left es n le) (record { code = []; grows = refl; means = λ s few vals attrs. refl; keeps = λ t vals attrs. refl })

printed_more : (seen : Seen) (x : TExpr) (es : List TExpr) (old mid front new : List Instr) → Printed seen es old mid → front ≡ instrs.Do effects.Discard ∷ mid → Puts seen (λ t. trees.expr x t) front new → Printed seen (x ∷ es) old new
printed_more seen x es old mid front new p is q = record {
  code = q.code ++ instrs.Do effects.Discard ∷ p.code;
  grows = further new front old q.code (instrs.Do effects.Discard ∷ p.code) q.grows (is ∙ ap (λ (code : List Instr). instrs.Do effects.Discard ∷ code) p.grows);
  means = λ s few vals attrs. q.means s few vals [] attrs ∙ drop_then s vals (trees.expr x (tables_of seen s) vals attrs) (λ attrs. trees.all_values (trees.exprs (tables_of seen s) es) vals attrs) old mid front is (λ attrs. p.means s few vals attrs);
  keeps = λ t vals attrs. evaluate_leaves (length vals) (trees.all_values (trees.exprs t (x ∷ es))) vals attrs refl;
}

pub printed_at : (seen : Seen) (es : List TExpr) (n : ℕ) (x : TExpr) (old mid front new : List Instr) → 0 < n → n ≤ length es → x ≡ get_or es (n - 1) x → Printed seen (drop n es) old mid → front ≡ instrs.Do effects.Discard ∷ mid → Puts seen (λ t. trees.expr x t) front new → Printed seen (drop (n - 1) es) old new
printed_at seen es n x old mid front new some low at p is q =
    let k : n - 1 + 1 ≡ n = omega (arith, some) in
    printed_parts seen (drop (n - 1) es) (x ∷ drop n es) old new (w.next_item es (n - 1) x (omega (arith, some, low)) at ∙ ap (λ (i : ℕ). x ∷ drop i es) k) (printed_more seen x (drop n es) old mid front new p is q)

pub printed_end : (seen : Seen) (es : List TExpr) (n : ℕ) (old new : List Instr) → n ≤ 0 → Printed seen (drop n es) old new → Printed seen es old new
printed_end seen es zero old new le p = p
printed_end seen es (suc n) old new le p = absurd (omega (arith, le))

perform_then : (s : Setting) (f : Doing) (n : ℕ) (old : List Instr) (vals : Frame) (arguments : Flow Frame) → em.Counted n arguments → and_then arguments (λ vs attrs. and_then (f (reverse (take n (reverse vs ++ []))) attrs) (λ result attrs. mean s old 0 vals (drop n (reverse vs ++ [])) attrs)) ≡ and_then (and_then (and_then arguments f) (λ result attrs. Done vals attrs)) (λ after attrs. mean s old 0 after [] attrs)
perform_then s f n old vals (Done vs attrs) is =
    ap (λ (ws : List Val). and_then (f ws attrs) (λ result attrs. mean s old 0 vals (drop n (reverse vs ++ [])) attrs)) (em.taken_back vs [] n is)
    ∙ ap (λ (ws : List Val). and_then (f vs attrs) (λ result attrs. mean s old 0 vals ws attrs)) (em.left_under vs [] n is)
    ∙ sym (w.and_then_assoc (f vs attrs) (λ result attrs. Done vals attrs) (λ after attrs. mean s old 0 after [] attrs))
perform_then s f n old vals (Stopped why attrs) is = refl

perform_means : (seen : Seen) (s : Setting) (number n : ℕ) (es : List TExpr) (old : List Instr) (f : Doing) (vals : Frame) (attrs : Attrs) → n ≡ length es → slice_get s.functions number ≡ Some f → and_then (trees.all_values (trees.exprs (tables_of seen s) es) vals attrs) (λ vs attrs. mean s (instrs.Perform number n ∷ old) 0 vals (reverse vs ++ []) attrs) ≡ and_then (m.evaluate (m.call (slice_get s.functions number) (trees.all_values (trees.exprs (tables_of seen s) es))) vals attrs) (λ after attrs. mean s old 0 after [] attrs)
perform_means seen s number n es old f vals attrs is at =
    rw (at, is) (perform_then s f (length es) old vals (trees.all_values (trees.exprs (tables_of seen s) es) vals attrs) (em.values_counted (tables_of seen s) es vals attrs))

pub acts_perform : (seen : Seen) (number n : ℕ) (es : List TExpr) (old mid new : List Instr) → number < length seen.routines.now → n ≡ length es → mid ≡ instrs.Perform number n ∷ old → PutsAll seen (λ t. trees.all_values (trees.exprs t es)) mid new → Acts seen (λ t. m.evaluate (m.call (slice_get t.functions number) (trees.all_values (trees.exprs t es)))) old new
acts_perform seen number n es old mid new lt count is p = record {
  code = p.code ++ instrs.Perform number n ∷ [];
  grows = further new mid old p.code (instrs.Perform number n ∷ []) p.grows is;
  means = λ s few vals attrs. p.means s few vals [] attrs
      ∙ ap (λ (code : List Instr). and_then (trees.all_values (trees.exprs (tables_of seen s) es) vals attrs) (λ vs attrs. mean s code 0 vals (reverse vs ++ []) attrs)) is
      ∙ perform_means seen s number n es old (em.called_by s number (omega (arith, lt, seen_count seen s few))).0 vals attrs count (em.called_by s number (omega (arith, lt, seen_count seen s few))).1;
  keeps = λ t vals attrs. evaluate_leaves (length vals) (m.call (slice_get t.functions number) (trees.all_values (trees.exprs t es))) vals attrs refl;
}

pub no_perform : (seen : Seen) (number : ℕ) (es : List TExpr) (old new : List Instr) → length seen.routines.now ≤ number → new ≡ instrs.Stuck ∷ old → Acts seen (λ t. m.evaluate (m.call (slice_get t.functions number) (trees.all_values (trees.exprs t es)))) old new
no_perform seen number es old new le is = record {
  code = instrs.Stuck ∷ [];
  grows = is;
  means = λ s few vals attrs. ap (λ (code : List Instr). mean s code 0 vals [] attrs) is ∙ sym (ap (λ (d : Option Doing). and_then (m.evaluate (m.call d (trees.all_values (trees.exprs (tables_of seen s) es))) vals attrs) (λ after attrs. mean s old 0 after [] attrs)) (slice_get_past s.functions number (omega (arith, le, seen_count seen s few))));
  keeps = λ t vals attrs. evaluate_leaves (length vals) (m.call (slice_get t.functions number) (trees.all_values (trees.exprs t es))) vals attrs refl;
}

-- ---- `for`

turns_same : (n : ℕ) (vs : List Val) (f g : Act) (vals : Frame) (attrs : Attrs) → length vals ≡ n → ((vals : Frame) (attrs : Attrs) → length vals ≡ n + 1 → f vals attrs ≡ g vals attrs) → ((vals : Frame) (attrs : Attrs) → length vals ≡ n + 1 → Leaves (n + 1) (g vals attrs)) → m.turns n vs f vals attrs ≡ m.turns n vs g vals attrs
turns_same n [] f g vals attrs long same keeps = refl
turns_same n (v ∷ vs) f g vals attrs long same keeps =
    let one : length (vals ++ v ∷ []) ≡ n + 1 = omega (arith, length-append vals (v ∷ []), long) in
    ap (λ (flow : Flow Frame). and_then flow (λ after attrs. m.turns n vs f (take n after) attrs)) (same (vals ++ v ∷ []) attrs one)
    ∙ on (g (vals ++ v ∷ []) attrs) (keeps (vals ++ v ∷ []) attrs one) (λ after attrs shorter. turns_same n vs f g (take n after) attrs shorter same keeps)
  where
    on : (flow : Flow Frame) → Leaves (n + 1) flow → ((after : Frame) (attrs : Attrs) → length (take n after) ≡ n → m.turns n vs f (take n after) attrs ≡ m.turns n vs g (take n after) attrs) → and_then flow (λ after attrs. m.turns n vs f (take n after) attrs) ≡ and_then flow (λ after attrs. m.turns n vs g (take n after) attrs)
    on (Done after attrs) long next = next after attrs (omega (arith, length-take n after, long))
    on (Stopped why attrs) long next = refl

turns_leave : (n : ℕ) (vs : List Val) (g : Act) (vals : Frame) (attrs : Attrs) → length vals ≡ n → ((vals : Frame) (attrs : Attrs) → length vals ≡ n + 1 → Leaves (n + 1) (g vals attrs)) → Leaves n (m.turns n vs g vals attrs)
turns_leave n [] g vals attrs long keeps = long
turns_leave n (v ∷ vs) g vals attrs long keeps =
    let one : length (vals ++ v ∷ []) ≡ n + 1 = omega (arith, length-append vals (v ∷ []), long) in
    on (g (vals ++ v ∷ []) attrs) (keeps (vals ++ v ∷ []) attrs one) (λ after attrs shorter. turns_leave n vs g (take n after) attrs shorter keeps)
  where
    on : (flow : Flow Frame) → Leaves (n + 1) flow → ((after : Frame) (attrs : Attrs) → length (take n after) ≡ n → Leaves n (m.turns n vs g (take n after) attrs)) → Leaves n (and_then flow (λ after attrs. m.turns n vs g (take n after) attrs))
    on (Done after attrs) long next = next after attrs (omega (arith, length-take n after, long))
    on (Stopped why attrs) long next = tt

loop_then : (flow : Flow Val) (first second : List Val → Attrs → Flow Frame) (next : Frame → Attrs → Flow Frame) → ((vs : List Val) (attrs : Attrs) → first vs attrs ≡ and_then (second vs attrs) next) → and_then flow (λ v attrs. and_then (plainly (m.elements v) attrs) first) ≡ and_then (and_then flow (λ v attrs. and_then (plainly (m.elements v) attrs) second)) next
loop_then (Done v attrs) first second next same = held_then (m.elements v) attrs first second next same
  where
    held_then : (r : Result (List Val) Failure) (attrs : Attrs) (first second : List Val → Attrs → Flow Frame) (next : Frame → Attrs → Flow Frame) → ((vs : List Val) (attrs : Attrs) → first vs attrs ≡ and_then (second vs attrs) next) → and_then (plainly r attrs) first ≡ and_then (and_then (plainly r attrs) second) next
    held_then (Ok vs) attrs first second next same = same vs attrs
    held_then (Err failure) attrs first second next same = refl
loop_then (Stopped why attrs) first second next same = refl

turn_is : (s : Setting) (flow : Flow Frame) (old a : List Instr) → a ≡ instrs.EndTurn ∷ old → and_then flow (λ after attrs. mean s a 0 after [] attrs) ≡ flow
turn_is s (Done after attrs) old a front = ap (λ (code : List Instr). mean s code 0 after [] attrs) front
turn_is s (Stopped why attrs) old a front = refl

pub acts_for : (seen : Seen) (n : ℕ) (x : TExpr) (st : TStmt) (old a b c new : List Instr) → a ≡ instrs.EndTurn ∷ old → Acts seen (λ t. trees.stmt st t) a b → n ≡ length b - length old → c ≡ instrs.ForEach n ∷ b → Puts seen (λ t. trees.expr x t) c new → Acts seen (λ t. m.loop (trees.expr x t) (trees.stmt st t)) old new
acts_for seen n x st old a b c new at_end p far front q =
    let to_old : b ≡ (p.code ++ instrs.EndTurn ∷ []) ++ old = further b a old p.code (instrs.EndTurn ∷ []) p.grows at_end in
    record {
      code = q.code ++ instrs.ForEach n ∷ (p.code ++ instrs.EndTurn ∷ []);
      grows = further new c old q.code (instrs.ForEach n ∷ (p.code ++ instrs.EndTurn ∷ [])) q.grows (front ∙ ap (λ (code : List Instr). instrs.ForEach n ∷ code) to_old);
      means = λ s few vals attrs. q.means s few vals [] attrs
          ∙ ap (λ (code : List Instr). and_then (trees.expr x (tables_of seen s) vals attrs) (λ v attrs. mean s code 0 vals (v ∷ []) attrs)) front
          ∙ loop_then (trees.expr x (tables_of seen s) vals attrs) (λ vs attrs. and_then (m.turns (length vals) vs (λ vals attrs. mean s b 0 vals [] attrs) vals attrs) (λ vals attrs. mean s b n vals [] attrs)) (λ vs attrs. m.turns (length vals) vs (trees.stmt st (tables_of seen s)) vals attrs) (λ after attrs. mean s old 0 after [] attrs) (λ vs attrs.
          ap (λ (f : Flow Frame). and_then f (λ vals attrs. mean s b n vals [] attrs)) (turns_same (length vals) vs (λ vals attrs. mean s b 0 vals [] attrs) (trees.stmt st (tables_of seen s)) vals attrs refl (λ vals' attrs more. p.means s few vals' attrs ∙ turn_is s (trees.stmt st (tables_of seen s) vals' attrs) old a at_end) (λ vals' attrs more. leaves_at (length vals') (length vals + 1) (trees.stmt st (tables_of seen s) vals' attrs) more (p.keeps (tables_of seen s) vals' attrs)))
          ∙ then_over s (m.turns (length vals) vs (trees.stmt st (tables_of seen s)) vals attrs) (λ after attrs. passed_by s b (p.code ++ instrs.EndTurn ∷ []) old n after [] attrs to_old far));
      keeps = λ t vals attrs. given_leaves (length vals) (trees.expr x t vals attrs) (λ v attrs. and_then (plainly (m.elements v) attrs) (λ vs attrs. m.turns (length vals) vs (trees.stmt st t) vals attrs)) (λ v attrs. given_leaves (length vals) (plainly (m.elements v) attrs) (λ vs attrs. m.turns (length vals) vs (trees.stmt st t) vals attrs) (λ vs attrs. turns_leave (length vals) vs (trees.stmt st t) vals attrs refl (λ vals' attrs more. leaves_at (length vals') (length vals + 1) (trees.stmt st t vals' attrs) more (p.keeps t vals' attrs))));
    }
  where
    then_over : (s : Setting) (flow : Flow Frame) → ((after : Frame) (attrs : Attrs) → mean s b n after [] attrs ≡ mean s old 0 after [] attrs) → and_then flow (λ vals attrs. mean s b n vals [] attrs) ≡ and_then flow (λ after attrs. mean s old 0 after [] attrs)
    then_over s (Done after attrs) same = same after attrs
    then_over s (Stopped why attrs) same = refl

get_or_any : {A : Type 0} (xs : List A) (i : ℕ) (d e : A) → i < length xs → get_or xs i d ≡ get_or xs i e
get_or_any [] i d e lt = absurd (omega arith)
get_or_any (x ∷ xs) zero d e lt = refl
get_or_any (x ∷ xs) (suc i) d e lt = get_or_any xs i d e (omega arith)

pub declares_or : (sorts : List Sort) (n : ℕ) (d : Sort) (old mid new : List Instr) → 0 < n → n ≤ length sorts → Declares (drop n sorts) old mid → new ≡ instrs.Do (effects.Declare (get_or sorts (n - 1) d)) ∷ mid → Declares (drop (n - 1) sorts) old new
declares_or sorts n d old mid new some low p front = declares_at sorts n (get_or sorts (n - 1) d) old mid new some low (get_or_any sorts (n - 1) d (get_or sorts (n - 1) d) (omega (arith, some, low))) p front

pub length_ahead : (n : ℕ) (out : Vec Instr Global) → n ≡ length out.items → n ≡ length (ahead out)
length_ahead n out is = is ∙ sym (length-reverse out.items)

pub distance_from : (n len before : ℕ) (mid : Vec Instr Global) (old : List Instr) → n ≡ len - before → len ≡ length mid.items → before ≡ length old → n ≡ length (ahead mid) - length old
distance_from n len before mid old is a b = rw (is, a, b, length-reverse mid.items) refl
