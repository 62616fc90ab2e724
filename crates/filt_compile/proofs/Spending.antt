-- What code costs that is emitted from its end: no more than the steps of its tree.
use Rattle.std.proofs.Common.{◌≡◌, ℕ, suc, zero, ◌+◌, ◌-◌, ◌*◌, ◌<◌, ◌≤◌, max, Bool, true, false, List, [], ◌∷◌, ◌++◌, map, reverse, length, drop, Option, Some, refl, ap, ◌∙◌, arith, length-append, Box, Vec}
use Rattle.std.proofs.Math.ListN.{get_or}
use Rattle.std.specs.Prelude.{slice_get}
use Rattle.std.specs.Borrow.{Bor}
use Rattle.std.specs.Global.{Global}
use Rattle.conf_ast.specs.declared.filters.AddOp.{AddOp}
use Rattle.conf_ast.specs.declared.filters.CompareOp.{CompareOp}
use Rattle.conf_ast.specs.declared.filters.LogicalOp.{LogicalOp}
use Rattle.conf_ast.specs.declared.filters.MethodKind.{MethodKind}
use Rattle.conf_ast.specs.declared.filters.MulOp.{MulOp}
use Rattle.filt_meaning.specs.Steps.{arms_steps, body_steps, expr_step, expr_steps, exprs_steps, given_steps, run_steps, stmt_step, stmt_steps, sum, sum_over}
use Rattle.filt_meaning.specs.declared.tree.TAccess.{TAccess}
use Rattle.filt_meaning.specs.declared.tree.TAccess.TheVariants as accesses
use Rattle.filt_meaning.specs.declared.tree.TArm.{TArm}
use Rattle.filt_meaning.specs.declared.tree.TTarget.{TTarget}
use Rattle.filt_compile.specs.declared.seen.Seen.{Seen}
use Rattle.filt_meaning.specs.declared.tree.TExpr.{TExpr}
use Rattle.filt_meaning.specs.declared.tree.TStmt.{TStmt}
use Rattle.filt_meaning.specs.declared.value.Sort.{Sort}
use Rattle.filt_meaning.proofs.Steps.{behind_dot}
use Rattle.filt_meaning.proofs.Forms as forms
use Rattle.filt_meaning.proofs.Steps as st
use Rattle.filt_meaning.specs.declared.fixed.Fixed.{Fixed}
use Rattle.filt_meaning.specs.declared.tree.TTest.{TTest}
use Rattle.conf_ast.specs.declared.attribute.Attribute.{Attribute}
use Rattle.filt_meaning.specs.declared.tree.TExpr.TheVariants as e
use Rattle.filt_meaning.specs.declared.tree.TStmt.TheVariants as s
use Rattle.filt_code.specs.declared.instr.OfTwo.{OfTwo}
use Rattle.filt_code.specs.declared.instr.Effect.{Effect}
use Rattle.filt_code.specs.declared.instr.Effect.TheVariants as effects
use Rattle.filt_code.specs.declared.instr.Instr.{Instr}
use Rattle.filt_code.specs.declared.instr.Instr.TheVariants as instrs
use Rattle.filt_code.specs.declared.instr.OfOne.TheVariants as of_one
use Rattle.filt_code.specs.declared.instr.Question.{Question}
use Rattle.filt_code.specs.declared.instr.OfTwo.TheVariants as of_two
use Rattle.filt_code.specs.Costs.{cost, greatest}
use Rattle.filt_compile.specs.Compiles.{CostAtMost, CostsItsSteps}
use Rattle.filt_compile.specs.Emits.{AddsAtMost, AsksAtMost, Grows, LeadsAtMost, StartAtMost, StartsAtMost, Targets, jumps_to, landing}
use Rattle.filt_compile.specs.Parts.{Part, One, Two, Joined, part_of_access, part_steps, parts_steps, sides_steps, dropped_steps}
use Rattle.filt_compile.proofs.Emitting.{further}
use Rattle.filt_compile.proofs.Walk as w

-- ---- numbers

pub max_at_most : (a b c : ℕ) → a ≤ c → b ≤ c → max a b ≤ c
max_at_most a b c p q = omega (arith, p, q)

-- ---- places

front_costs : (fs : List ℕ) (code old : List Instr) (n k : ℕ) → n ≡ length code + k → cost fs (code ++ old) n ≡ cost fs old k
front_costs fs [] old n k is =
    let e : n ≡ k = omega (arith, is) in
    ap (λ (n : ℕ). cost fs old n) e
front_costs fs (i ∷ code) old zero k is = absurd (omega (arith, is))
front_costs fs (i ∷ code) old (suc n) k is = front_costs fs code old n k (omega (arith, is))

-- a place is told by how much code there is from it on
pub place_costs : (fs : List ℕ) (new code old : List Instr) (n k : ℕ) → new ≡ code ++ old → n + length old ≡ length new + k → cost fs new n ≡ cost fs old k
place_costs fs new code old n k is e =
    ap (λ (xs : List Instr). cost fs xs n) is
    ∙ front_costs fs code old n k (omega (arith, ap (λ (xs : List Instr). length xs) is, length-append code old, e))

-- what is passed over is free
pub passed_costs : (fs : List ℕ) (new code old : List Instr) (n : ℕ) → new ≡ code ++ old → n ≡ length new - length old → cost fs new n ≡ cost fs old 0
passed_costs fs new code old n is e =
    place_costs fs new code old n 0 is (omega (arith, e, ap (λ (xs : List Instr). length xs) is, length-append code old))

pub reached_costs : (fs : List ℕ) (new code old : List Instr) (to : ℕ) → new ≡ code ++ old → to ≤ length old → cost fs new (length new - to) ≡ cost fs old (length old - to)
reached_costs fs new code old to is low =
    place_costs fs new code old (length new - to) (length old - to) is (omega (arith, low, ap (λ (xs : List Instr). length xs) is, length-append code old))

-- ---- one instruction

pub adds_do : (e : Effect) (old new : List Instr) → new ≡ instrs.Do e ∷ old → AddsAtMost (λ called. 1) old new
adds_do e old new is = record {
  within = λ fs called light.
      let h : cost fs new 0 ≡ suc (cost fs old 0) = ap (λ (code : List Instr). cost fs code 0) is in
      omega (arith, h);
}

-- what doesn't go on
pub adds_last : (i : Instr) (old new : List Instr) → new ≡ i ∷ old → ((fs : List ℕ) → cost fs (i ∷ old) 0 ≡ 1) → AddsAtMost (λ called. 1) old new
adds_last i old new is one = record {
  within = λ fs called light. omega (arith, ap (λ (code : List Instr). cost fs code 0) is, one fs);
}

pub adds_none : (old : List Instr) → AddsAtMost (λ called. 0) old old
adds_none old = record { within = λ fs called light. omega arith }

-- ---- joined pieces

pub adds_as : (steps more : (ℕ → ℕ) → ℕ) (old new : List Instr) → ((called : ℕ → ℕ) → steps called ≤ more called) → AddsAtMost steps old new → AddsAtMost more old new
adds_as steps more old new le p = record {
  within = λ fs called light. omega (arith, le called, p.within fs called light);
}

pub adds_both : (first second : (ℕ → ℕ) → ℕ) (old mid new : List Instr) → AddsAtMost second old mid → AddsAtMost first mid new → AddsAtMost (λ called. first called + second called) old new
adds_both first second old mid new p q = record {
  within = λ fs called light. omega (arith, p.within fs called light, q.within fs called light);
}

-- one more from the end of a list
pub adds_more : {A : Type 0} (total : (ℕ → ℕ) → List A → ℕ) (each : (ℕ → ℕ) → A → ℕ) (rest all : List A) (x : A) (old mid new : List Instr) → ((called : ℕ → ℕ) → total called (x ∷ rest) ≡ each called x + total called rest) → all ≡ x ∷ rest → AddsAtMost (λ called. total called rest) old mid → AddsAtMost (λ called. each called x) mid new → AddsAtMost (λ called. total called all) old new
adds_more total each rest all x old mid new step is p q = record {
  within = λ fs called light. omega (arith, ap (λ (xs : List _). total called xs) is, step called, p.within fs called light, q.within fs called light);
}

pub next_is : {A : Type 0} (xs : List A) (n : ℕ) (x : A) → 0 < n → n ≤ length xs → x ≡ get_or xs (n - 1) x → drop (n - 1) xs ≡ x ∷ drop n xs
next_is xs n x some low at =
    let k : n - 1 + 1 ≡ n = omega (arith, some) in
    w.next_item xs (n - 1) x (omega (arith, some, low)) at ∙ ap (λ (i : ℕ). x ∷ drop i xs) k

pub next_or : {A : Type 0} (xs : List A) (n : ℕ) (d : A) → 0 < n → n ≤ length xs → drop (n - 1) xs ≡ get_or xs (n - 1) d ∷ drop n xs
next_or xs n d some low = next_is xs n (get_or xs (n - 1) d) some low (any xs (n - 1) d (get_or xs (n - 1) d) (omega (arith, some, low)))
  where
    any : {A : Type 0} (xs : List A) (i : ℕ) (d e : A) → i < length xs → get_or xs i d ≡ get_or xs i e
    any [] i d e lt = absurd (omega (arith, lt))
    any (x ∷ xs) zero d e lt = refl
    any (x ∷ xs) (suc i) d e lt = any xs i d e (omega (arith, lt))

pub next_found : {A : Type 0} (xs : List A) (n : ℕ) (x : A) → 0 < n → slice_get xs (n - 1) ≡ Some x → drop (n - 1) xs ≡ x ∷ drop n xs
next_found xs n x some at =
    let k : n - 1 + 1 ≡ n = omega (arith, some) in
    w.next_got xs (n - 1) x at ∙ ap (λ (i : ℕ). x ∷ drop i xs) k

pub adds_start : {A : Type 0} (total : (ℕ → ℕ) → List A → ℕ) (xs : List A) (n : ℕ) (old : List Instr) → length xs ≤ n → AddsAtMost (λ called. total called (drop n xs)) old old
adds_start total xs n old le = record { within = λ fs called light. omega arith }

pub adds_end : {A : Type 0} (total : (ℕ → ℕ) → List A → ℕ) (xs : List A) (n : ℕ) (old new : List Instr) → n ≤ 0 → AddsAtMost (λ called. total called (drop n xs)) old new → AddsAtMost (λ called. total called xs) old new
adds_end total xs zero old new le p = p
adds_end total xs (suc n) old new le p = absurd (omega (arith, le))

-- ---- expressions

pub adds_call : (number n : ℕ) (args : (ℕ → ℕ) → ℕ) (old mid new : List Instr) → mid ≡ instrs.Call number n ∷ old → AddsAtMost args mid new → AddsAtMost (λ called. 2 + called number + args called) old new
adds_call number n args old mid new is p = record {
  within = λ fs called light.
      let h : cost fs mid 0 ≡ suc (1 + get_or fs number 0 + cost fs old 0) = ap (λ (code : List Instr). cost fs code 0) is in
      omega (arith, h, light number, p.within fs called light);
}

pub adds_perform : (number n : ℕ) (args : (ℕ → ℕ) → ℕ) (old mid new : List Instr) → mid ≡ instrs.Perform number n ∷ old → AddsAtMost args mid new → AddsAtMost (λ called. 2 + called number + args called) old new
adds_perform number n args old mid new is p = record {
  within = λ fs called light.
      let h : cost fs mid 0 ≡ suc (1 + get_or fs number 0 + cost fs old 0) = ap (λ (code : List Instr). cost fs code 0) is in
      omega (arith, h, light number, p.within fs called light);
}

-- `&&` or `||` behind its left side
pub adds_joint : (joint : LogicalOp) (n : ℕ) (steps : (ℕ → ℕ) → ℕ) (old right mid new code : List Instr) → right ≡ instrs.Do (effects.One of_one.Truth) ∷ old → AddsAtMost steps right mid → mid ≡ code ++ right → n ≡ length mid - length old → new ≡ instrs.JumpIfDecided joint n ∷ mid → AddsAtMost (λ called. 2 + steps called) old new
adds_joint joint n steps old right mid new code truth p grows over front = record {
  within = λ fs called light.
      let a : cost fs right 0 ≡ suc (cost fs old 0) = ap (λ (code : List Instr). cost fs code 0) truth in
      let b : cost fs mid n ≡ cost fs old 0 = passed_costs fs mid (code ++ instrs.Do (effects.One of_one.Truth) ∷ []) old n (further mid right old code (instrs.Do (effects.One of_one.Truth) ∷ []) grows truth) over in
      let c : cost fs new 0 ≡ suc (max (cost fs mid 0) (cost fs mid n)) = ap (λ (code : List Instr). cost fs code 0) front in
      omega (arith, c, max_at_most (cost fs mid 0) (cost fs mid n) (1 + steps called + cost fs old 0) (omega (arith, a, p.within fs called light)) (omega (arith, b)));
}

-- the answer to a question, by two ways to it
pub adds_test : (is : Bool) (q : Question) (a b : Effect) (old one two three four new : List Instr) → one ≡ instrs.Do (effects.One of_one.Not) ∷ old → two ≡ instrs.Do a ∷ one → three ≡ instrs.Jump 2 ∷ two → four ≡ instrs.Do b ∷ three → new ≡ instrs.JumpIfAsked is q 2 ∷ four → AddsAtMost (λ called. 3) old new
adds_test is q a b old one two three four new e f g h i = record {
  within = λ fs called light.
      let whole : new ≡ instrs.JumpIfAsked is q 2 ∷ instrs.Do b ∷ instrs.Jump 2 ∷ instrs.Do a ∷ instrs.Do (effects.One of_one.Not) ∷ old = rw (i, h, g, f, e) refl in
      let c : cost fs new 0 ≡ suc (max (suc (suc (cost fs old 0))) (suc (suc (cost fs old 0)))) = ap (λ (code : List Instr). cost fs code 0) whole in
      omega (arith, c, max_at_most (suc (suc (cost fs old 0))) (suc (suc (cost fs old 0))) (2 + cost fs old 0) (omega arith) (omega arith));
}

-- ---- what forms take

pub same_at_most : {A : Type 0} (f : A → ℕ) (a b : A) → a ≡ b → f b ≤ f a
same_at_most f a b is = omega (arith, ap f is)

pub two_at_most : (called : ℕ → ℕ) (op : OfTwo) (right : TExpr) (part : Part) → part ≡ Two op right → expr_steps called right + 1 ≤ part_steps called part
two_at_most called op right part is =
    let h : part_steps called part ≡ 1 + expr_steps called right = ap (λ (p : Part). part_steps called p) is in
    omega (arith, h)

pub value_steps : (called : ℕ → ℕ) (known : Fixed) (x : TExpr) → x ≡ e.Value known → 1 ≤ expr_steps called x
value_steps called known x is =
    let h : expr_steps called (e.Value known) ≡ 1 = w.of-Value ℕ (expr_step called) known in
    omega (arith, ap (λ (x : TExpr). expr_steps called x) is, h)

pub constant_steps : (called : ℕ → ℕ) (n : ℕ) (x : TExpr) → x ≡ e.Constant n → 1 ≤ expr_steps called x
constant_steps called n x is =
    let h : expr_steps called (e.Constant n) ≡ 1 = w.of-Constant ℕ (expr_step called) n in
    omega (arith, ap (λ (x : TExpr). expr_steps called x) is, h)

pub local_steps : (called : ℕ → ℕ) (n : ℕ) (x : TExpr) → x ≡ e.Local n → 1 ≤ expr_steps called x
local_steps called n x is =
    let h : expr_steps called (e.Local n) ≡ 1 = w.of-Local ℕ (expr_step called) n in
    omega (arith, ap (λ (x : TExpr). expr_steps called x) is, h)

pub attribute_steps : (called : ℕ → ℕ) (a : Attribute) (x : TExpr) → x ≡ e.Attribute a → 1 ≤ expr_steps called x
attribute_steps called a x is =
    let h : expr_steps called (e.Attribute a) ≡ 1 = w.of-Attribute ℕ (expr_step called) a in
    omega (arith, ap (λ (x : TExpr). expr_steps called x) is, h)

pub defined_steps : (called : ℕ → ℕ) (a : Attribute) (x : TExpr) → x ≡ e.Defined a → 1 ≤ expr_steps called x
defined_steps called a x is =
    let h : expr_steps called (e.Defined a) ≡ 1 = w.of-Defined ℕ (expr_step called) a in
    omega (arith, ap (λ (x : TExpr). expr_steps called x) is, h)

pub default_steps : (called : ℕ → ℕ) (sort : Sort) (x : TExpr) → x ≡ e.Default sort → 1 ≤ expr_steps called x
default_steps called sort x is =
    let h : expr_steps called (e.Default sort) ≡ 1 = w.of-Default ℕ (expr_step called) sort in
    omega (arith, ap (λ (x : TExpr). expr_steps called x) is, h)

pub stuck_steps : (called : ℕ → ℕ) (x : TExpr) → x ≡ e.Stuck → 1 ≤ expr_steps called x
stuck_steps called x is =
    let h : expr_steps called e.Stuck ≡ 1 = w.of-Stuck ℕ (expr_step called) in
    omega (arith, ap (λ (x : TExpr). expr_steps called x) is, h)

pub test_steps : (called : ℕ → ℕ) (what : TTest) (x : TExpr) → x ≡ e.Test what → 3 ≤ expr_steps called x
test_steps called what x is =
    let h : expr_steps called (e.Test what) ≡ 3 = forms.of-Test ℕ (expr_step called) what in
    omega (arith, ap (λ (x : TExpr). expr_steps called x) is, h)

pub call_steps : (called : ℕ → ℕ) (number : ℕ) (v : Vec TExpr Global) (x : TExpr) (es : List TExpr) → x ≡ e.Call number v → es ≡ v.items → 2 + called number + exprs_steps called es ≤ expr_steps called x
call_steps called number v x es is same = omega (arith, ap (λ (x : TExpr). expr_steps called x) is, st.steps-Call called number v, ap (λ (es : List TExpr). exprs_steps called es) same)

pub not_steps : (called : ℕ → ℕ) (a : Box TExpr Global) (x first : TExpr) → x ≡ e.Not a → first ≡ a.value → expr_steps called first + parts_steps called (One of_one.Not ∷ []) ≤ expr_steps called x
not_steps called a x first is same = omega (arith, ap (λ (x : TExpr). expr_steps called x) is, st.steps-Not called a, ap (λ (x : TExpr). expr_steps called x) same)

pub empty_steps : (called : ℕ → ℕ) (a : Box TExpr Global) (x first : TExpr) → x ≡ e.Empty a → first ≡ a.value → expr_steps called first + parts_steps called (One of_one.Empty ∷ []) ≤ expr_steps called x
empty_steps called a x first is same = omega (arith, ap (λ (x : TExpr). expr_steps called x) is, st.steps-Empty called a, ap (λ (x : TExpr). expr_steps called x) same)

pub pair_steps : (called : ℕ → ℕ) (a b : Box TExpr Global) (x first second : TExpr) → x ≡ e.Pair a b → first ≡ a.value → second ≡ b.value → expr_steps called first + parts_steps called (Two of_two.Pair second ∷ []) ≤ expr_steps called x
pair_steps called a b x first second is same too = omega (arith, ap (λ (x : TExpr). expr_steps called x) is, st.steps-Pair called a b, ap (λ (x : TExpr). expr_steps called x) same, ap (λ (x : TExpr). expr_steps called x) too)

pub method_steps : (called : ℕ → ℕ) (kind : MethodKind) (a b : Box TExpr Global) (x first second : TExpr) → x ≡ e.Method kind a b → first ≡ a.value → second ≡ b.value → expr_steps called first + parts_steps called (Two (of_two.Method kind) second ∷ []) ≤ expr_steps called x
method_steps called kind a b x first second is same too = omega (arith, ap (λ (x : TExpr). expr_steps called x) is, st.steps-Method called kind a b, ap (λ (x : TExpr). expr_steps called x) same, ap (λ (x : TExpr). expr_steps called x) too)

pub compare_steps : (called : ℕ → ℕ) (op : CompareOp) (a b : Box TExpr Global) (x first second : TExpr) → x ≡ e.Compare op a b → first ≡ a.value → second ≡ b.value → expr_steps called first + parts_steps called (Two (of_two.Compare op) second ∷ []) ≤ expr_steps called x
compare_steps called op a b x first second is same too = omega (arith, ap (λ (x : TExpr). expr_steps called x) is, st.steps-Compare called op a b, ap (λ (x : TExpr). expr_steps called x) same, ap (λ (x : TExpr). expr_steps called x) too)

-- ---- chains

accesses_are : (called : ℕ → ℕ) (more : List (TAccess TExpr)) → parts_steps called (map part_of_access more) ≡ sum_over 1 (map (behind_dot called) more)
accesses_are called [] = refl
accesses_are called (accesses.Property p ∷ more) = omega (arith, accesses_are called more)
accesses_are called (accesses.Method kind x ∷ more) = omega (arith, accesses_are called more)

pub twos_are : {A : Type 0} (called : ℕ → ℕ) (part : A × TExpr → Part) → ((x : A × TExpr) → part_steps called (part x) ≡ 1 + expr_steps called x.1) → (more : List (A × TExpr)) → parts_steps called (map part more) ≡ sum_over 1 (map (λ x. expr_steps called x.1) more)
twos_are called part each [] = refl
twos_are called part each (x ∷ more) = omega (arith, each x, twos_are called part each more)

pub joints_are : (called : ℕ → ℕ) (more : List (LogicalOp × TExpr)) → parts_steps called (map (λ x. Joined x.0 x.1) more) ≡ sides_steps called more
joints_are called [] = refl
joints_are called (x ∷ more) = omega (arith, joints_are called more)

pub access_steps : (called : ℕ → ℕ) (a : Box TExpr Global) (v : Vec (TAccess TExpr) Global) (x first : TExpr) (more : List (TAccess TExpr)) → x ≡ e.Access a v → first ≡ a.value → more ≡ v.items → expr_steps called first + parts_steps called (map part_of_access more) ≤ expr_steps called x
access_steps called a v x first more is same items = omega (arith, ap (λ (x : TExpr). expr_steps called x) is, st.steps-Access called a v, ap (λ (x : TExpr). expr_steps called x) same, ap (λ (xs : List (TAccess TExpr)). parts_steps called (map part_of_access xs)) items, accesses_are called v.items)

pub product_steps : (called : ℕ → ℕ) (a : Box TExpr Global) (v : Vec (MulOp × TExpr) Global) (x first : TExpr) (more : List (MulOp × TExpr)) → x ≡ e.Product a v → first ≡ a.value → more ≡ v.items → expr_steps called first + parts_steps called (map (λ x. Two (of_two.Factor x.0) x.1) more) ≤ expr_steps called x
product_steps called a v x first more is same items = omega (arith, ap (λ (x : TExpr). expr_steps called x) is, st.steps-Product called a v, ap (λ (x : TExpr). expr_steps called x) same, ap (λ (xs : List (MulOp × TExpr)). parts_steps called (map (λ x. Two (of_two.Factor x.0) x.1) xs)) items, twos_are called (λ (x : MulOp × TExpr). Two (of_two.Factor x.0) x.1) (λ x. refl) v.items)

pub sum_steps : (called : ℕ → ℕ) (a : Box TExpr Global) (v : Vec (AddOp × TExpr) Global) (x first : TExpr) (more : List (AddOp × TExpr)) → x ≡ e.Sum a v → first ≡ a.value → more ≡ v.items → expr_steps called first + parts_steps called (map (λ x. Two (of_two.Term x.0) x.1) more) ≤ expr_steps called x
sum_steps called a v x first more is same items = omega (arith, ap (λ (x : TExpr). expr_steps called x) is, st.steps-Sum called a v, ap (λ (x : TExpr). expr_steps called x) same, ap (λ (xs : List (AddOp × TExpr)). parts_steps called (map (λ x. Two (of_two.Term x.0) x.1) xs)) items, twos_are called (λ (x : AddOp × TExpr). Two (of_two.Term x.0) x.1) (λ x. refl) v.items)

pub joint_steps : (called : ℕ → ℕ) (a : Box TExpr Global) (v : Vec (LogicalOp × TExpr) Global) (x first : TExpr) (more : List (LogicalOp × TExpr)) → x ≡ e.Joint a v → first ≡ a.value → more ≡ v.items → expr_steps called first + parts_steps called (map (λ x. Joined x.0 x.1) more) ≤ expr_steps called x
joint_steps called a v x first more is same items = omega (arith, ap (λ (x : TExpr). expr_steps called x) is, st.steps-Joint called a v, ap (λ (x : TExpr). expr_steps called x) same, ap (λ (xs : List (LogicalOp × TExpr)). parts_steps called (map (λ x. Joined x.0 x.1) xs)) items, joints_are called v.items)

-- the same as conditions, whose sides jump by themselves
pub turned_steps : (called : ℕ → ℕ) (a : Box TExpr Global) (x first : TExpr) → x ≡ e.Not a → first ≡ a.value → expr_steps called first ≤ expr_steps called x
turned_steps called a x first is same = omega (arith, ap (λ (x : TExpr). expr_steps called x) is, st.steps-Not called a, ap (λ (x : TExpr). expr_steps called x) same)

pub joined_steps : (called : ℕ → ℕ) (a : Box TExpr Global) (v : Vec (LogicalOp × TExpr) Global) (x first : TExpr) (more : List (LogicalOp × TExpr)) → x ≡ e.Joint a v → first ≡ a.value → more ≡ v.items → expr_steps called first + sides_steps called more ≤ expr_steps called x
joined_steps called a v x first more is same items = omega (arith, ap (λ (x : TExpr). expr_steps called x) is, st.steps-Joint called a v, ap (λ (x : TExpr). expr_steps called x) same, ap (λ (xs : List (LogicalOp × TExpr)). sides_steps called xs) items)

-- ---- conditions

pub asks_as : (n : ℕ) (steps more : (ℕ → ℕ) → ℕ) (old new : List Instr) → ((called : ℕ → ℕ) → steps called ≤ more called) → AsksAtMost steps n old new → AsksAtMost more n old new
asks_as n steps more old new le p = record {
  within = λ fs called light most here there. omega (arith, le called, p.within fs called light most here there);
}

pub asks_over : (over n : ℕ) (steps : (ℕ → ℕ) → ℕ) (old new : List Instr) → over ≡ n → AsksAtMost steps over old new → AsksAtMost steps n old new
asks_over over n steps old new same p = rw (← same) p

pub asks_value : (is : Bool) (n : ℕ) (steps : (ℕ → ℕ) → ℕ) (old mid new : List Instr) → mid ≡ instrs.JumpIf is n ∷ old → AddsAtMost steps mid new → AsksAtMost steps n old new
asks_value is n steps old mid new front p = record {
  within = λ fs called light most here there.
      let c : cost fs mid 0 ≡ suc (max (cost fs old 0) (cost fs old n)) = ap (λ (code : List Instr). cost fs code 0) front in
      omega (arith, c, max_at_most (cost fs old 0) (cost fs old n) most here there, p.within fs called light);
}

pub asks_question : (is : Bool) (n : ℕ) (q : Question) (steps : (ℕ → ℕ) → ℕ) (old new : List Instr) → new ≡ instrs.JumpIfAsked is q n ∷ old → AsksAtMost steps n old new
asks_question is n q steps old new front = record {
  within = λ fs called light most here there.
      let c : cost fs new 0 ≡ suc (max (cost fs old 0) (cost fs old n)) = ap (λ (code : List Instr). cost fs code 0) front in
      omega (arith, c, max_at_most (cost fs old 0) (cost fs old n) most here there);
}

-- where a left side leads to
landed_costs : (deciding wanted : Bool) (fs : List ℕ) (old mid code : List Instr) (place behind most : ℕ) → mid ≡ code ++ old → behind ≡ length old → place ≤ length old → cost fs old 0 ≤ most → cost fs old (length old - place) ≤ most → cost fs mid (length mid - landing deciding wanted place behind) ≤ most
landed_costs true true fs old mid code place behind most grows at low here there = omega (arith, there, reached_costs fs mid code old place grows low)
landed_costs true false fs old mid code place behind most grows at low here there = omega (arith, here, passed_costs fs mid code old (length mid - behind) grows (omega (arith, at)))
landed_costs false true fs old mid code place behind most grows at low here there = omega (arith, here, passed_costs fs mid code old (length mid - behind) grows (omega (arith, at)))
landed_costs false false fs old mid code place behind most grows at low here there = omega (arith, there, reached_costs fs mid code old place grows low)

-- a left side in front of a right one
pub leads_both : (deciding wanted : Bool) (place behind landed : ℕ) (run steps : (ℕ → ℕ) → ℕ) (old mid new code : List Instr) → landed ≡ landing deciding wanted place behind → behind ≡ length old → place ≤ length old → landed ≤ length mid → mid ≡ code ++ old → LeadsAtMost steps place old mid → LeadsAtMost run landed mid new → LeadsAtMost (λ called. run called + (2 + steps called)) place old new
leads_both deciding wanted place behind landed run steps old mid new code l at low reach grows p q = λ within. record {
  within = λ fs called light most here there.
      let there_is : cost fs mid (length mid - landed) ≤ most = rw l (landed_costs deciding wanted fs old mid code place behind most grows at low here there) in
      let here_is : cost fs mid 0 ≤ steps called + 1 + most = (p low).within fs called light most here there in
      omega (arith, (q reach).within fs called light (steps called + 1 + most) here_is (omega (arith, there_is)));
}

pub side_at : (run : (ℕ → ℕ) → ℕ) (to place n : ℕ) (more : List (LogicalOp × TExpr)) (x : LogicalOp × TExpr) (base old new : List Instr) → 0 < n → slice_get more (n - 1) ≡ Some x → LeadsAtMost (λ called. run called + (2 + expr_steps called x.1)) place old new → ((steps : (ℕ → ℕ) → ℕ) (new : List Instr) → LeadsAtMost steps place old new → LeadsAtMost (λ called. steps called + sides_steps called (drop n more)) to base new) → LeadsAtMost (λ called. run called + sides_steps called (drop (n - 1) more)) to base new
side_at run to place n more x base old new some got both rest = λ within.
    asks_as (length base - to) (λ called. run called + (2 + expr_steps called x.1) + sides_steps called (drop n more)) (λ called. run called + sides_steps called (drop (n - 1) more)) base new (λ called. next called) (rest (λ called. run called + (2 + expr_steps called x.1)) new both within)
  where
    next : (called : ℕ → ℕ) → run called + (2 + expr_steps called x.1) + sides_steps called (drop n more) ≤ run called + sides_steps called (drop (n - 1) more)
    next called =
        let h : sides_steps called (drop (n - 1) more) ≡ 2 + expr_steps called x.1 + sides_steps called (drop n more) = ap (λ (xs : List (LogicalOp × TExpr)). sides_steps called xs) (next_found more n x some got) in
        omega (arith, h)

pub sides_start : (run : (ℕ → ℕ) → ℕ) (to n : ℕ) (more : List (LogicalOp × TExpr)) (old new : List Instr) → LeadsAtMost run to old new → LeadsAtMost (λ called. run called + sides_steps called (drop n more)) to old new
sides_start run to n more old new p = λ low. asks_as (length old - to) run (λ called. run called + sides_steps called (drop n more)) old new (λ called. omega arith) (p low)

sides_whole : (run : (ℕ → ℕ) → ℕ) (k n : ℕ) (more : List (LogicalOp × TExpr)) (old new : List Instr) → n ≤ 0 → AsksAtMost (λ called. run called + sides_steps called (drop n more)) k old new → AsksAtMost (λ called. run called + sides_steps called more) k old new
sides_whole run k zero more old new le p = p
sides_whole run k (suc n) more old new le p = absurd (omega (arith, le))

pub sides_end : (run : (ℕ → ℕ) → ℕ) (to place n : ℕ) (more : List (LogicalOp × TExpr)) (base old new : List Instr) → n ≤ 0 → ((steps : (ℕ → ℕ) → ℕ) (new : List Instr) → LeadsAtMost steps place old new → LeadsAtMost (λ called. steps called + sides_steps called (drop n more)) to base new) → LeadsAtMost run place old new → LeadsAtMost (λ called. run called + sides_steps called more) to base new
sides_end run to place n more base old new le rest p = λ within.
    sides_whole run (length base - to) n more base new le (rest run new p within)

-- ---- statements

pub adds_if : (e s : (ℕ → ℕ) → ℕ) (behind : ℕ) (old mid new code : List Instr) → behind ≡ length old → mid ≡ code ++ old → AddsAtMost s old mid → LeadsAtMost e behind mid new → AddsAtMost (λ called. 1 + e called + s called) old new
adds_if e s behind old mid new code at grows p q = record {
  within = λ fs called light.
      let low : behind ≤ length mid = omega (arith, at, ap (λ (xs : List Instr). length xs) grows, length-append code old) in
      let over : cost fs mid (length mid - behind) ≡ cost fs old 0 = passed_costs fs mid code old (length mid - behind) grows (omega (arith, at)) in
      omega (arith, (q low).within fs called light (s called + cost fs old 0) (p.within fs called light) (omega (arith, over)));
}

pub adds_either : (e s u : (ℕ → ℕ) → ℕ) (k other : ℕ) (old one two three new a b : List Instr) → AddsAtMost u old one → one ≡ a ++ old → k ≡ length one - length old → two ≡ instrs.Jump k ∷ one → AddsAtMost s two three → three ≡ b ++ two → other ≡ length one → LeadsAtMost e other three new → AddsAtMost (λ called. 2 + e called + s called + u called) old new
adds_either e s u k other old one two three new a b p first far jump q second at r = record {
  within = λ fs called light.
      let grows : three ≡ (b ++ instrs.Jump k ∷ []) ++ one = further three two one b (instrs.Jump k ∷ []) second jump in
      let low : other ≤ length three = omega (arith, at, ap (λ (xs : List Instr). length xs) grows, length-append (b ++ instrs.Jump k ∷ []) one) in
      let there : cost fs three (length three - other) ≡ cost fs one 0 = passed_costs fs three (b ++ instrs.Jump k ∷ []) one (length three - other) grows (omega (arith, at)) in
      let here : cost fs two 0 ≡ suc (cost fs one k) = ap (λ (code : List Instr). cost fs code 0) jump in
      let over : cost fs one k ≡ cost fs old 0 = passed_costs fs one a old k first far in
      omega (arith, (r low).within fs called light (1 + s called + u called + cost fs old 0) (omega (arith, here, over, q.within fs called light)) (omega (arith, there, p.within fs called light)));
}

pub adds_for : (e s : (ℕ → ℕ) → ℕ) (k : ℕ) (old one two three new code : List Instr) → one ≡ instrs.EndTurn ∷ old → AddsAtMost s one two → two ≡ code ++ one → k ≡ length two - length old → three ≡ instrs.ForEach k ∷ two → AddsAtMost e three new → AddsAtMost (λ called. 2 + e called + 120 * (2 + s called)) old new
adds_for e s k old one two three new code turn p grows far each q = record {
  within = λ fs called light.
      let a : cost fs one 0 ≡ 1 = ap (λ (code : List Instr). cost fs code 0) turn in
      let b : cost fs two k ≡ cost fs old 0 = passed_costs fs two (code ++ instrs.EndTurn ∷ []) old k (further two one old code (instrs.EndTurn ∷ []) grows turn) far in
      let c : cost fs three 0 ≡ suc (1 + 120 * (1 + cost fs two 0) + cost fs two k) = ap (λ (code : List Instr). cost fs code 0) each in
      omega (arith, a, b, c, p.within fs called light, q.within fs called light);
}

-- ---- what statements take

pub unset_steps : (called : ℕ → ℕ) (a : Attribute) (x : TStmt) → x ≡ s.Unset a → 1 ≤ stmt_steps called x
unset_steps called a x is =
    let h : stmt_steps called (s.Unset a) ≡ 1 = w.act-of-Unset ℕ (stmt_step called) a in
    omega (arith, ap (λ (x : TStmt). stmt_steps called x) is, h)

pub accept_steps : (called : ℕ → ℕ) (x : TStmt) → x ≡ s.Accept → 1 ≤ stmt_steps called x
accept_steps called x is =
    let h : stmt_steps called s.Accept ≡ 1 = w.act-of-Accept ℕ (stmt_step called) in
    omega (arith, ap (λ (x : TStmt). stmt_steps called x) is, h)

pub reject_steps : (called : ℕ → ℕ) (x : TStmt) → x ≡ s.Reject → 1 ≤ stmt_steps called x
reject_steps called x is =
    let h : stmt_steps called s.Reject ≡ 1 = w.act-of-Reject ℕ (stmt_step called) in
    omega (arith, ap (λ (x : TStmt). stmt_steps called x) is, h)

pub block_steps : (called : ℕ → ℕ) (sorts : Vec Sort Global) (v : Vec TStmt Global) (x : TStmt) (ds : List Sort) (ss : List TStmt) → x ≡ s.Block sorts v → ds ≡ sorts.items → ss ≡ v.items → run_steps called ds ss + 1 ≤ stmt_steps called x
block_steps called sorts v x ds ss is ds_are ss_are = omega (arith, ap (λ (x : TStmt). stmt_steps called x) is, st.act-steps-Block called sorts v, ap (λ (ds : List Sort). length ds) ds_are, ap (λ (ss : List TStmt). body_steps called ss) ss_are)

pub assign_steps : (called : ℕ → ℕ) (target : TTarget) (y : TExpr) (x : TStmt) → x ≡ s.Assign target y → expr_steps called y + 1 ≤ stmt_steps called x
assign_steps called target y x is = omega (arith, ap (λ (x : TStmt). stmt_steps called x) is, st.act-steps-Assign called target y)

pub if_steps : (called : ℕ → ℕ) (y : TExpr) (a : Box TStmt Global) (x first : TStmt) → x ≡ s.If y a → first ≡ a.value → 1 + expr_steps called y + stmt_steps called first ≤ stmt_steps called x
if_steps called y a x first is same = omega (arith, ap (λ (x : TStmt). stmt_steps called x) is, st.act-steps-If called y a, ap (λ (x : TStmt). stmt_steps called x) same)

pub if_else_steps : (called : ℕ → ℕ) (y : TExpr) (a b : Box TStmt Global) (x first second : TStmt) → x ≡ s.IfElse y a b → first ≡ a.value → second ≡ b.value → 2 + expr_steps called y + stmt_steps called first + stmt_steps called second ≤ stmt_steps called x
if_else_steps called y a b x first second is same too = omega (arith, ap (λ (x : TStmt). stmt_steps called x) is, st.act-steps-IfElse called y a b, ap (λ (x : TStmt). stmt_steps called x) same, ap (λ (x : TStmt). stmt_steps called x) too)

pub case_steps : (called : ℕ → ℕ) (y : TExpr) (v : Vec (TArm TStmt) Global) (o : Vec TStmt Global) (x : TStmt) (rows : List (TArm TStmt)) (otherwise : List TStmt) → x ≡ s.Case y v o → rows ≡ v.items → otherwise ≡ o.items → 3 + expr_steps called y + arms_steps called rows + body_steps called otherwise ≤ stmt_steps called x
case_steps called y v o x rows otherwise is same too = omega (arith, ap (λ (x : TStmt). stmt_steps called x) is, st.act-steps-Case called y v o, ap (λ (xs : List (TArm TStmt)). arms_steps called xs) same, ap (λ (ss : List TStmt). body_steps called ss) too)

pub for_steps : (called : ℕ → ℕ) (y : TExpr) (a : Box TStmt Global) (x turn : TStmt) → x ≡ s.For y a → turn ≡ a.value → 2 + expr_steps called y + 120 * (2 + stmt_steps called turn) ≤ stmt_steps called x
for_steps called y a x turn is same = omega (arith, ap (λ (x : TStmt). stmt_steps called x) is, st.act-steps-For called y a, ap (λ (x : TStmt). stmt_steps called x) same)

pub return_steps : (called : ℕ → ℕ) (o : Option TExpr) (x : TStmt) → x ≡ s.Return o → 1 + given_steps called o ≤ stmt_steps called x
return_steps called o x is = omega (arith, ap (λ (x : TStmt). stmt_steps called x) is, st.act-steps-Return called o)

pub given_at_most : (called : ℕ → ℕ) (y : TExpr) (o : Option TExpr) → o ≡ Some y → expr_steps called y + 1 ≤ 1 + given_steps called o
given_at_most called y o is =
    let h : given_steps called o ≡ expr_steps called y = ap (λ (o : Option TExpr). given_steps called o) is in
    omega (arith, h)

pub print_steps : (called : ℕ → ℕ) (v : Vec TExpr Global) (x : TStmt) (es : List TExpr) → x ≡ s.Print v → es ≡ v.items → dropped_steps called es ≤ stmt_steps called x
print_steps called v x es is same = omega (arith, ap (λ (x : TStmt). stmt_steps called x) is, st.act-steps-Print called v, ap (λ (es : List TExpr). dropped_steps called es) same)

pub do_steps : (called : ℕ → ℕ) (number : ℕ) (v : Vec TExpr Global) (x : TStmt) (es : List TExpr) → x ≡ s.Call number v → es ≡ v.items → 2 + called number + exprs_steps called es ≤ stmt_steps called x
do_steps called number v x es is same = omega (arith, ap (λ (x : TStmt). stmt_steps called x) is, st.act-steps-Call called number v, ap (λ (es : List TExpr). exprs_steps called es) same)

-- ---- `case`

start_grows : (steps : (ℕ → ℕ) → ℕ) (start : ℕ) (old mid new : List Instr) → Grows mid new → StartAtMost steps start old mid → StartAtMost steps start old new
start_grows steps start old mid new g p = record {
  far = omega (arith, p.far, ap (λ (xs : List Instr). length xs) g.grows, length-append g.code mid);
  within = λ fs called light. omega (arith, reached_costs fs new g.code mid start g.grows p.far, p.within fs called light);
}

pub starts_grow : (steps : (ℕ → ℕ) → ℕ) (starts : List ℕ) (old mid new : List Instr) → Grows mid new → StartsAtMost steps starts old mid → StartsAtMost steps starts old new
starts_grow steps [] old mid new g p = tt
starts_grow steps (start ∷ starts) old mid new g p = (start_grows steps start old mid new g p.0, starts_grow steps starts old mid new g p.1)

pub starts_push : (steps : (ℕ → ℕ) → ℕ) (starts : List ℕ) (start : ℕ) (old new : List Instr) → StartsAtMost steps starts old new → StartAtMost steps start old new → StartsAtMost steps (starts ++ start ∷ []) old new
starts_push steps [] start old new p q = (q, tt)
starts_push steps (x ∷ starts) start old new p q = (p.0, starts_push steps starts start old new p.1 q)

-- an item is one of the sum
pub item_in : {A : Type 0} (f : A → ℕ) (xs : List A) (i : ℕ) (x : A) → i < length xs → x ≡ get_or xs i x → f x ≤ sum (map f xs)
item_in f [] i x lt is = absurd (omega arith)
item_in f (y ∷ ys) zero x lt is = rw is (omega arith)
item_in f (y ∷ ys) (suc i) x lt is = let h : f x ≤ sum (map f ys) = item_in f ys i x (omega arith) is in omega (arith, h)

-- what an arm does, in front of the others, and from where on
pub starts_more : (all : List (TArm TStmt)) (i k start : ℕ) (a : TArm TStmt) (ss : List TStmt) (starts ends : List ℕ) (old out jump new back code : List Instr) → i < length all → a ≡ get_or all i a → ss ≡ a.body.items → ends ≡ starts ++ start ∷ [] → StartsAtMost (λ called. 1 + arms_steps called all) starts old out → out ≡ back ++ old → k ≡ length out - length old → jump ≡ instrs.Jump k ∷ out → AddsAtMost (λ called. body_steps called ss) jump new → new ≡ code ++ jump → start ≡ length new → StartsAtMost (λ called. 1 + arms_steps called all) ends old new
starts_more all i k start a ss starts ends old out jump new back code lt at body two p grows far is q more long =
    rw two (starts_push (λ called. 1 + arms_steps called all) starts start old new
    (starts_grow (λ called. 1 + arms_steps called all) starts old out new (record { code = code ++ instrs.Jump k ∷ []; grows = further new jump out code (instrs.Jump k ∷ []) more is }) p)
    (record {
      far = omega (arith, long);
      within = λ fs called light.
          let none : length new - start ≡ 0 = omega (arith, long) in
          let one : cost fs jump 0 ≡ suc (cost fs out k) = ap (λ (code : List Instr). cost fs code 0) is in
          let over : cost fs out k ≡ cost fs old 0 = passed_costs fs out back old k grows far in
          let arm : body_steps called ss ≤ arms_steps called all = rw body (item_in (λ (a : TArm TStmt). body_steps called a.body.items) all i a lt at) in
          rw none (omega (arith, one, over, arm, q.within fs called light));
    }))

jumps_grow : (starts : List ℕ) (old : List Instr) → Grows old (jumps_to starts old)
jumps_grow [] old = record { code = []; grows = refl }
jumps_grow (start ∷ starts) old = record { code = instrs.Jump (length (jumps_to starts old) - start) ∷ (jumps_grow starts old).code; grows = ap (λ (code : List Instr). instrs.Jump (length (jumps_to starts old) - start) ∷ code) (jumps_grow starts old).grows }

pub as_many_starts : (seen : Seen) (rows : List (TArm TStmt)) (starts : List ℕ) (old new : List Instr) → Targets seen old new rows starts → length starts ≡ length rows
as_many_starts seen [] [] old new p = refl
as_many_starts seen [] (start ∷ starts) old new p = absurd p
as_many_starts seen (a ∷ rows) [] old new p = absurd p
as_many_starts seen (a ∷ rows) (start ∷ starts) old new p = ap suc (as_many_starts seen rows starts old new p.1)

-- the jumps to the arms, and behind them
jumps_cost : (fs : List ℕ) (called : ℕ → ℕ) (steps : (ℕ → ℕ) → ℕ) (most : ℕ) (starts : List ℕ) (old base : List Instr) → CostAtMost fs called → StartsAtMost steps starts old base → 1 + steps called + cost fs old 0 ≤ most → cost fs base 0 ≤ most → (n : ℕ) → n ≤ length starts → cost fs (jumps_to starts base) n ≤ most
jumps_cost fs called steps most [] old base light p first rest zero le = rest
jumps_cost fs called steps most [] old base light p first rest (suc n) le = absurd (omega (arith, le))
jumps_cost fs called steps most (start ∷ starts) old base light p first rest zero le =
    let g : Grows base (jumps_to starts base) = jumps_grow starts base in
    let h : StartAtMost steps start old (jumps_to starts base) = start_grows steps start old base (jumps_to starts base) g p.0 in
    omega (arith, first, h.within fs called light)
jumps_cost fs called steps most (start ∷ starts) old base light p first rest (suc n) le = jumps_cost fs called steps most starts old base light p.1 first rest n (omega (arith, le))

greatest_at_most : (of : ℕ → ℕ) (n most : ℕ) → ((m : ℕ) → m ≤ n → of m ≤ most) → greatest of n ≤ most
greatest_at_most of zero most each = each 0 (omega arith)
greatest_at_most of (suc n) most each = max_at_most (of (suc n)) (greatest of n) most (each (suc n) (omega arith)) (greatest_at_most of n most (λ m le. each m (omega (arith, le))))

pub adds_case : (e o s : (ℕ → ℕ) → ℕ) (k : ℕ) (rows : Bor (List (TArm TStmt))) (starts : List ℕ) (old one two jump table switch new code : List Instr) → length starts ≡ length rows.now → AddsAtMost o old one → StartsAtMost (λ called. 1 + s called) starts old two → two ≡ code ++ one → k ≡ length two - length one → jump ≡ instrs.Jump k ∷ two → table ≡ jumps_to starts jump → switch ≡ instrs.Switch rows ∷ table → AddsAtMost e switch new → AddsAtMost (λ called. 3 + e called + s called + o called) old new
adds_case e o s k rows starts old one two jump table switch new code as_many p q grows far is jumps front r = record {
  within = λ fs called light.
      let most : ℕ = 2 + s called + o called + cost fs old 0 in
      let a : cost fs jump 0 ≡ suc (cost fs two k) = ap (λ (code : List Instr). cost fs code 0) is in
      let b : cost fs two k ≡ cost fs one 0 = passed_costs fs two code one k grows far in
      let there : StartsAtMost (λ called. 1 + s called) starts old jump = starts_grow (λ called. 1 + s called) starts old two jump (record { code = instrs.Jump k ∷ []; grows = is }) q in
      let each : (n : ℕ) → n ≤ length starts → cost fs table n ≤ 2 + s called + o called + cost fs old 0 = λ n le. rw jumps (jumps_cost fs called (λ called. 1 + s called) (2 + s called + o called + cost fs old 0) starts old jump light there (omega arith) (omega (arith, a, b, p.within fs called light)) n le) in
      let c : cost fs switch 0 ≡ suc (greatest (cost fs table) (length rows.now)) = ap (λ (code : List Instr). cost fs code 0) front in
      let d : greatest (cost fs table) (length rows.now) ≤ 2 + s called + o called + cost fs old 0 = greatest_at_most (cost fs table) (length rows.now) (2 + s called + o called + cost fs old 0) (λ m le. each m (omega (arith, le, as_many))) in
      omega (arith, c, d, r.within fs called light);
}

-- ---- whole codes

pub whole_costs : (sorts : List Sort) (ss : List TStmt) (empty backwards code : List Instr) → empty ≡ [] → code ≡ reverse backwards → AddsAtMost (λ called. run_steps called sorts ss) (reverse empty) (reverse backwards) → CostsItsSteps sorts ss code
whole_costs sorts ss empty backwards code none is p = λ fs called light.
    let a : cost fs code 0 ≡ cost fs (reverse backwards) 0 = ap (λ (code : List Instr). cost fs code 0) is in
    let b : cost fs (reverse empty) 0 ≡ 0 = ap (λ (code : List Instr). cost fs (reverse code) 0) none in
    omega (arith, a, b, p.within fs called light)
