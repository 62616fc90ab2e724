-- For private contracts alone: what code comes to that was emitted in front of other code.
use Rattle.std.specs.Prelude.{◌≡◌, ◌≤◌, ℕ, ◌+◌, ◌-◌, Bool, true, false, List, [], ◌∷◌, ◌++◌, length, map, reverse, slice_get, Vec, Option, Some, Ok, ⊤}
use Rattle.std.specs.Global.{Global}
use Rattle.attrs.specs.declared.attributes.Attrs.{Attrs}
use Rattle.filt_meaning.specs.Seen.{val_of_fixed}
use Rattle.filt_meaning.specs.declared.value.Sort.{Sort}
use Rattle.filt_meaning.specs.Operators.{bool_in, matches_of, truth_of}
use Rattle.filt_meaning.specs.Values.{Val, VInt, VPrefixSet, default_of}
use Rattle.filt_meaning.specs.Flow.{Flow, Done, Stopped, Frame, Run, and_then, plainly}
use Rattle.conf_ast.specs.declared.filters.CompareOp.{CompareOp}
use Rattle.conf_ast.specs.declared.filters.CompareOp.TheVariants as compare_ops
use Rattle.conf_ast.specs.declared.filters.LogicalOp.{LogicalOp}
use Rattle.conf_ast.specs.declared.filters.LogicalOp.TheVariants as logical_ops
use Rattle.conf_ast.specs.declared.attribute.Attribute.TheVariants as attributes
use Rattle.filt_sets.specs.declared.prefixes.PrefixItem.{PrefixItem}
use Rattle.filt_meaning.specs.Meaning.{Act, attribute, given, on_two, on_value, called_value}
use Rattle.filt_meaning.specs.declared.tree.TExpr.{TExpr}
use Rattle.filt_meaning.specs.declared.tree.TArm.{TArm}
use Rattle.filt_meaning.specs.declared.tree.TStmt.{TStmt}
use Rattle.filt_meaning.specs.declared.tree.TTarget.{TTarget}
use Rattle.filt_meaning.specs.declared.tree.TTest.{TTest}
use Rattle.filt_meaning.specs.Names.{Around}
use Rattle.filt_meaning.specs.Configuration.{given_by}
use Rattle.filt_meaning.specs.Trees.{Tables, all_values, body, expr, exprs, set_place, test}
use Rattle.filt_code.specs.declared.instr.Instr.{Instr}
use Rattle.filt_code.specs.declared.instr.Instr.TheVariants as instrs
use Rattle.filt_code.specs.declared.instr.Question.{Question}
use Rattle.filt_code.specs.Codes.{Setting, jump_where, mean, question, setting}
use Rattle.filt_code.specs.Costs.{cost}
use Rattle.filt_compile.specs.Compiles.{CostAtMost}
use Rattle.filt_compile.specs.declared.seen.Seen.{Seen}

-- code in the order in which it runs
abbrev pub ahead : Vec Instr Global → List Instr
ahead out = reverse out.items

-- what trees are run over where code is run over this setting
abbrev pub tables_of : Seen → Setting → Tables
tables_of seen s = record {
  around = s.around;
  constants = map val_of_fixed seen.constants.now;
  functions = s.functions;
}

-- the functions are what those do that are seen
abbrev pub Sees : Seen → Setting → Type 0
Sees seen s = s.functions ≡ (setting s.around seen.routines.now).functions

-- The new code is other code in front of the old one, which puts what the run gives.
pub record Puts (seen : Seen) (run : Tables → Run Val) (old new : List Instr) : Type 0 where
  pub code : List Instr
  pub grows : new ≡ code ++ old
  pub means : (s : Setting) → Sees seen s → (vals : Frame) (os : List Val) (attrs : Attrs) → mean s new 0 vals os attrs ≡ and_then (run (tables_of seen s) vals attrs) (λ v attrs. mean s old 0 vals (v ∷ os) attrs)

-- The same, where it takes a value and puts what is made of it.
pub record Makes (seen : Seen) (make : Tables → Val → Run Val) (old new : List Instr) : Type 0 where
  pub code : List Instr
  pub grows : new ≡ code ++ old
  pub means : (s : Setting) → Sees seen s → (v : Val) (vals : Frame) (os : List Val) (attrs : Attrs) → mean s new 0 vals (v ∷ os) attrs ≡ and_then (make (tables_of seen s) v vals attrs) (λ w attrs. mean s old 0 vals (w ∷ os) attrs)

-- The same, where it puts several values, the last one on top.
pub record PutsAll (seen : Seen) (run : Tables → Run Frame) (old new : List Instr) : Type 0 where
  pub code : List Instr
  pub grows : new ≡ code ++ old
  pub means : (s : Setting) → Sees seen s → (vals : Frame) (os : List Val) (attrs : Attrs) → mean s new 0 vals os attrs ≡ and_then (run (tables_of seen s) vals attrs) (λ vs attrs. mean s old 0 vals (reverse vs ++ os) attrs)

-- The same of a condition, which puts nothing, and passes over n instructions of the old code where
-- its truth value is this one.
pub record Asks (seen : Seen) (is : Bool) (n : ℕ) (run : Tables → Run Val) (old new : List Instr) : Type 0 where
  pub code : List Instr
  pub grows : new ≡ code ++ old
  pub means : (s : Setting) → Sees seen s → (vals : Frame) (os : List Val) (attrs : Attrs) → mean s new 0 vals os attrs ≡ and_then (run (tables_of seen s) vals attrs) (λ v attrs. and_then (plainly (bool_in v) attrs) (λ b attrs. mean s old (jump_where is n b) vals os attrs))

-- The same, where it jumps to the place of the old code that has so much code from it on.
abbrev pub Leads : Seen → (is : Bool) → (to : ℕ) → (Tables → Run Val) → (old new : List Instr) → Type 0
Leads seen is to run old new = to ≤ length old → Asks seen is (length old - to) run old new

-- the value of the left side of `&&` or `||` that decides
abbrev pub decider : LogicalOp → Bool
decider logical_ops.And = false
decider logical_ops.Or = true

-- to the place, where what decides is wanted, else behind the right side
abbrev pub landing : (deciding wanted : Bool) → (place behind : ℕ) → ℕ
landing true true place behind = place
landing true false place behind = behind
landing false true place behind = behind
landing false false place behind = place

-- so many variables, where the run goes on
abbrev pub Leaves : ℕ → Flow Frame → Type 0
Leaves n (Done after attrs) = length after ≡ n
Leaves n (Stopped why attrs) = ⊤

-- The new code is other code in front of the old one, which does what the run does, and the run
-- leaves as many variables as it found.
pub record Acts (seen : Seen) (run : Tables → Act) (old new : List Instr) : Type 0 where
  pub code : List Instr
  pub grows : new ≡ code ++ old
  pub means : (s : Setting) → Sees seen s → (vals : Frame) (attrs : Attrs) → mean s new 0 vals [] attrs ≡ and_then (run (tables_of seen s) vals attrs) (λ after attrs. mean s old 0 after [] attrs)
  pub keeps : (t : Tables) (vals : Frame) (attrs : Attrs) → Leaves (length vals) (run t vals attrs)

-- The same, with variables of these sorts more, which stay.
pub record Runs (seen : Seen) (sorts : List Sort) (run : Tables → Act) (old new : List Instr) : Type 0 where
  pub code : List Instr
  pub grows : new ≡ code ++ old
  pub means : (s : Setting) → Sees seen s → (vals : Frame) (attrs : Attrs) → mean s new 0 vals [] attrs ≡ and_then (run (tables_of seen s) (vals ++ map default_of sorts) attrs) (λ after attrs. mean s old 0 after [] attrs)
  pub keeps : (t : Tables) (vals : Frame) (attrs : Attrs) → Leaves (length vals + length sorts) (run t (vals ++ map default_of sorts) attrs)

-- The new code is other code in front of the old one, which makes variables of these sorts.
pub record Declares (sorts : List Sort) (old new : List Instr) : Type 0 where
  pub code : List Instr
  pub grows : new ≡ code ++ old
  pub means : (s : Setting) (vals : Frame) (os : List Val) (attrs : Attrs) → mean s new 0 vals os attrs ≡ mean s old 0 (vals ++ map default_of sorts) os attrs

-- The new code is other code in front of the old one, by which a target holds the top operand.
pub record Sets (target : TTarget) (old new : List Instr) : Type 0 where
  pub code : List Instr
  pub grows : new ≡ code ++ old
  pub means : (s : Setting) (v : Val) (vals : Frame) (attrs : Attrs) → mean s new 0 vals (v ∷ []) attrs ≡ and_then (set_place target v vals attrs) (λ after attrs. mean s old 0 after [] attrs)

-- other code in front of the old one
pub record Grows (old new : List Instr) : Type 0 where
  pub code : List Instr
  pub grows : new ≡ code ++ old

-- from a place in the new code on, told by how much code there is from it on, what the run does is
-- done, and then the old code
pub record Target (seen : Seen) (run : Tables → Act) (start : ℕ) (old new : List Instr) : Type 0 where
  pub front : List Instr
  pub back : List Instr
  pub is : new ≡ front ++ back
  pub far : start ≡ length back
  pub means : (s : Setting) → Sees seen s → (vals : Frame) (attrs : Attrs) → mean s back 0 vals [] attrs ≡ and_then (run (tables_of seen s) vals attrs) (λ after attrs. mean s old 0 after [] attrs)
  pub keeps : (t : Tables) (vals : Frame) (attrs : Attrs) → Leaves (length vals) (run t vals attrs)

-- a place for each arm
abbrev pub Targets : Seen → (old new : List Instr) → List (TArm TStmt) → List ℕ → Type 0
Targets seen old new [] [] = ⊤
Targets seen old new [] (start ∷ starts) = ⊥
Targets seen old new (a ∷ as_arms) [] = ⊥
Targets seen old new (a ∷ as_arms) (start ∷ starts) =
    Target seen (λ t. body t a.body.items) start old new × Targets seen old new as_arms starts

pub record Bodies (seen : Seen) (as_arms : List (TArm TStmt)) (starts : List ℕ) (old mid new : List Instr) : Type 0 where
  pub front : Grows mid new
  pub targets : Targets seen old new as_arms starts

-- a jump to each place, the first one first
abbrev pub jumps_to : List ℕ → List Instr → List Instr
jumps_to [] old = old
jumps_to (start ∷ starts) old = let rest = jumps_to starts old in instrs.Jump (length rest - start) ∷ rest

-- what `net` is
abbrev pub IsNet : TExpr → Type 0
IsNet e = (t : Tables) → expr e t ≡ attribute t.around attributes.Net

-- what a set of nets is that stands in the source
abbrev pub IsSet : TExpr → List PrefixItem → Type 0
IsSet e set = (t : Tables) → expr e t ≡ given (Ok (VPrefixSet set))

-- `net`, `~` and such a set
abbrev pub IsAsked : CompareOp → (a b : TExpr) → List PrefixItem → Type 0
IsAsked op a b set = (op ≡ compare_ops.Matches) × IsNet a × IsSet b set

-- what `net ~ set` is
abbrev pub IsNetIn : TExpr → List PrefixItem → Type 0
IsNetIn e set = (t : Tables) → expr e t ≡ on_two (attribute t.around attributes.Net) (given (Ok (VPrefixSet set))) matches_of

-- a test is this question
abbrev pub IsTest : TTest → Question → Type 0
IsTest what q = (around : Around) (vals : Frame) (attrs : Attrs) → test around what vals attrs ≡ on_value (question around q) truth_of vals attrs

-- an expression is this question
abbrev pub IsQuestion : Seen → TExpr → Question → Type 0
IsQuestion seen e q =
    (s : Setting) → Sees seen s → (vals : Frame) (attrs : Attrs) → expr e (tables_of seen s) vals attrs ≡ on_value (question s.around q) truth_of vals attrs

-- an expression has this value, whatever it is run over
abbrev pub IsAlways : TExpr → Val → Type 0
IsAlways e v = (t : Tables) → expr e t ≡ given (Ok v)

-- it has some value
pub record IsKnown (e : TExpr) : Type 0 where
  pub value : Val
  pub always : IsAlways e value

-- the argument at a place is a number
abbrev pub IsIntAt : List TExpr → (place n : ℕ) → Type 0
IsIntAt es place n = (x : TExpr) × (slice_get es place ≡ Some x) × IsAlways x (VInt n)

-- what a function's code with these arguments comes to is the answer to a question
abbrev pub IsBody : List Instr → List TExpr → Question → Type 0
IsBody code es q = (s : Setting) (gives : Option Sort) (t : Tables) (vals : Frame) (attrs : Attrs) → called_value (Some (λ arguments attrs. given_by gives (mean s code 0 arguments [] attrs))) (all_values (exprs t es)) vals attrs ≡ on_value (question s.around q) truth_of vals attrs

-- what a call comes to is the answer to a question
abbrev pub IsCalled : Seen → (number : ℕ) → List TExpr → Question → Type 0
IsCalled seen number es q = (s : Setting) → Sees seen s → (vals : Frame) (attrs : Attrs) → called_value (slice_get s.functions number) (all_values (exprs (tables_of seen s) es)) vals attrs ≡ on_value (question s.around q) truth_of vals attrs

-- ---- costs

-- Where no function costs more than it is told to, the new code costs so many steps more than the
-- old one at most.
pub record AddsAtMost (steps : (ℕ → ℕ) → ℕ) (old new : List Instr) : Type 0 where
  pub within : (fs : List ℕ) (called : ℕ → ℕ) → CostAtMost fs called → cost fs new 0 ≤ steps called + cost fs old 0

-- The same of a condition, which has one step more, where the old code costs no more than `most` from
-- the place on that it falls to, and from the n-th instruction on.
pub record AsksAtMost (steps : (ℕ → ℕ) → ℕ) (n : ℕ) (old new : List Instr) : Type 0 where
  pub within : (fs : List ℕ) (called : ℕ → ℕ) → CostAtMost fs called → (most : ℕ) → cost fs old 0 ≤ most → cost fs old n ≤ most → cost fs new 0 ≤ steps called + 1 + most

-- The same, where it jumps to the place of the old code that has so much code from it on.
abbrev pub LeadsAtMost : ((ℕ → ℕ) → ℕ) → (to : ℕ) → (old new : List Instr) → Type 0
LeadsAtMost steps to old new = to ≤ length old → AsksAtMost steps (length old - to) old new

-- From a place in the new code on, told by how much code there is from it on, it costs so many steps
-- more than the old one at most.
pub record StartAtMost (steps : (ℕ → ℕ) → ℕ) (start : ℕ) (old new : List Instr) : Type 0 where
  pub far : start ≤ length new
  pub within : (fs : List ℕ) (called : ℕ → ℕ) → CostAtMost fs called → cost fs new (length new - start) ≤ steps called + cost fs old 0

-- so of each of these places
abbrev pub StartsAtMost : ((ℕ → ℕ) → ℕ) → List ℕ → (old new : List Instr) → Type 0
StartsAtMost steps [] old new = ⊤
StartsAtMost steps (start ∷ starts) old new = StartAtMost steps start old new × StartsAtMost steps starts old new
