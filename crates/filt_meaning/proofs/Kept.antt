-- A statement leaves as many variables as it found.
use Rattle.std.proofs.Common.{◌≡◌, ℕ, ◌+◌, Bool, true, false, List, [], ◌∷◌, ◌++◌, length, take, Option, Some, None, Result, Ok, Err, nat_lt, if◌then◌else◌, slice_set, refl, ap, ◌∙◌, subst, arith, length-take, length-append, rules}
use Rattle.std.specs.Bool.{⊤}
use Rattle.attrs.specs.declared.attributes.Attrs.{Attrs}
use Rattle.conf_ast.specs.declared.filters.Target.{Target}
use Rattle.conf_ast.specs.declared.filters.Target.TheVariants as targets
use Rattle.conf_ast.specs.Filters.{Expression, Statement, Braced, Nothing, Declare, Assign, ChangeBy, Clear, Unset, If, IfElse, Case, CaseElse, For, Accept, Reject, Return, Print, Printn, Call, Statements, NoStatements, AndStatements, Arms, NoArms, AndArms}
use Rattle.conf_ast.specs.Names.{name_bytes}
use Rattle.filt_meaning.specs.declared.value.Failure.{Failure}
use Rattle.filt_meaning.specs.Values.{Val}
use Rattle.filt_meaning.specs.Attributes.{with_attribute, without_attribute}
use Rattle.filt_meaning.specs.Flow.{Returned, Stuck, Flow, Done, Stopped, Frame, Run, and_then, plainly}
use Rattle.filt_meaning.specs.Meaning.{Act, act, acts, arms_act, all_declared, defaults, within, nothing, in_turn, block, set_variable, set_attributes, set_target, assign, choose, choice, arm, cases, turns, loop, give, evaluate, result, value}
use Rattle.filt_meaning.specs.Names.{Context, place_of, with_variables}

-- where the flow is done there are so many variables
abbrev pub Keeps : ℕ → Flow Frame → Type 0
Keeps n (Done after attrs) = length after ≡ n
Keeps n (Stopped why attrs) = ⊤

abbrev pub KeepsAll : Act → Type 0
KeepsAll a = (vals : Frame) (attrs : Attrs) → Keeps (length vals) (a vals attrs)

behind_any : {A : Type 0} (n : ℕ) (flow : Flow A) (next : A → Attrs → Flow Frame)
    → ((a : A) (attrs : Attrs) → Keeps n (next a attrs)) → Keeps n (and_then flow next)
behind_any n (Done a attrs) next h = h a attrs
behind_any n (Stopped why attrs) next h = tt

behind_kept : (n m : ℕ) (flow : Flow Frame) (next : Frame → Attrs → Flow Frame) → Keeps m flow
    → ((after : Frame) (attrs : Attrs) → length after ≡ m → Keeps n (next after attrs))
    → Keeps n (and_then flow next)
behind_kept n m (Done after attrs) next k h = h after attrs k
behind_kept n m (Stopped why attrs) next k h = tt

set_length : (vals : Frame) (place : ℕ) (v : Val) → length (slice_set vals place v) ≡ length vals
set_length vals place v = search rules

variable_kept : (place : Option ℕ) (v : Val) → KeepsAll (set_variable place v)
variable_kept None v vals attrs = tt
variable_kept (Some place) v vals attrs = go (nat_lt place (length vals))
  where
    go : (b : Bool) → Keeps (length vals)
        (if b then Done (slice_set vals place v) attrs else Stopped Stuck attrs)
    go true = set_length vals place v
    go false = tt

attributes_kept : (vals : Frame) (after : Result Attrs Failure) (attrs : Attrs)
    → Keeps (length vals) (set_attributes vals after attrs)
attributes_kept vals (Ok after) attrs = refl
attributes_kept vals (Err failure) attrs = tt

target_kept : (c : Context) (target : Target) (v : Val) → KeepsAll (set_target c target v)
target_kept c (targets.Name n) v vals attrs = variable_kept (place_of c n) v vals attrs
target_kept c (targets.Attribute at a) v vals attrs =
    attributes_kept vals (with_attribute a v attrs) attrs

assign_kept : (c : Context) (target : Target) (a : Run Val) → KeepsAll (assign c target a)
assign_kept c target a vals attrs =
    behind_any (length vals) (a vals attrs) _ (λ v attrs. target_kept c target v vals attrs)

in_turn_kept : (a b : Act) → KeepsAll a → KeepsAll b → KeepsAll (in_turn a b)
in_turn_kept a b k l vals attrs =
    behind_kept (length vals) (length vals) (a vals attrs) _ (k vals attrs)
    (λ after attrs e. subst (λ (n : ℕ). Keeps n (b after attrs)) e (l after attrs))

taken : (n m : ℕ) (after : Frame) → length after ≡ n + m → length (take n after) ≡ n
taken n m after e = omega (arith, length-take n after)

block_kept : (more : Frame) (a : Act) → KeepsAll a → KeepsAll (block more a)
block_kept more a k vals attrs =
    behind_kept (length vals) (length (vals ++ more)) (a (vals ++ more) attrs) _
    (k (vals ++ more) attrs)
    (λ after attrs e. taken (length vals) (length more) after (e ∙ length-append vals more))

choose_kept : (b : Bool) (a o : Act) → KeepsAll a → KeepsAll o → KeepsAll (choose b a o)
choose_kept true a o k l = k
choose_kept false a o k l = l

choice_kept : (e : Run Val) (a o : Act) → KeepsAll a → KeepsAll o → KeepsAll (choice e a o)
choice_kept e a o k l vals attrs =
    behind_any (length vals) (e vals attrs) _
    (λ v attrs. behind_any (length vals) _ _
    (λ b attrs. choose_kept b a o k l vals attrs))

arm_kept : (has : Result Bool Failure) (a o : Act) → KeepsAll a → KeepsAll o
    → KeepsAll (arm has a o)
arm_kept has a o k l vals attrs =
    behind_any (length vals) (plainly has attrs) _ (λ b attrs. choose_kept b a o k l vals attrs)

cases_kept : (e : Run Val) (f : Val → Act) → ((v : Val) → KeepsAll (f v)) → KeepsAll (cases e f)
cases_kept e f k vals attrs =
    behind_any (length vals) (e vals attrs) _ (λ v attrs. k v vals attrs)

turns_kept : (n : ℕ) (vs : List Val) (a : Act) → KeepsAll a → (vals : Frame) (attrs : Attrs)
    → length vals ≡ n → Keeps n (turns n vs a vals attrs)
turns_kept n [] a k vals attrs e = e
turns_kept n (v ∷ vs) a k vals attrs e =
    behind_kept n (length (vals ++ v ∷ [])) (a (vals ++ v ∷ []) attrs) _ (k (vals ++ v ∷ []) attrs)
    (λ after attrs l. turns_kept n vs a k (take n after) attrs
    (taken n 1 after (l ∙ (length-append vals (v ∷ []) ∙ ap (λ (m : ℕ). m + 1) e))))

loop_kept : (e : Run Val) (a : Act) → KeepsAll a → KeepsAll (loop e a)
loop_kept e a k vals attrs =
    behind_any (length vals) (e vals attrs) _
    (λ v attrs. behind_any (length vals) _ _
    (λ vs attrs. turns_kept (length vals) vs a k vals attrs refl))

evaluate_kept : {A : Type 0} (a : Run A) → KeepsAll (evaluate a)
evaluate_kept a vals attrs = behind_any (length vals) (a vals attrs) _ (λ v attrs. refl)

give_kept : (a : Run Val) → KeepsAll (give a)
give_kept a vals attrs =
    behind_any (length vals) (a vals attrs) (λ v attrs. Stopped (Returned v) attrs)
    (λ v attrs. tt)

result_kept : (e : Option Expression) (c : Context) → KeepsAll (result e c)
result_kept None c vals attrs = tt
result_kept (Some e) c vals attrs = give_kept (value e c) vals attrs

nothing_kept : KeepsAll nothing
nothing_kept vals attrs = refl

mutual
  pub act_kept : (s : Statement) (c : Context) → KeepsAll (act s c)
  act_kept (Braced ss) c =
      block_kept (defaults (all_declared c.text ss)) (acts ss (within c (all_declared c.text ss)))
      (acts_kept ss (within c (all_declared c.text ss)))
  act_kept Nothing c = nothing_kept
  act_kept (Declare t n e) c = assign_kept c (targets.Name n) _
  act_kept (Assign target e) c = assign_kept c target _
  act_kept (ChangeBy target m place e) c = assign_kept c target _
  act_kept (Clear target) c = assign_kept c target _
  act_kept (Unset place at a) c =
      λ vals attrs. attributes_kept vals (without_attribute a attrs) attrs
  act_kept (If e s) c = choice_kept _ (act s c) nothing (act_kept s c) nothing_kept
  act_kept (IfElse e s t) c = choice_kept _ (act s c) (act t c) (act_kept s c) (act_kept t c)
  act_kept (Case at e as_arms) c =
      cases_kept _ _ (λ v. arms_kept as_arms c nothing v nothing_kept)
  act_kept (CaseElse at e as_arms ss) c =
      cases_kept _ _ (λ v. arms_kept as_arms c (acts ss c) v (acts_kept ss c))
  act_kept (For at t n e s) c =
      loop_kept _ _ (act_kept s (with_variables c (name_bytes c.text n ∷ [])))
  act_kept Accept c = λ vals attrs. tt
  act_kept Reject c = λ vals attrs. tt
  act_kept (Return at e) c = result_kept e c
  act_kept (Print es) c = evaluate_kept _
  act_kept (Printn es) c = evaluate_kept _
  act_kept (Call n place es) c = evaluate_kept _

  pub acts_kept : (ss : Statements) (c : Context) → KeepsAll (acts ss c)
  acts_kept NoStatements c = nothing_kept
  acts_kept (AndStatements s ss) c =
      in_turn_kept (act s c) (acts ss c) (act_kept s c) (acts_kept ss c)

  arms_kept : (as_arms : Arms) (c : Context) (o : Act) (v : Val) → KeepsAll o
      → KeepsAll (arms_act as_arms c o v)
  arms_kept NoArms c o v k = k
  arms_kept (AndArms labels ss more) c o v k =
      arm_kept _ (acts ss c) (arms_act more c o v) (acts_kept ss c) (arms_kept more c o v k)

pub kept : (s : Statement) (c : Context) (vals after : Frame) (attrs same : Attrs)
    → act s c vals attrs ≡ Done after same → length after ≡ length vals
kept s c vals after attrs same e =
    subst (λ (flow : Flow Frame). Keeps (length vals) flow) e (act_kept s c vals attrs)
