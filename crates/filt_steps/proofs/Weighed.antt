-- What is run takes at most as many steps as it weighs: a lemma for each form, and one by recursion
-- over the abstract syntax.
use Rattle.std.proofs.Common.{ℕ, ◌+◌, ◌*◌, ◌≤◌, Bool, true, false, List, [], ◌∷◌, ◌++◌, length, take, Option, Some, None, Result, if◌then◌else◌, IfSome, sym, subst, arith}
use Rattle.std.proofs.lemmas.List.Elements.{All-nil, All-append, All-head, All-push, All-tail, All-take}
use Rattle.std.proofs.Math.Nat.{mul-le-mul_right, suc-mul}
use Rattle.attrs.specs.declared.attributes.Attrs.{Attrs}
use Rattle.conf_ast.specs.Names.{name_bytes}
use Rattle.conf_ast.specs.declared.filters.LogicalOp.{LogicalOp}
use Rattle.conf_ast.specs.declared.filters.LogicalOp.TheVariants as logical_ops
use Rattle.conf_ast.specs.Configurations.{Routine}
use Rattle.conf_ast.specs.Filters.{Expression, Plain, Named, Called, Grouped, Paired, SetOf, MaskOf, IsDefined, MethodOf, PropertyOf, Changed, Negated, Multiplied, Added, Compared, Joined, Expressions, NoExpressions, AndExpressions, Statement, Braced, Nothing, Declare, Assign, ChangeBy, Clear, Unset, If, IfElse, Case, CaseElse, For, Accept, Reject, Return, Print, Printn, Call, Statements, NoStatements, AndStatements, Arms, NoArms, AndArms}
use Rattle.filt_meaning.specs.declared.value.Failure.{Failure}
use Rattle.filt_meaning.specs.Operators.{bool_in}
use Rattle.filt_meaning.specs.Values.{Val}
use Rattle.filt_meaning.specs.Configuration.{parameter_names, with_parameters}
use Rattle.filt_meaning.specs.Flow.{Flow, Done, Stopped, Frame, Run, plainly}
use Rattle.filt_meaning.specs.Items.{has_label}
use Rattle.filt_meaning.specs.Meaning.{Act, act, all_declared, defaults, elements, read, value, values, within}
use Rattle.filt_meaning.specs.Names.{Context, Doing, named_in, same_name, with_variables}
use Rattle.filt_types.specs.Scenes.{Scene, Signature, function_of}
use Rattle.filt_types.specs.Weight.{act_weight, acts_weight, arms_weight, block_weight, of_function, weight, weights, optional as optional_weight}
use Rattle.filt_steps.specs.Agreement.{Agree, FunctionsAgree, TakesAtMost}
use Rattle.filt_steps.specs.Limits.{IsWithin, AreWithin, AttrsAreWithin, Leaves}
use Rattle.filt_steps.specs.Steps.{Count, Counts, act_steps, acts_steps, all_steps, arm, arms_steps, behind, block, body_steps, both, call, cases, change, choice, choose, count_of, filter_steps, function_steps, in_turn, joined, loop, none, one, operands, optional, right_side, steps, turns, with_part}
use Rattle.filt_steps.proofs.Lists.{Elements, elements_kept}
use Rattle.filt_steps.proofs.Within.{Any, KeepsAll, RunKeeps, act_kept, any_ok, defaults_kept, inside_kept, parameters_kept, plainly_kept, target_read, value_kept, values_kept}

behind_flow : {A : Type 0} (P : A → Type 0) (n : ℕ) (flow : Flow A) (next : A → Attrs → ℕ)
    → Leaves P flow
    → ((a : A) (attrs : Attrs) → P a → AttrsAreWithin attrs → next a attrs ≤ n)
    → behind flow next ≤ n
behind_flow P n (Done a attrs) next l h = h a attrs l.0 l.1
behind_flow P n (Stopped why attrs) next l h = omega arith

behind_plain : {A : Type 0} (n : ℕ) (r : Result A Failure) (attrs : Attrs)
    (next : A → Attrs → ℕ) → AttrsAreWithin attrs
    → ((a : A) (attrs : Attrs) → AttrsAreWithin attrs → next a attrs ≤ n)
    → behind (plainly r attrs) next ≤ n
behind_plain n r attrs next w h =
    behind_flow Any n (plainly r attrs) next (plainly_kept Any r attrs (any_ok r) w)
    (λ a attrs p w. h a attrs w)

-- ---- forms of expressions

more : (n m : ℕ) (count : Count) → n ≤ m → TakesAtMost n count → TakesAtMost m count
more n m count h t vals attrs v w = omega (arith, h, t vals attrs v w)

none_takes : (n : ℕ) → TakesAtMost n none
none_takes n vals attrs v w = omega arith

one_takes : TakesAtMost 1 one
one_takes vals attrs v w = omega arith

with_part_takes : (n : ℕ) (part : Count) → TakesAtMost n part → TakesAtMost (1 + n) (with_part part)
with_part_takes n part t vals attrs v w = omega (arith, t vals attrs v w)

both_takes : (n m : ℕ) (a : Run Val) (first second : Count) → RunKeeps IsWithin a
    → TakesAtMost n first → TakesAtMost m second → TakesAtMost (n + m) (both a first second)
both_takes n m a first second k t u vals attrs v w =
    let rest = behind_flow IsWithin m (a vals attrs) (λ x attrs. second vals attrs)
    (k vals attrs v w) (λ x attrs p w. u vals attrs v w) in
    omega (arith, t vals attrs v w, rest)

operands_take : (n m : ℕ) (a : Run Val) (left right : Count) → RunKeeps IsWithin a
    → TakesAtMost n left → TakesAtMost m right → TakesAtMost (1 + n + m) (operands a left right)
operands_take n m a left right k t u vals attrs v w =
    omega (arith, both_takes n m a left right k t u vals attrs v w)

right_takes : (m : ℕ) (joint : LogicalOp) (holds : Bool) (right : Count) → TakesAtMost m right
    → TakesAtMost m (right_side joint holds right)
right_takes m logical_ops.And true right t = t
right_takes m logical_ops.And false right t = none_takes m
right_takes m logical_ops.Or true right t = none_takes m
right_takes m logical_ops.Or false right t = t

joined_takes : (n m : ℕ) (joint : LogicalOp) (a : Run Val) (left right : Count)
    → RunKeeps IsWithin a → TakesAtMost n left → TakesAtMost m right
    → TakesAtMost (1 + n + m) (joined joint a left right)
joined_takes n m joint a left right k t u vals attrs v w =
    let rest = behind_flow IsWithin m (a vals attrs)
    (λ x attrs. behind (plainly (bool_in x) attrs)
    (λ holds attrs. right_side joint holds right vals attrs)) (k vals attrs v w)
    (λ x attrs p w. behind_plain m (bool_in x) attrs
    (λ holds attrs. right_side joint holds right vals attrs) w
    (λ holds attrs w. right_takes m joint holds right u vals attrs v w)) in
    omega (arith, t vals attrs v w, rest)

call_takes : (n m : ℕ) (f : Option Count) (arguments : Run Frame) (all : Count)
    → IfSome f (TakesAtMost m) → RunKeeps AreWithin arguments → TakesAtMost n all
    → TakesAtMost (1 + n + m) (call f arguments all)
call_takes n m None arguments all h k t vals attrs v w = omega arith
call_takes n m (Some f) arguments all h k t vals attrs v w =
    let rest = behind_flow AreWithin m (arguments vals attrs) f (k vals attrs v w) h in
    omega (arith, t vals attrs v w, rest)

-- ---- functions of a name

found_here : (b : Bool) (n : Count) (s : Signature) (ns : Option Count) (ss : Option Signature)
    → TakesAtMost s.weight n → IfSome ns (TakesAtMost (of_function ss))
    → IfSome (if b then Some n else ns) (TakesAtMost (of_function (if b then Some s else ss)))
found_here true n s ns ss t h = t
found_here false n s ns ss t h = h

found : (fs : List (List ℕ × Doing)) (ss : List (List ℕ × Signature)) (ns : Counts)
    → FunctionsAgree fs ss ns → (name : List ℕ)
    → IfSome (named_in ns name) (TakesAtMost (of_function (named_in ss name)))
found [] [] [] h name = tt
found (f ∷ fs) (s ∷ ss) (n ∷ ns) h name =
    subst (λ (x : List ℕ). IfSome (if same_name x name then Some n.1 else named_in ns name)
    (TakesAtMost (of_function (if same_name s.0 name then Some s.1 else named_in ss name))))
    (sym h.1)
    (found_here (same_name s.0 name) n.1 s.1 (named_in ns name) (named_in ss name) h.2
    (found fs ss ns h.3 name))
found _ _ _ h name = absurd h

function_takes : (scene : Scene) (c : Context) (fs : Counts) → Agree scene c fs → (n : _)
    → IfSome (count_of c fs n) (TakesAtMost (of_function (function_of scene n)))
function_takes scene c fs a n =
    subst (λ (text : List ℕ). IfSome (named_in fs (name_bytes text n))
    (TakesAtMost (of_function (function_of scene n))))
    (sym a.text) (found c.functions scene.functions fs a.functions (name_bytes scene.text n))

-- ---- expressions

mutual
  pub value_takes : (e : Expression) (scene : Scene) (c : Context) (fs : Counts)
      → Agree scene c fs → TakesAtMost (weight scene e) (steps e c fs)
  value_takes (Plain s) scene c fs a = one_takes
  value_takes (Named n) scene c fs a = one_takes
  value_takes (Called n place es) scene c fs a =
      call_takes (weights scene es) (of_function (function_of scene n)) (count_of c fs n)
      (values es c) (all_steps es c fs) (function_takes scene c fs a n)
      (values_kept es c a.limits) (values_take es scene c fs a)
  value_takes (Grouped at e) scene c fs a =
      with_part_takes (weight scene e) (steps e c fs) (value_takes e scene c fs a)
  value_takes (Paired at l r) scene c fs a =
      operands_take (weight scene l) (weight scene r) (value l c) (steps l c fs) (steps r c fs)
      (value_kept l c a.limits) (value_takes l scene c fs a) (value_takes r scene c fs a)
  value_takes (SetOf at items) scene c fs a = one_takes
  value_takes (MaskOf at items) scene c fs a = one_takes
  value_takes (IsDefined at place attribute_at x) scene c fs a = one_takes
  value_takes (MethodOf m place l r) scene c fs a =
      operands_take (weight scene l) (weight scene r) (value l c) (steps l c fs) (steps r c fs)
      (value_kept l c a.limits) (value_takes l scene c fs a) (value_takes r scene c fs a)
  value_takes (PropertyOf e p) scene c fs a =
      with_part_takes (weight scene e) (steps e c fs) (value_takes e scene c fs a)
  value_takes (Changed l m place r) scene c fs a =
      operands_take (weight scene l) (weight scene r) (value l c) (steps l c fs) (steps r c fs)
      (value_kept l c a.limits) (value_takes l scene c fs a) (value_takes r scene c fs a)
  value_takes (Negated at e) scene c fs a =
      with_part_takes (weight scene e) (steps e c fs) (value_takes e scene c fs a)
  value_takes (Multiplied l op r) scene c fs a =
      operands_take (weight scene l) (weight scene r) (value l c) (steps l c fs) (steps r c fs)
      (value_kept l c a.limits) (value_takes l scene c fs a) (value_takes r scene c fs a)
  value_takes (Added l op r) scene c fs a =
      operands_take (weight scene l) (weight scene r) (value l c) (steps l c fs) (steps r c fs)
      (value_kept l c a.limits) (value_takes l scene c fs a) (value_takes r scene c fs a)
  value_takes (Compared l op r) scene c fs a =
      operands_take (weight scene l) (weight scene r) (value l c) (steps l c fs) (steps r c fs)
      (value_kept l c a.limits) (value_takes l scene c fs a) (value_takes r scene c fs a)
  value_takes (Joined l joint r) scene c fs a =
      joined_takes (weight scene l) (weight scene r) joint (value l c) (steps l c fs)
      (steps r c fs)
      (value_kept l c a.limits) (value_takes l scene c fs a) (value_takes r scene c fs a)

  pub values_take : (es : Expressions) (scene : Scene) (c : Context) (fs : Counts)
      → Agree scene c fs → TakesAtMost (weights scene es) (all_steps es c fs)
  values_take NoExpressions scene c fs a = none_takes 0
  values_take (AndExpressions e es) scene c fs a =
      both_takes (weight scene e) (weights scene es) (value e c) (steps e c fs)
      (all_steps es c fs)
      (value_kept e c a.limits) (value_takes e scene c fs a) (values_take es scene c fs a)

optional_takes : (e : Option Expression) (scene : Scene) (c : Context) (fs : Counts)
    → Agree scene c fs → TakesAtMost (optional_weight scene e) (optional e c fs)
optional_takes None scene c fs a = none_takes 0
optional_takes (Some e) scene c fs a = value_takes e scene c fs a

-- ---- forms of statements

in_turn_takes : (n m : ℕ) (a : Act) (first second : Count) → KeepsAll a → TakesAtMost n first
    → TakesAtMost m second → TakesAtMost (n + m) (in_turn a first second)
in_turn_takes n m a first second k t u vals attrs v w =
    let rest = behind_flow AreWithin m (a vals attrs) second (k vals attrs v w) u in
    omega (arith, t vals attrs v w, rest)

block_takes : (n : ℕ) (own : Frame) (body : Count) → AreWithin own → TakesAtMost n body
    → TakesAtMost (1 + n) (block own body)
block_takes n own body d t vals attrs v w =
    omega (arith, t (vals ++ own) attrs (All-append IsWithin vals own v d) w)

change_takes : (n : ℕ) (target : Run Val) (argument : Count) → RunKeeps IsWithin target
    → TakesAtMost n argument → TakesAtMost (1 + n) (change target argument)
change_takes n target argument k t vals attrs v w =
    let rest = behind_flow IsWithin n (target vals attrs) (λ x attrs. argument vals attrs)
    (k vals attrs v w) (λ x attrs p w. t vals attrs v w) in
    omega (arith, rest)

choose_takes : (n m : ℕ) (b : Bool) (first second : Count) → TakesAtMost n first
    → TakesAtMost m second → TakesAtMost (n + m) (choose b first second)
choose_takes n m true first second t u vals attrs v w =
    omega (arith, t vals attrs v w, u vals attrs v w)
choose_takes n m false first second t u vals attrs v w =
    omega (arith, t vals attrs v w, u vals attrs v w)

choice_takes : (l n m : ℕ) (a : Run Val) (condition first second : Count) → RunKeeps IsWithin a
    → TakesAtMost l condition → TakesAtMost n first → TakesAtMost m second
    → TakesAtMost (1 + l + n + m) (choice a condition first second)
choice_takes l n m a condition first second k s t u vals attrs v w =
    let rest = behind_flow IsWithin (n + m) (a vals attrs)
    (λ x attrs. behind (plainly (bool_in x) attrs)
    (λ holds attrs. choose holds first second vals attrs)) (k vals attrs v w)
    (λ x attrs p w. behind_plain (n + m) (bool_in x) attrs
    (λ holds attrs. choose holds first second vals attrs) w
    (λ holds attrs w. choose_takes n m holds first second t u vals attrs v w)) in
    omega (arith, s vals attrs v w, rest)

arm_takes : (n m : ℕ) (has : Result Bool Failure) (body otherwise : Count) → TakesAtMost n body
    → TakesAtMost m otherwise → TakesAtMost (n + m) (arm has body otherwise)
arm_takes n m has body otherwise t u vals attrs v w =
    behind_plain (n + m) has attrs (λ holds attrs. choose holds body otherwise vals attrs) w
    (λ holds attrs w. choose_takes n m holds body otherwise t u vals attrs v w)

cases_take : (n m : ℕ) (a : Run Val) (operand : Count) (arms_of : Val → Count)
    → RunKeeps IsWithin a → TakesAtMost n operand → ((x : Val) → TakesAtMost m (arms_of x))
    → TakesAtMost (1 + n + m) (cases a operand arms_of)
cases_take n m a operand arms_of k t u vals attrs v w =
    let rest = behind_flow IsWithin m (a vals attrs) (λ x attrs. arms_of x vals attrs)
    (k vals attrs v w) (λ x attrs p w. u x vals attrs v w) in
    omega (arith, t vals attrs v w, rest)

turns_take : (m n : ℕ) (xs : List Val) (body : Act) (turn : Count) → AreWithin xs → KeepsAll body
    → TakesAtMost m turn → TakesAtMost (length xs * m) (turns n xs body turn)
turns_take m n [] body turn h k t vals attrs v w = omega arith
turns_take m n (x ∷ xs) body turn h k t vals attrs v w =
    let seen = All-push IsWithin vals x v (All-head IsWithin x xs h) in
    let rest = behind_flow AreWithin (length xs * m) (body (vals ++ x ∷ []) attrs)
    (λ after attrs. turns n xs body turn (take n after) attrs)
    (k (vals ++ x ∷ []) attrs seen w)
    (λ after attrs u w. turns_take m n xs body turn (All-tail IsWithin x xs h) k t
    (take n after) attrs (All-take IsWithin n after u) w) in
    omega (arith, suc-mul (length xs) m, t (vals ++ x ∷ []) attrs seen w, rest)

loop_takes : (n m : ℕ) (a : Run Val) (list : Count) (body : Act) (turn : Count)
    → RunKeeps IsWithin a → KeepsAll body → TakesAtMost n list → TakesAtMost m turn
    → TakesAtMost (1 + n + 120 * m) (loop a list body turn)
loop_takes n m a list body turn k l t u vals attrs v w =
    let rest = behind_flow IsWithin (120 * m) (a vals attrs)
    (λ x attrs. behind (plainly (elements x) attrs)
    (λ xs attrs. turns (length vals) xs body turn vals attrs)) (k vals attrs v w)
    (λ x attrs p w. behind_flow Elements (120 * m) (plainly (elements x) attrs)
    (λ xs attrs. turns (length vals) xs body turn vals attrs)
    (plainly_kept Elements (elements x) attrs (elements_kept x p) w)
    (λ xs attrs q w. let all = turns_take m (length vals) xs body turn q.0 l u vals attrs v w in
    omega (arith, all, mul-le-mul_right m q.1))) in
    omega (arith, t vals attrs v w, rest)

-- ---- statements

agree_inside : (scene : Scene) (c : Context) (fs : Counts) (names : List (List ℕ))
    → Agree scene c fs → Agree scene (with_variables c names) fs
agree_inside scene c fs names a =
    record { text = a.text; limits = inside_kept c names a.limits; functions = a.functions }

mutual
  pub act_takes : (s : Statement) (scene : Scene) (c : Context) (fs : Counts) → Agree scene c fs
      → TakesAtMost (act_weight scene s) (act_steps s c fs)
  act_takes (Braced ss) scene c fs a =
      let own = all_declared c.text ss in
      block_takes (acts_weight scene ss) (defaults own) (acts_steps ss (within c own) fs)
      (defaults_kept own)
      (acts_take ss scene (within c own) fs (agree_inside scene c fs _ a))
  act_takes Nothing scene c fs a = one_takes
  act_takes (Declare t n e) scene c fs a =
      with_part_takes (optional_weight scene e) (optional e c fs) (optional_takes e scene c fs a)
  act_takes (Assign target e) scene c fs a =
      with_part_takes (weight scene e) (steps e c fs) (value_takes e scene c fs a)
  act_takes (ChangeBy target m place e) scene c fs a =
      change_takes (weight scene e) (value (read target) c) (steps e c fs)
      (target_read target c a.limits) (value_takes e scene c fs a)
  act_takes (Clear target) scene c fs a = one_takes
  act_takes (Unset place at x) scene c fs a = one_takes
  act_takes (If e s) scene c fs a =
      more (1 + weight scene e + act_weight scene s + 0) (1 + weight scene e + act_weight scene s)
      (choice (value e c) (steps e c fs) (act_steps s c fs) none) (omega arith)
      (choice_takes (weight scene e) (act_weight scene s) 0 (value e c) (steps e c fs)
      (act_steps s c fs) none (value_kept e c a.limits) (value_takes e scene c fs a)
      (act_takes s scene c fs a) (none_takes 0))
  act_takes (IfElse e s t) scene c fs a =
      choice_takes (weight scene e) (act_weight scene s) (act_weight scene t) (value e c)
      (steps e c fs) (act_steps s c fs) (act_steps t c fs) (value_kept e c a.limits)
      (value_takes e scene c fs a) (act_takes s scene c fs a) (act_takes t scene c fs a)
  act_takes (Case at e as_arms) scene c fs a =
      cases_take (weight scene e) (arms_weight scene as_arms) (value e c) (steps e c fs)
      (λ x. arms_steps as_arms c fs none x) (value_kept e c a.limits)
      (value_takes e scene c fs a)
      (λ x. more (arms_weight scene as_arms + 0) (arms_weight scene as_arms)
      (arms_steps as_arms c fs none x) (omega arith)
      (arms_take as_arms scene c fs 0 none x a (none_takes 0)))
  act_takes (CaseElse at e as_arms ss) scene c fs a =
      let otherwise = acts_steps ss c fs in
      let n = arms_weight scene as_arms in
      let m = acts_weight scene ss in
      more (1 + weight scene e + (n + m)) (1 + weight scene e + n + m)
      (cases (value e c) (steps e c fs) (λ x. arms_steps as_arms c fs otherwise x)) (omega arith)
      (cases_take (weight scene e) (n + m) (value e c) (steps e c fs)
      (λ x. arms_steps as_arms c fs otherwise x) (value_kept e c a.limits)
      (value_takes e scene c fs a)
      (λ x. arms_take as_arms scene c fs m otherwise x a (acts_take ss scene c fs a)))
  act_takes (For at t n e s) scene c fs a =
      let inside = with_variables c (name_bytes c.text n ∷ []) in
      loop_takes (weight scene e) (act_weight scene s) (value e c) (steps e c fs) (act s inside)
      (act_steps s inside fs) (value_kept e c a.limits)
      (act_kept s inside (inside_kept c _ a.limits)) (value_takes e scene c fs a)
      (act_takes s scene inside fs (agree_inside scene c fs _ a))
  act_takes Accept scene c fs a = one_takes
  act_takes Reject scene c fs a = one_takes
  act_takes (Return at e) scene c fs a =
      with_part_takes (optional_weight scene e) (optional e c fs) (optional_takes e scene c fs a)
  act_takes (Print es) scene c fs a =
      with_part_takes (weights scene es) (all_steps es c fs) (values_take es scene c fs a)
  act_takes (Printn es) scene c fs a =
      with_part_takes (weights scene es) (all_steps es c fs) (values_take es scene c fs a)
  act_takes (Call n place es) scene c fs a =
      call_takes (weights scene es) (of_function (function_of scene n)) (count_of c fs n)
      (values es c) (all_steps es c fs) (function_takes scene c fs a n)
      (values_kept es c a.limits) (values_take es scene c fs a)

  pub acts_take : (ss : Statements) (scene : Scene) (c : Context) (fs : Counts)
      → Agree scene c fs → TakesAtMost (acts_weight scene ss) (acts_steps ss c fs)
  acts_take NoStatements scene c fs a = none_takes 0
  acts_take (AndStatements s ss) scene c fs a =
      in_turn_takes (act_weight scene s) (acts_weight scene ss) (act s c) (act_steps s c fs)
      (acts_steps ss c fs) (act_kept s c a.limits) (act_takes s scene c fs a)
      (acts_take ss scene c fs a)

  arms_take : (as_arms : Arms) (scene : Scene) (c : Context) (fs : Counts) (m : ℕ)
      (otherwise : Count) (x : Val) → Agree scene c fs → TakesAtMost m otherwise
      → TakesAtMost (arms_weight scene as_arms + m) (arms_steps as_arms c fs otherwise x)
  arms_take NoArms scene c fs m otherwise x a t = more m (0 + m) otherwise (omega arith) t
  arms_take (AndArms labels ss rest) scene c fs m otherwise x a t =
      let n = acts_weight scene ss in
      let l = arms_weight scene rest in
      let later = arms_steps rest c fs otherwise x in
      more (n + (l + m)) (n + l + m) (arm (has_label c labels x) (acts_steps ss c fs) later)
      (omega arith)
      (arm_takes n (l + m) (has_label c labels x) (acts_steps ss c fs) later
      (acts_take ss scene c fs a) (arms_take rest scene c fs m otherwise x a t))

-- ---- functions and filters

body_takes : (scene : Scene) (c : Context) (fs : Counts) → Agree scene c fs
    → (names : List (List ℕ)) (ss : Statements)
    → TakesAtMost (acts_weight scene ss) (body_steps c fs names ss)
body_takes scene c fs a names ss vals attrs v w =
    let own = all_declared c.text ss in
    let seen : Agree scene (with_parameters c names) fs = record {
      text = a.text;
      limits = parameters_kept c names a.limits;
      functions = a.functions;
    } in
    acts_take ss scene (within (with_parameters c names) own) fs
    (agree_inside scene (with_parameters c names) fs _ seen) (vals ++ defaults own) attrs
    (All-append IsWithin vals (defaults own) v (defaults_kept own)) w

pub filter_takes : (scene : Scene) (c : Context) (fs : Counts) → Agree scene c fs
    → (ss : Statements) (attrs : Attrs) → AttrsAreWithin attrs
    → filter_steps c fs ss attrs ≤ acts_weight scene ss
filter_takes scene c fs a ss attrs w = body_takes scene c fs a [] ss [] attrs (All-nil IsWithin) w

pub routine_takes : (scene : Scene) (c : Context) (fs : Counts) → Agree scene c fs
    → (f : Routine) → TakesAtMost (block_weight scene f.body) (function_steps c fs f)
routine_takes scene c fs a f =
    more (acts_weight scene f.body) (block_weight scene f.body) (function_steps c fs f)
    (omega arith)
    (body_takes scene c fs a (parameter_names c.text f.parameters) f.body)
