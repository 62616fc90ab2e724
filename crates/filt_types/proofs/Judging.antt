-- Judgements of expressions: a whole of its parts, one part more, and chains from left to right.
use Rattle.std.proofs.Common.{◌≡◌, ℕ, suc, Bool, true, false, ◌&&◌, ◌==◌, not, if◌then◌else◌, List, [], ◌∷◌, ◌++◌, length, drop, Option, Some, None, refl, ap, ◌∙◌, sym, Box, Vec}
use Rattle.std.proofs.Math.Dec.{eqb-suc-zero}
use Rattle.std.specs.Global.{Global}
use Rattle.conf_ast.specs.declared.named.Name.{Name}
use Rattle.conf_ast.specs.declared.filters.Access.{Access}
use Rattle.conf_ast.specs.declared.filters.Access.TheVariants as parts
use Rattle.conf_ast.specs.declared.filters.CompareOp.{CompareOp}
use Rattle.conf_ast.specs.declared.filters.Expr.{Expr}
use Rattle.conf_ast.specs.declared.filters.Expr.TheVariants as e
use Rattle.conf_ast.specs.declared.filters.MulOp.{MulOp}
use Rattle.conf_ast.specs.declared.filters.LogicalOp.{LogicalOp}
use Rattle.conf_ast.specs.declared.filters.Method.{Method}
use Rattle.conf_ast.specs.declared.filters.AddOp.{AddOp}
use Rattle.filt_meaning.specs.declared.value.Sort.{Sort}
use Rattle.conf_ast.specs.Filters.{Expression, Multiplied, Added, Joined, PropertyOf, Changed, multiplied, added, joined, accessed, expression_of, expressions_of}
use Rattle.filt_types.specs.declared.judged.Judged.{Judged}
use Rattle.filt_types.specs.declared.refusal.Cause.TheVariants as causes
use Rattle.filt_types.specs.declared.refusal.Refusal.{Refusal}
use Rattle.filt_types.specs.declared.scene.Seen.{Seen}
use Rattle.filt_types.specs.Expressions as ex
use Rattle.filt_types.specs.Expressions.{Judgement, judge, judge_all, of_one, of_two, between, wanted, wants, disagree, all_refusals, arguments_fit, arguments_wanted, is_taken}
use Rattle.filt_types.specs.Refusals.{first_in, first_of, refused_if}
use Rattle.filt_meaning.specs.Rules.{RuleOfOne, RuleOfTwo, left_of, right_of, arithmetic, pairing, joining, comparing, method, negating, property, same_sort}
use Rattle.filt_types.specs.Scenes.{Signature, function_of}
use Rattle.filt_types.specs.Seen.{scene_in, variables_in}
use Rattle.filt_types.specs.Walk.{said_of, bare, access_of, accesses_of, operands_of, with_access, call_at, front_of, is_of_parameter, wants_parameter}
use Rattle.filt_types.proofs.Firsts.{first_append, first_two, lists_past}
use Rattle.filt_types.proofs.Trees as tree

abbrev pub of_expr : Seen → Expr → Judgement
of_expr seen x = judge (scene_in seen) (variables_in seen) (expression_of x)

abbrev pub of_exprs : Seen → List Expr → List Judgement
of_exprs seen xs = judge_all (scene_in seen) (variables_in seen) (expressions_of xs)

-- ---- forms

pub of-Call : (seen : Seen) (n : Name) (place : ℕ) (v : Vec Expr Global) → of_expr seen (e.Call n place v) ≡ ex.called n (function_of (scene_in seen) n) (of_exprs seen v.items)
of-Call seen n place v = ap (judge (scene_in seen) (variables_in seen)) (tree.is-Call n place v)

pub of-MethodCall : (seen : Seen) (m : Method) (place : ℕ) (a b : Box Expr Global) → of_expr seen (e.MethodCall m place a b) ≡ of_two m.at (method m.kind) (of_expr seen a.value) (of_expr seen b.value)
of-MethodCall seen m place a b = ap (judge (scene_in seen) (variables_in seen)) (tree.is-MethodCall m place a b)

pub of-Not : (seen : Seen) (at : ℕ) (a : Box Expr Global) → of_expr seen (e.Not at a) ≡ of_one at negating (of_expr seen a.value)
of-Not seen at a = ap (judge (scene_in seen) (variables_in seen)) (tree.is-Not at a)

pub of-Compare : (seen : Seen) (op : CompareOp) (a b : Box Expr Global) → of_expr seen (e.Compare op a b) ≡ between (comparing op) (of_expr seen a.value) (of_expr seen b.value)
of-Compare seen op a b = ap (judge (scene_in seen) (variables_in seen)) (tree.is-Compare op a b)

-- ---- wholes and parts

three_apart : (f : Option Refusal) (xs ys zs ws : List Refusal) → first_in f (xs ++ ys ++ zs ++ ws) ≡ first_in (first_in f xs) (ys ++ zs ++ ws)
three_apart f xs ys zs ws =
    first_append f (xs ++ ys ++ zs) ws
    ∙ ap (λ (x : Option Refusal). first_in x ws) (first_append f (xs ++ ys) zs ∙ ap (λ (x : Option Refusal). first_in x zs) (first_append f xs ys) ∙ sym (first_append (first_in f xs) ys zs))
    ∙ sym (first_append (first_in f xs) (ys ++ zs) ws)

pub two_first : (f : Option Refusal) (at : ℕ) (rule : RuleOfTwo) (a b : Judgement) → first_in f (of_two at rule a b).refusals ≡ first_in (first_in f a.refusals) (of_two at rule (bare (said_of a)) b).refusals
two_first f at rule a b = three_apart f a.refusals (wants (left_of rule.takes) a) (wanted (right_of rule.takes) b) (refused_if (disagree rule.takes a.sort b.sort) at causes.Mismatch)

pub one_first : (f : Option Refusal) (at : ℕ) (rule : RuleOfOne) (a : Judgement) → first_in f (of_one at rule a).refusals ≡ first_in (first_in f a.refusals) (of_one at rule (bare (said_of a))).refusals
one_first f at rule a = first_append f a.refusals (wants rule.takes a)

-- the right operand behind the left one
pub whole_first : (at : ℕ) (rule : RuleOfTwo) (left right : Judged) (j : Judgement) (f g h k l : Option Refusal) → g ≡ first_in f (wants (left_of rule.takes) (bare left)) → h ≡ first_in g j.refusals → right ≡ said_of j → k ≡ first_in h (wants (right_of rule.takes) (bare right)) → l ≡ first_in k (refused_if (disagree rule.takes left.sort right.sort) at causes.Mismatch) → l ≡ first_in f (of_two at rule (bare left) j).refusals
whole_first at rule left right j f g h k l p q is r s =
    let r' = r ∙ ap (λ (x : Judged). first_in h (wants (right_of rule.takes) (bare x))) is in
    let s' = s ∙ ap (λ (x : Judged). first_in k (refused_if (disagree rule.takes left.sort x.sort) at causes.Mismatch)) is in
    let b = first_two j.refusals (wants (right_of rule.takes) j) g h k q r' in
    first_two (wants (left_of rule.takes) (bare left) ++ wanted (right_of rule.takes) j) (refused_if (disagree rule.takes left.sort j.sort) at causes.Mismatch) f k l
    (first_two (wants (left_of rule.takes) (bare left)) (wanted (right_of rule.takes) j) f g k p b) s'

pub after_first : (at : ℕ) (rule : RuleOfTwo) (a b : Judgement) (said : Judged) (f g h : Option Refusal) → said ≡ said_of a → g ≡ first_in f a.refusals → h ≡ first_in g (of_two at rule (bare said) b).refusals → h ≡ first_in f (of_two at rule a b).refusals
after_first at rule a b said f g h is p q = q ∙ ap (λ (x : Judged). first_in g (of_two at rule (bare x) b).refusals) is ∙ ap (λ (x : Option Refusal). first_in x (of_two at rule (bare (said_of a)) b).refusals) p ∙ sym (two_first f at rule a b)

pub between_first : (rule : RuleOfTwo) (a b : Judgement) (said : Judged) (f g h : Option Refusal) → said ≡ said_of a → g ≡ first_in f a.refusals → h ≡ first_in g (of_two said.at rule (bare said) b).refusals → h ≡ first_in f (between rule a b).refusals
between_first rule a b said f g h is p q = q ∙ ap (λ (x : Judged). first_in g (of_two x.at rule (bare x) b).refusals) is ∙ ap (λ (x : Option Refusal). first_in x (of_two a.at rule (bare (said_of a)) b).refusals) p ∙ sym (two_first f a.at rule a b)

pub alone_first : (at : ℕ) (rule : RuleOfOne) (a : Judgement) (said : Judged) (f g h : Option Refusal) → said ≡ said_of a → g ≡ first_in f a.refusals → h ≡ first_in g (of_one at rule (bare said)).refusals → h ≡ first_in f (of_one at rule a).refusals
alone_first at rule a said f g h is p q = q ∙ ap (λ (x : Judged). first_in g (of_one at rule (bare x)).refusals) is ∙ ap (λ (x : Option Refusal). first_in x (of_one at rule (bare (said_of a))).refusals) p ∙ sym (one_first f at rule a)

-- ---- chains

abbrev pub walk : {X : Type 0} → (Judgement → X → Judgement) → Judgement → List X → Judgement
walk step j [] = j
walk step j (x ∷ more) = walk step (step j x) more

-- what a step makes of a judgement goes by its sort and place, and adds refusals behind
pub record Adds {X : Type 0} (step : Judgement → X → Judgement) : Type 0 where
  pub said : (j : Judgement) (x : X) → said_of (step j x) ≡ said_of (step (bare (said_of j)) x)
  pub first : (f : Option Refusal) (j : Judgement) (x : X) → first_in f (step j x).refusals ≡ first_in (first_in f j.refusals) (step (bare (said_of j)) x).refusals

pub walk_said : {X : Type 0} (step : Judgement → X → Judgement) → Adds step → (j : Judgement) (xs : List X) → said_of (walk step j xs) ≡ said_of (walk step (bare (said_of j)) xs)
walk_said step adds j [] = refl
walk_said step adds j (x ∷ xs) = walk_said step adds (step j x) xs ∙ ap (λ (s : Judged). said_of (walk step (bare s) xs)) (adds.said j x) ∙ sym (walk_said step adds (step (bare (said_of j)) x) xs)

pub walk_first : {X : Type 0} (step : Judgement → X → Judgement) → Adds step → (f : Option Refusal) (j : Judgement) (xs : List X) → first_in f (walk step j xs).refusals ≡ first_in (first_in f j.refusals) (walk step (bare (said_of j)) xs).refusals
walk_first step adds f j [] = refl
walk_first step adds f j (x ∷ xs) =
    walk_first step adds f (step j x) xs
    ∙ ap (λ (g : Option Refusal). first_in g (walk step (bare (said_of (step j x))) xs).refusals) (adds.first f j x)
    ∙ ap (λ (s : Judged). first_in (first_in (first_in f j.refusals) (step (bare (said_of j)) x).refusals) (walk step (bare s) xs).refusals) (adds.said j x)
    ∙ sym (walk_first step adds (first_in f j.refusals) (step (bare (said_of j)) x) xs)

pub more_said : {X : Type 0} (step : Judgement → X → Judgement) → Adds step → (start left new : Judged) (x : X) (all rest : List X) → said_of (walk step (bare start) all) ≡ said_of (walk step (bare left) (x ∷ rest)) → new ≡ said_of (step (bare left) x) → said_of (walk step (bare start) all) ≡ said_of (walk step (bare new) rest)
more_said step adds start left new x all rest before is = before ∙ walk_said step adds (step (bare left) x) rest ∙ ap (λ (s : Judged). said_of (walk step (bare s) rest)) (sym is)

pub more_first : {X : Type 0} (step : Judgement → X → Judgement) → Adds step → (start left new : Judged) (x : X) (all rest : List X) (f g h : Option Refusal) → first_in f (walk step (bare start) all).refusals ≡ first_in g (walk step (bare left) (x ∷ rest)).refusals → new ≡ said_of (step (bare left) x) → h ≡ first_in g (step (bare left) x).refusals → first_in f (walk step (bare start) all).refusals ≡ first_in h (walk step (bare new) rest).refusals
more_first step adds start left new x all rest f g h before is p =
    before ∙ walk_first step adds g (step (bare left) x) rest ∙ ap (λ (s : Judged). first_in (first_in g (step (bare left) x).refusals) (walk step (bare s) rest).refusals) (sym is) ∙ ap (λ (k : Option Refusal). first_in k (walk step (bare new) rest).refusals) (sym p)

pub end_said : {X : Type 0} (step : Judgement → X → Judgement) → Adds step → (j : Judgement) (start last : Judged) (all rest : List X) → start ≡ said_of j → said_of (walk step (bare start) all) ≡ said_of (walk step (bare last) rest) → rest ≡ [] → last ≡ said_of (walk step j all)
end_said {X = X} step adds j start last all rest is before done =
    sym (walk_said step adds j all ∙ ap (λ (s : Judged). said_of (walk step (bare s) all)) (sym is) ∙ before ∙ ap (λ (xs : List X). said_of (walk step (bare last) xs)) done)

pub end_first : {X : Type 0} (step : Judgement → X → Judgement) → Adds step → (j : Judgement) (start last : Judged) (all rest : List X) (f g h : Option Refusal) → start ≡ said_of j → g ≡ first_in f j.refusals → first_in g (walk step (bare start) all).refusals ≡ first_in h (walk step (bare last) rest).refusals → rest ≡ [] → h ≡ first_in f (walk step j all).refusals
end_first {X = X} step adds j start last all rest f g h is p before done =
    sym (walk_first step adds f j all ∙ ap (λ (k : Option Refusal). first_in k (walk step (bare (said_of j)) all).refusals) (sym p) ∙ ap (λ (s : Judged). first_in g (walk step (bare s) all).refusals) (sym is) ∙ before ∙ ap (λ (xs : List X). first_in h (walk step (bare last) xs).refusals) done)

-- an operator and the operand behind it
abbrev pub link : {Op : Type 0} → Seen → RuleOfTwo → Judgement → Op × Expr → Judgement
link seen rule j x = between rule j (of_expr seen x.1)

pub link_adds : {Op : Type 0} (seen : Seen) (rule : RuleOfTwo) → Adds {X = Op × Expr} (link seen rule)
link_adds seen rule = record {
  said = λ j x. refl;
  first = λ f j x. two_first f j.at rule j (of_expr seen x.1);
}

abbrev pub reach : Seen → Judgement → Access Expr → Judgement
reach seen j a = with_access (scene_in seen) (variables_in seen) j (access_of a)

reach_said : (seen : Seen) (j : Judgement) (a : Access Expr) → said_of (reach seen j a) ≡ said_of (reach seen (bare (said_of j)) a)
reach_said seen j (parts.Property p) = refl
reach_said seen j (parts.Method m place x) = refl

reach_first : (seen : Seen) (f : Option Refusal) (j : Judgement) (a : Access Expr) → first_in f (reach seen j a).refusals ≡ first_in (first_in f j.refusals) (reach seen (bare (said_of j)) a).refusals
reach_first seen f j (parts.Property p) = one_first f j.at (property p) j
reach_first seen f j (parts.Method m place x) = two_first f j.at (method m.kind) j (of_expr seen x)

pub reach_adds : (seen : Seen) → Adds {X = Access Expr} (reach seen)
reach_adds seen = record { said = reach_said seen; first = reach_first seen }

pub product_is : (seen : Seen) (a : Expression) (xs : List (MulOp × Expr)) → judge (scene_in seen) (variables_in seen) (multiplied a (operands_of xs)) ≡ walk (link seen arithmetic) (judge (scene_in seen) (variables_in seen) a) xs
product_is seen a [] = refl
product_is seen a (x ∷ xs) = product_is seen (Multiplied a x.0 (expression_of x.1)) xs

pub sum_is : (seen : Seen) (a : Expression) (xs : List (AddOp × Expr)) → judge (scene_in seen) (variables_in seen) (added a (operands_of xs)) ≡ walk (link seen arithmetic) (judge (scene_in seen) (variables_in seen) a) xs
sum_is seen a [] = refl
sum_is seen a (x ∷ xs) = sum_is seen (Added a x.0 (expression_of x.1)) xs

pub joint_is : (seen : Seen) (a : Expression) (xs : List (LogicalOp × Expr)) → judge (scene_in seen) (variables_in seen) (joined a (operands_of xs)) ≡ walk (link seen joining) (judge (scene_in seen) (variables_in seen) a) xs
joint_is seen a [] = refl
joint_is seen a (x ∷ xs) = joint_is seen (Joined a x.0 (expression_of x.1)) xs

pub access_is : (seen : Seen) (a : Expression) (xs : List (Access Expr)) → judge (scene_in seen) (variables_in seen) (accessed a (accesses_of xs)) ≡ walk (reach seen) (judge (scene_in seen) (variables_in seen) a) xs
access_is seen a [] = refl
access_is seen a (parts.Property p ∷ xs) = access_is seen (PropertyOf a p) xs
access_is seen a (parts.Method m place x ∷ xs) = access_is seen (Changed a m place (expression_of x)) xs

-- ---- calls

-- as `all_refusals` and `arguments_wanted`, one argument after another
abbrev pub each_wanted : List Sort → List Judgement → List Refusal
each_wanted sorts [] = []
each_wanted sorts (j ∷ js) = j.refusals ++ (wants_parameter (front_of sorts) j ++ each_wanted (drop 1 sorts) js)

pub each_first : (f : Option Refusal) (ss : List Sort) (js : List Judgement) → first_in f (each_wanted ss js) ≡ first_in f (all_refusals js ++ arguments_wanted ss js)
each_first f [] [] = refl
each_first f (s ∷ ss) [] = refl
each_first f [] (j ∷ js) =
    first_append f j.refusals (each_wanted [] js) ∙ each_first (first_in f j.refusals) [] js ∙ first_append (first_in f j.refusals) (all_refusals js) []
    ∙ sym (first_append f (j.refusals ++ all_refusals js) [] ∙ first_append f j.refusals (all_refusals js))
each_first f (s ∷ ss) (j ∷ js) =
    let w = wants (same_sort s) j in
    let g = first_in f j.refusals in
    first_append f j.refusals (w ++ each_wanted ss js) ∙ first_append g w (each_wanted ss js) ∙ each_first (first_in g w) ss js ∙ first_append (first_in g w) (all_refusals js) (arguments_wanted ss js)
    ∙ ap (λ (x : Option Refusal). first_in x (arguments_wanted ss js)) (lists_past g (all_refusals js) w)
    ∙ sym (first_append f (j.refusals ++ all_refusals js) (w ++ arguments_wanted ss js) ∙ ap (λ (x : Option Refusal). first_in x (w ++ arguments_wanted ss js)) (first_append f j.refusals (all_refusals js)) ∙ first_append (first_in g (all_refusals js)) w (arguments_wanted ss js))

pub fit_more : (ss : List Sort) (j : Judgement) (js : List Judgement) → arguments_fit ss (j ∷ js) ≡ (is_of_parameter (front_of ss) j.sort && arguments_fit (drop 1 ss) js)
fit_more [] j js = refl
fit_more (s ∷ ss) j js = refl

pub fit_end : (ss : List Sort) → arguments_fit ss [] ≡ (length ss == 0)
fit_end [] = refl
fit_end (s ∷ ss) = sym (eqb-suc-zero (length ss))

and_false : (b : Bool) → (b && false) ≡ false
and_false true = refl
and_false false = refl

pub fit_not : (ss : List Sort) (js : List Judgement) → (length ss ≡ length js → ⊥) → arguments_fit ss js ≡ false
fit_not [] [] other = absurd (other refl)
fit_not [] (j ∷ js) other = refl
fit_not (s ∷ ss) [] other = refl
fit_not (s ∷ ss) (j ∷ js) other = ap (λ (b : Bool). is_taken (same_sort s) j.sort && b) (fit_not ss js (λ is. other (ap suc is))) ∙ and_false (is_taken (same_sort s) j.sort)

pub as_many : (seen : Seen) (xs : List Expr) → length (of_exprs seen xs) ≡ length xs
as_many seen [] = refl
as_many seen (x ∷ xs) = ap suc (as_many seen xs)

append_nothing : (f : Option Refusal) (xs : List Refusal) → first_in f (xs ++ []) ≡ first_in f xs
append_nothing f xs = first_append f xs []

pub call_fits : (f : Option Refusal) (at : ℕ) (s : Signature) (js : List Judgement) → (length s.parameters == length js) ≡ true → first_in f (call_at at s js) ≡ first_in f (all_refusals js ++ arguments_wanted s.parameters js)
call_fits f at s js same = ap (λ (b : Bool). first_in f (refused_if (not b) at causes.Mismatch ++ all_refusals js ++ (if b then arguments_wanted s.parameters js else []))) same

pub call_differs : (f : Option Refusal) (at : ℕ) (s : Signature) (js : List Judgement) → (length s.parameters == length js) ≡ false → first_in f (call_at at s js) ≡ first_in (first_of f (record { at = at; cause = causes.Mismatch })) (all_refusals js)
call_differs f at s js other =
    ap (λ (b : Bool). first_in f (refused_if (not b) at causes.Mismatch ++ all_refusals js ++ (if b then arguments_wanted s.parameters js else []))) other
    ∙ append_nothing (first_of f (record { at = at; cause = causes.Mismatch })) (all_refusals js)

pub wants_bare : (p : Option Sort) (j : Judgement) → wants_parameter p (bare (said_of j)) ≡ wants_parameter p j
wants_bare None j = refl
wants_bare (Some s) j = refl

-- ---- pairs

pub pair_first : (at : ℕ) (a b : Judgement) (m n : Option ℕ) (left right : Judged) (f g h k l p q r : Option Refusal) → left ≡ said_of a → g ≡ first_in f a.refusals → h ≡ first_in g (wants (left_of pairing.takes) (bare left)) → right ≡ said_of b → k ≡ first_in h b.refusals → l ≡ first_in k (wants (right_of pairing.takes) (bare right)) → p ≡ first_in l (refused_if (disagree pairing.takes left.sort right.sort) at causes.Mismatch) → q ≡ first_in p (ex.over_16_bits m left.at) → r ≡ first_in q (ex.over_16_bits n right.at) → r ≡ first_in f (ex.pair at m n a b).refusals
pair_first at a b m n left right f g h k l p q r la fa wa lb fb wb whole over_left over_right =
    let both = after_first at pairing a b left f g p la fa (whole_first at pairing left right b g h k l p wa fb lb wb whole) in
    let one = first_two (of_two at pairing a b).refusals (ex.over_16_bits m a.at) f p q both (over_left ∙ ap (λ (s : Judged). first_in p (ex.over_16_bits m s.at)) la) in
    first_two ((of_two at pairing a b).refusals ++ ex.over_16_bits m a.at) (ex.over_16_bits n b.at) f q r one (over_right ∙ ap (λ (s : Judged). first_in q (ex.over_16_bits n s.at)) lb)
