-- Filters, conditions and functions that aren't too heavy take few steps.
use Rattle.std.proofs.Common.{◌≡◌, ℕ, ◌+◌, ◌*◌, ◌≤◌, ◌++◌, Bool, true, false, nat_lt, if◌then◌else◌, List, [], ◌∷◌, Option, Some, None, refl, ap, ◌∙◌, arith, Box}
use Rattle.std.specs.Global.{Global}
use Rattle.std.proofs.lemmas.Bool.{ltb-false}
use Rattle.std.proofs.lemmas.Option.{none-some}
use Rattle.conf_ast.specs.Filters.{Expression}
use Rattle.filt_meaning.specs.Configuration.{filter_where}
use Rattle.filt_meaning.specs.declared.tree.TExpr.{TExpr}
use Rattle.filt_meaning.specs.declared.tree.TStmt.{TStmt}
use Rattle.filt_meaning.specs.declared.tree.TStmt.TheVariants as ts
use Rattle.filt_meaning.specs.Steps.{body_steps, expr_steps, stmt_steps}
use Rattle.filt_meaning.proofs.Steps as s
use Rattle.filt_types.specs.declared.refusal.Refusal.{Refusal}
use Rattle.filt_types.specs.declared.refusal.Cause.TheVariants as causes
use Rattle.filt_types.specs.Refusals.{first_in, precedes, refused_if}
use Rattle.filt_types.specs.Scenes.{Scene}
use Rattle.filt_types.specs.Weight.{block_weight, capped, too_heavy, weight}
use Rattle.filt_check.proofs.Loaded as w

-- ---- what isn't refused

by_choice : (b : Bool) (x y : Refusal) → (r : Refusal) × ((if b then Some x else Some y) ≡ Some r)
by_choice true x y = (x, refl)
by_choice false x y = (y, refl)

found_stays : (found : Refusal) (rs : List Refusal) → (r : Refusal) × (first_in (Some found) rs ≡ Some r)
found_stays found [] = (found, refl)
found_stays found (x ∷ rs) =
    let h = by_choice (precedes x found) x found in
    let k = found_stays h.0 rs in
    (k.0, ap (λ (o : Option Refusal). first_in o rs) h.1 ∙ k.1)

weighed_by : (b : Bool) (at n : ℕ) (rs : List Refusal) → nat_lt 10000000 n ≡ b → None ≡ first_in None (refused_if b at causes.TooHeavy ++ rs) → n ≤ 10000000
weighed_by true at n rs is e = let k = found_stays (record { at = at; cause = causes.TooHeavy }) rs in absurd (none-some k.0 (e ∙ k.1))
weighed_by false at n rs is e = ltb-false 10000000 n is

-- where nothing is refused it isn't too heavy
pub not_heavy : (at n : ℕ) (rs : List Refusal) → None ≡ first_in None (too_heavy at n ++ rs) → n ≤ 10000000
not_heavy at n rs e = weighed_by (nat_lt 10000000 n) at n rs refl e

pub few_steps : (steps n : ℕ) → steps ≤ 5 * n → n ≤ 10000000 → steps ≤ 50000000
few_steps steps n h light = omega (arith, h, light)

pub own_weight : (steps n weight : ℕ) → steps ≤ 5 * n → n ≤ 10000000 → weight ≡ capped n → steps ≤ 5 * weight
own_weight steps n weight h light is =
    let less : n ≤ capped n = omega (arith, light) in
    omega (arith, h, less, is)

-- ---- conditions

pub where_steps : (called : ℕ → ℕ) (x : TExpr) (b : Box TStmt Global) (l : List TStmt) → b.value ≡ ts.Accept → l ≡ ts.If x b ∷ ts.Reject ∷ [] → body_steps called l ≡ 3 + expr_steps called x
where_steps called x b l accepts is =
    let a : body_steps called l ≡ stmt_steps called (ts.If x b) + (stmt_steps called ts.Reject + 0) = ap (λ (l : List TStmt). body_steps called l) is in
    let e : stmt_steps called b.value ≡ 1 = ap (λ (y : TStmt). stmt_steps called y) accepts ∙ w.act-steps-Accept called in
    omega (arith, a, e, s.act-steps-If called x b, w.act-steps-Reject called)

pub where_weight : (scene : Scene) (x : Expression) → 1 + weight scene x ≤ block_weight scene (filter_where x)
where_weight scene x = omega arith
