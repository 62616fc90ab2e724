-- What is answered of a condition.
use Rattle.std.proofs.Common.{◌≡◌, ◌∙◌, sym, ap, refl, ℕ, Bool, true, false, List, [], ◌∷◌, Option, Some, None, Result, Ok, Err, true≢false, inr}
use Rattle.std.proofs.Math.Path.{fun_ext}
use Rattle.std.proofs.lemmas.Option.{none-some}
use Rattle.std.specs.Prelude.{if◌then◌else◌, is_some, IfOk, MatchOption}
use Rattle.attrs.specs.declared.attributes.Attrs.{Attrs}
use Rattle.bits_ip.specs.declared.memory.OutOfMemory.{OutOfMemory}
use Rattle.conf_ast.specs.Filters.{Expression}
use Rattle.filt_meaning.specs.Configuration as meaning
use Rattle.filt_meaning.specs.Configuration.{around_route, filter_where}
use Rattle.filt_meaning.specs.Names.{Around}
use Rattle.filt_types.specs.Refused.{of_filter}
use Rattle.filt_meaning.specs.Scopes.{constant_values, context_of, function_trees}
use Rattle.filt_meaning.specs.Trees.{tree_flow}
use Rattle.filt_meaning.specs.declared.scope.Scope.{Scope}
use Rattle.filt_meaning.specs.declared.tree.TFilter.{TFilter}
use Rattle.filt_types.specs.Refusals.{first_in, precedes}
use Rattle.filt_types.specs.Seen.{scene_of}
use Rattle.filt_types.specs.declared.refusal.Refusal.{Refusal}
use Rattle.conf_system.specs.Asked.{Asks, Refuses, unless_refused}
use Rattle.conf_system.specs.Conditions.{IsCondition, IsExpressionText, RefusesCondition}
use Rattle.conf_system.specs.Policies.{Filter}
use Rattle.conf_system.specs.Seen.{asked_over, filter_says, system_of, tree_says}
use Rattle.conf_system.specs.declared.system.System.{System as Held}

by_choice : (b : Bool) (x y : Refusal) → (r : Refusal) × ((if b then Some x else Some y) ≡ Some r)
by_choice true x y = (x, refl)
by_choice false x y = (y, refl)

some_first : (found : Refusal) (rs : List Refusal) → (r : Refusal) × (first_in (Some found) rs ≡ Some r)
some_first found [] = (found, refl)
some_first found (x ∷ rs) =
    let h = by_choice (precedes x found) x found in
    let k = some_first h.0 rs in
    (k.0, ap (λ (o : Option Refusal). first_in o rs) h.1 ∙ k.1)

-- where none is the first there is none
pub none_left : (rs : List Refusal) → first_in None rs ≡ None → rs ≡ []
none_left [] none = refl
none_left (x ∷ rs) none = let k = some_first x rs in absurd (none-some k.0 (sym none ∙ k.1))

none_asks : (rs : List Refusal) (f : Filter) → first_in None rs ≡ None → unless_refused rs f ≡ Asks f
none_asks rs f none = ap (λ (l : List Refusal). unless_refused l f) (none_left rs none)

some_refuses : (rs : List Refusal) (f : Filter) → is_some (first_in None rs) ≡ true → unless_refused rs f ≡ Refuses
some_refuses [] f some = absurd (true≢false (sym some))
some_refuses (x ∷ rs) f some = refl

module _ (scope : Scope) (names : List (List ℕ)) (text : List ℕ) (e : Expression) where
  pub asks : (f : TFilter) → first_in None (of_filter (scene_of text scope) 0 (filter_where e)) ≡ None
      → ((around : Around) (attrs : Attrs) → tree_flow around (constant_values scope) (function_trees scope) f attrs ≡ meaning.body (context_of text around scope []) [] (filter_where e) [] attrs)
      → asked_over scope names text e ≡ Asks (tree_says scope names f)
  asks f none does =
      none_asks (of_filter (scene_of text scope) 0 (filter_where e)) (λ net route. meaning.judged (context_of text (around_route names net route) scope []) (filter_where e) route.attrs) none
      ∙ ap (λ (g : Filter). Asks g) (fun_ext (λ net. fun_ext (λ route. sym (ap meaning.verdict_of (does (around_route names net route) route.attrs)))))

  pub refuses : is_some (first_in None (of_filter (scene_of text scope) 0 (filter_where e))) ≡ true → asked_over scope names text e ≡ Refuses
  refuses some =
      some_refuses (of_filter (scene_of text scope) 0 (filter_where e)) (λ net route. meaning.judged (context_of text (around_route names net route) scope []) (filter_where e) route.attrs) some

-- what is answered of a text that is an expression
pub answered : (held : Held) (text : List ℕ) (e : Expression) (r : Result (Option TFilter) OutOfMemory) → IsExpressionText text e
    → IfOk r (λ answer. MatchOption answer (asked_over held.checked.declared.scope held.names text e ≡ Refuses) (λ f. asked_over held.checked.declared.scope held.names text e ≡ Asks (tree_says held.checked.declared.scope held.names f)))
    → IfOk r (λ answer. MatchOption answer (RefusesCondition (system_of held) text) (λ f. IsCondition (system_of held) text (filter_says held f)))
answered held text e (Ok None) is refused = inr (e, is, refused)
answered held text e (Ok (Some f)) is asked = (e, is, asked)
answered held text e (Err memory) is nothing = tt
