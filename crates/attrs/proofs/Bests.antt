-- The best of a net's routes in a content, from routes in selection order.
use Rattle.std.proofs.Common.{◌≡◌, ◌≢◌, ℕ, List, [], ◌∷◌, Some, None, ⊎_elim, refl, sym, ◌∙◌, subst}
use Rattle.std.specs.Prelude.{Contains}
use Rattle.std.proofs.lemmas.Bool.{ne_eqb, cond-false}
use Rattle.bits_ip.specs.Prefix.{Net}
use Rattle.attrs.specs.declared.route.Route.{Route}
use Rattle.attrs.specs.History.{Content}
use Rattle.attrs.specs.Table.{AreRoutesOf, HasNone, IsBestOf, IsInOrder, IsOfSources, route_of}
use Rattle.attrs.proofs.Rows.{Contains-cons_cases, Contains-nothing, first_found, found_among, is_or_before}

none_among : (num : ℕ) (routes : List Route) (r : Route) → HasNone num routes → Contains routes r → r.src.num ≢ num
none_among num [] r none h = absurd (Contains-nothing r h)
none_among num (q ∷ qs) r none h =
    ⊎_elim (λ e. subst (λ (x : Route). x.src.num ≢ num) e none.0) (λ k. none_among num qs r none.1 k) (Contains-cons_cases q qs r h)

-- a route that stands among those of different sources is its source's
found_there : (routes : List Route) (r : Route) → IsOfSources routes → Contains routes r → route_of r.src.num routes ≡ Some r
found_there [] r s h = absurd (Contains-nothing r h)
found_there (q ∷ qs) r s h =
    ⊎_elim
    (λ e. subst (λ (x : Route). route_of x.src.num (q ∷ qs) ≡ Some x) e (first_found q qs))
    (λ k. cond-false _ _ _ (ne_eqb q.src.num r.src.num (λ e. none_among q.src.num qs r s.0 k (sym e))) ∙ found_there qs r s.1 k)
    (Contains-cons_cases q qs r h)

none_there : (routes : List Route) → ((num : ℕ) → route_of num routes ≡ None) → routes ≡ []
none_there [] none = refl
none_there (r ∷ routes) none = let h = sym (none r.src.num) ∙ first_found r routes in cc

pub best_of_none : (content : Content) (net : Net) → AreRoutesOf content net [] → IsBestOf content net None
best_of_none content net are routes also = none_there routes (λ num. also.are num ∙ sym (are.are num))

pub best_of_first : (content : Content) (net : Net) (r : Route) (rest : List Route) → AreRoutesOf content net (r ∷ rest) → IsInOrder (r ∷ rest) → IsBestOf content net (Some r)
best_of_first content net r rest are order routes also =
    let found : (num : ℕ) → route_of num routes ≡ route_of num (r ∷ rest) = λ num. also.are num ∙ sym (are.are num) in (
      found_among r.src.num routes r (found r.src.num ∙ first_found r rest),
      λ other among differs.
          ⊎_elim (λ e. absurd (differs (sym e))) (λ b. b)
          (is_or_before r rest other order (sym (found other.src.num) ∙ found_there routes other also.sources among)),
    )
