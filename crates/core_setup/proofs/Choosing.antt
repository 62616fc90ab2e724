-- The best of the routes that sources have: the fold over their numbers comes to it.
use Rattle.std.proofs.Common.{◌≡◌, ◌≢◌, ℕ, zero, suc, ◌<◌, ◌≤◌, ◌⊎◌, inl, inr, Bool, true, false, cond, not, List, [], ◌∷◌, Option, Some, None, refl, sym, ◌∙◌, ap, subst, arith}
use Rattle.std.specs.Prelude.{Contains, if◌then◌else◌}
use Rattle.std.proofs.lemmas.Bool.{cond-false, ne_eqb}
use Rattle.std.proofs.lemmas.Bool.Decides.{eqb_tells, nat_tests}
use Rattle.attrs.specs.declared.route.Route.{Route}
use Rattle.attrs.specs.Selection.{IsBest, before}
use Rattle.attrs.specs.Table.{HasNone, IsOfSources, route_of}
use Rattle.attrs.proofs.Rows.{Contains-cons_cases, Contains-nothing, before_chain, before_one, first_found, found_among}
use Rattle.core_setup.specs.Choice.{best_below, preferred}

none_some : {A : Type 0} {B : Type 0} {x : A} → None ≡ Some x → B
none_some e = cc

some_same : {A : Type 0} {x y : A} → Some x ≡ Some y → x ≡ y
some_same e = cc

-- ---- routes of different sources

none_among : (num : ℕ) (routes : List Route) (r : Route) → HasNone num routes → Contains routes r → r.src.num ≢ num
none_among num [] r none h = absurd (Contains-nothing r h)
none_among num (q ∷ qs) r none h = elim (Contains-cons_cases q qs r h) [
  | inl e ↦ subst (λ (x : Route). x.src.num ≢ num) e none.0
  | inr k ↦ none_among num qs r none.1 k
]

-- a route that stands among those of different sources is its source's
found_there : (routes : List Route) (r : Route) → IsOfSources routes → Contains routes r → route_of r.src.num routes ≡ Some r
found_there [] r s h = absurd (Contains-nothing r h)
found_there (q ∷ qs) r s h = elim (Contains-cons_cases q qs r h) [
  | inl e ↦ subst (λ (x : Route). route_of x.src.num (q ∷ qs) ≡ Some x) e (first_found q qs)
  | inr k ↦ cond-false _ _ _ (ne_eqb q.src.num r.src.num (λ e. none_among q.src.num qs r s.0 k (sym e))) ∙ found_there qs r s.1 k
]

none_there : (routes : List Route) → ((num : ℕ) → route_of num routes ≡ None) → routes ≡ []
none_there [] none = refl
none_there (r ∷ routes) none = none_some (sym (none r.src.num) ∙ first_found r routes)

-- a route that is found is of the source that was looked for
found_named : (num : ℕ) (routes : List Route) (r : Route) → route_of num routes ≡ Some r → r.src.num ≡ num
found_named num [] r e = none_some e
found_named num (q ∷ qs) r e = elim (eqb_tells q.src.num num) [
  | inl w ↦ subst (λ (x : Route). x.src.num ≡ num) (some_same (sym (ap (λ t. cond t (Some q) (route_of num qs)) w.0) ∙ e)) w.1
  | inr w ↦ found_named num qs r (sym (ap (λ t. cond t (Some q) (route_of num qs)) w.0) ∙ e)
]

-- ---- the fold

below_next : (num k : ℕ) → num < suc k → num ≢ k → num < k
below_next num k lt apart = grind (arith, nat_tests)

module _ (routes : ℕ → Option Route) (named : (num : ℕ) (r : Route) → routes num ≡ Some r → r.src.num ≡ num) where
  -- before all routes of the other sources below a number
  abbrev IsAhead : ℕ → Route → Type 0
  IsAhead k r = (num : ℕ) (q : Route) → num < k → num ≢ r.src.num → routes num ≡ Some q → before r q ≡ true

  -- the best of the sources below a number
  abbrev IsBelow : ℕ → Option Route → Type 0
  IsBelow k None = (num : ℕ) → num < k → routes num ≡ None
  IsBelow k (Some r) = (r.src.num < k) × (routes r.src.num ≡ Some r) × IsAhead k r

  still_none : (k : ℕ) → routes k ≡ None → IsBelow k None → IsBelow (suc k) None
  still_none k e none num lt = elim (eqb_tells num k) [
    | inl w ↦ ap routes w.1 ∙ e
    | inr w ↦ none num (below_next num k lt w.1)
  ]

  its_own : (k : ℕ) (q : Route) → routes k ≡ Some q → (q.src.num < suc k) × (routes q.src.num ≡ Some q)
  its_own k q e = let n = named k q e in (omega (arith, n), ap routes n ∙ e)

  first_one : (k : ℕ) (q : Route) → routes k ≡ Some q → IsBelow k None → IsBelow (suc k) (Some q)
  first_one k q e none =
      let mine = its_own k q e in
      (mine.0, mine.1, λ num x lt other found. none_some (sym (none num (below_next num k lt (λ w. other (w ∙ sym (named k q e))))) ∙ found))

  still_best : (k : ℕ) (r : Route) → routes k ≡ None → IsBelow k (Some r) → IsBelow (suc k) (Some r)
  still_best k r e best =
      let lt = best.0 in (
        omega (arith, lt),
        best.1,
        λ num x lt other found. elim (eqb_tells num k) [
          | inl w ↦ none_some (sym e ∙ sym (ap routes w.1) ∙ found)
          | inr w ↦ best.2 num x (below_next num k lt w.1) other found
        ],
      )

  new_best : (k : ℕ) (r q : Route) → routes k ≡ Some q → before q r ≡ true → IsBelow k (Some r) → IsBelow (suc k) (Some q)
  new_best k r q e ahead best =
      let mine = its_own k q e in (
        mine.0,
        mine.1,
        λ num x lt other found. elim (eqb_tells num r.src.num) [
          | inl w ↦ subst (λ (y : Route). before q y ≡ true) (some_same (sym best.1 ∙ sym (ap routes w.1) ∙ found)) ahead
          | inr w ↦ before_chain q r x ahead (best.2 num x (below_next num k lt (λ v. other (v ∙ sym (named k q e)))) w.1 found)
        ],
      )

  old_best : (k : ℕ) (r q : Route) → routes k ≡ Some q → before q r ≡ false → IsBelow k (Some r) → IsBelow (suc k) (Some r)
  old_best k r q e behind best =
      let lt = best.0 in
      let n = named k q e in
      let apart : r.src.num ≢ q.src.num = λ w. absurd (let bad : 1 ≤ 0 = omega (arith, lt, n, w) in omega (arith, bad)) in (
        omega (arith, lt),
        best.1,
        λ num x lt other found. elim (eqb_tells num k) [
          | inl w ↦ subst (λ (y : Route). before r y ≡ true) (some_same (sym e ∙ sym (ap routes w.1) ∙ found)) (before_one r q apart ∙ ap not behind)
          | inr w ↦ best.2 num x (below_next num k lt w.1) other found
        ],
      )

  chosen : (k : ℕ) (b o : Option Route) → routes k ≡ o → IsBelow k b → IsBelow (suc k) (preferred b o)
  chosen k None None e is = still_none k e is
  chosen k None (Some q) e is = first_one k q e is
  chosen k (Some r) None e is = still_best k r e is
  chosen k (Some r) (Some q) e is = by (before q r) refl where
    by : (t : Bool) → before q r ≡ t → IsBelow (suc k) (if t then Some q else Some r)
    by true f = new_best k r q e f is
    by false f = old_best k r q e f is

  fold_chooses : (k : ℕ) → IsBelow k (best_below k routes)
  fold_chooses zero = λ num lt. absurd (let bad : 1 ≤ 0 = omega (arith, lt) in omega (arith, bad))
  fold_chooses (suc k) = chosen k (best_below k routes) (routes k) refl (fold_chooses k)

-- ---- the best of routes

below_or_not : (num k : ℕ) → (num < k) ⊎ (k ≤ num)
below_or_not num k = grind (arith, nat_tests)

module _ (k : ℕ) (routes : ℕ → Option Route) (all : List Route) (beyond : (num : ℕ) → k ≤ num → routes num ≡ None) (sources : IsOfSources all) (are : (num : ℕ) → route_of num all ≡ routes num) where
  named : (num : ℕ) (r : Route) → routes num ≡ Some r → r.src.num ≡ num
  named num r e = found_named num all r (are num ∙ e)

  within : (num : ℕ) (r : Route) → routes num ≡ Some r → num < k
  within num r e = elim (below_or_not num k) [ inl lt ↦ lt | inr le ↦ none_some (sym (beyond num le) ∙ e) ]

  all_none : IsBelow routes named k None → (num : ℕ) → route_of num all ≡ None
  all_none none num = are num ∙ elim (below_or_not num k) [ inl lt ↦ none num lt | inr le ↦ beyond num le ]

  best_is : (b : Option Route) → IsBelow routes named k b → IsBest all b
  best_is None none = none_there all (all_none none)
  best_is (Some r) best = (
    found_among r.src.num all r (are r.src.num ∙ best.1),
    λ other there differs.
        let found : routes other.src.num ≡ Some other = sym (are other.src.num) ∙ found_there all other sources there in
        best.2 other.src.num other (within other.src.num other found)
        (λ w. differs (some_same (sym found ∙ ap routes w ∙ best.1))) found,
  )

  pub best_of_all : IsBest all (best_below k routes)
  best_of_all = best_is (best_below k routes) (fold_chooses routes named k)

-- the choice depends on the routes alone
pub best_same : (k : ℕ) (routes others : ℕ → Option Route) → ((num : ℕ) → routes num ≡ others num) → best_below k routes ≡ best_below k others
best_same zero routes others same = refl
best_same (suc k) routes others same =
    ap (λ b. preferred b (routes k)) (best_same k routes others same) ∙ ap (preferred (best_below k others)) (same k)
