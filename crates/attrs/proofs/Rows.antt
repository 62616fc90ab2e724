-- Routes in selection order, and rows.
use Rattle.std.proofs.Common.{◌≡◌, ◌≢◌, ℕ, zero, suc, Bool, true, false, ◌&&◌, ◌||◌, nat_lt, cond, ◌⊎◌, inl, inr, ⊎_elim, List, [], ◌∷◌, ◌++◌, Option, Some, None, refl, sym, ap, ◌∙◌, subst, arith}
use Rattle.std.specs.Prelude.{Contains, ◌==◌, not, take}
use Rattle.std.proofs.lemmas.Bool.{eqb-true, eq-eqb, ne_eqb, cond-true, cond-false, cases_Bool}
use Rattle.std.proofs.lemmas.Option.{same_Some}
use Rattle.std.proofs.lemmas.Bool.Decides.{nat_tests}
use Rattle.attrs.specs.declared.route.Route.{Route}
use Rattle.attrs.specs.Selection.{Rule, Lower, Higher, before_by, before, IsBest, selection_rules, source_number}
use Rattle.attrs.specs.Table.{IsBeforeAll, IsInOrder, IsSorted, HasNone, IsOfSources, route_of}
use Rattle.attrs.proofs.Same.{same_or_not}

-- no route is before itself
before_by_itself : (list : List Rule) (r : Route) → before_by list r r ≡ false
before_by_itself [] r = refl
before_by_itself (Lower key ∷ list) r = let h = before_by_itself list r in grind (arith, nat_tests)
before_by_itself (Higher key ∷ list) r = let h = before_by_itself list r in grind (arith, nat_tests)

pub before_itself : (r : Route) → before r r ≡ false
before_itself = before_by_itself selection_rules

-- no two routes are each before the other
before_by_back : (list : List Rule) (a b : Route) → before_by list a b ≡ true → before_by list b a ≡ true → ⊥
before_by_back [] a b h k = cc
before_by_back (Lower key ∷ list) a b h k = let back = before_by_back list a b in grind (arith, nat_tests, back)
before_by_back (Higher key ∷ list) a b h k = let back = before_by_back list a b in grind (arith, nat_tests, back)

pub before_back : (a b : Route) → before a b ≡ true → before b a ≡ true → ⊥
before_back = before_by_back selection_rules

-- a route is before all those that a route behind it is before
before_by_chain : (list : List Rule) (a b c : Route) → before_by list a b ≡ true → before_by list b c ≡ true → before_by list a c ≡ true
before_by_chain [] a b c h k = h
before_by_chain (Lower key ∷ list) a b c h k = let chain = before_by_chain list a b c in grind (arith, nat_tests, chain)
before_by_chain (Higher key ∷ list) a b c h k = let chain = before_by_chain list a b c in grind (arith, nat_tests, chain)

pub before_chain : (a b c : Route) → before a b ≡ true → before b c ≡ true → before a c ≡ true
before_chain = before_by_chain selection_rules

-- of two sources' routes one is before the other
either_lower : (x y : ℕ) (t u : Bool) → (t ≡ true) ⊎ (u ≡ true) → ((nat_lt x y || (x == y && t)) ≡ true) ⊎ ((nat_lt y x || (y == x && u)) ≡ true)
either_lower x y t u h = ⊎_elim (λ e. grind (arith, nat_tests)) (λ e. grind (arith, nat_tests)) h

either_higher : (x y : ℕ) (t u : Bool) → (t ≡ true) ⊎ (u ≡ true) → ((nat_lt y x || (x == y && t)) ≡ true) ⊎ ((nat_lt x y || (y == x && u)) ≡ true)
either_higher x y t u h = ⊎_elim (λ e. grind (arith, nat_tests)) (λ e. grind (arith, nat_tests)) h

before_by_either :
    (list : List Rule) (a b : Route) → (a.src.num ≢ b.src.num) → (before_by (list ++ Lower source_number ∷ []) a b ≡ true) ⊎ (before_by (list ++ Lower source_number ∷ []) b a ≡ true)
before_by_either [] a b differ = grind (arith, nat_tests)
before_by_either (Lower key ∷ list) a b differ = either_lower (key a) (key b) _ _ (before_by_either list a b differ)
before_by_either (Higher key ∷ list) a b differ = either_higher (key a) (key b) _ _ (before_by_either list a b differ)

pub before_either : (a b : Route) → (a.src.num ≢ b.src.num) → (before a b ≡ true) ⊎ (before b a ≡ true)
before_either = before_by_either (take 10 selection_rules)

-- exactly one of them is
pub before_one : (a b : Route) → (a.src.num ≢ b.src.num) → before a b ≡ not (before b a)
before_one a b differ = ⊎_elim (λ h. h ∙ sym (ap not (absent (before b a) (before_back a b h)))) (λ h. absent (before a b) (λ e. before_back a b e h) ∙ sym (ap not h)) (before_either a b differ) where
  absent : (t : Bool) → (t ≡ true → ⊥) → t ≡ false
  absent true h = absurd (h refl)
  absent false h = refl

-- what a list begins with, or what stands behind that
pub Contains-cons_cases : {X : Type 0} → (x : X) (xs : List X) (y : X) → Contains (x ∷ xs) y → (x ≡ y) ⊎ Contains xs y
Contains-cons_cases x xs y (zero, h, e) = inl e
Contains-cons_cases x xs y (suc k, h, e) = inr (k, omega arith, e)

pub Contains-nothing : {X : Type 0} → (y : X) → Contains [] y → ⊥
Contains-nothing y (k, h, e) = omega arith

pub before_each : (r : Route) (rest : List Route) → IsBeforeAll r rest → (other : Route) → Contains rest other → before r other ≡ true
before_each r [] all other h = absurd (Contains-nothing other h)
before_each r (next ∷ rest) all other h = ⊎_elim (λ e. subst (λ (x : Route). before r x ≡ true) e all.0) (λ k. before_each r rest all.1 other k) (Contains-cons_cases next rest other h)

-- the first route in order is the best
pub IsBest-first : (r : Route) (rest : List Route) → IsInOrder (r ∷ rest) → IsBest (r ∷ rest) (Some r)
IsBest-first r rest order = order.0

-- a route that is before all others is the best
best_before_all : (r : Route) (rest : List Route) → IsBeforeAll r rest → IsBest (r ∷ rest) (Some r)
best_before_all r rest all =
    ((0, omega arith, refl), λ other among differs. ⊎_elim (λ e. absurd (differs (sym e))) (λ k. before_each r rest all other k) (Contains-cons_cases r rest other among))

-- routes of which each is before all that follow it are in order
pub in_order-from_sorted : (routes : List Route) → IsSorted routes → IsInOrder routes
in_order-from_sorted [] h = tt
in_order-from_sorted (r ∷ rest) h = (best_before_all r rest h.0, in_order-from_sorted rest h.1)

-- there is one best route
pub IsBest-one : (routes : List Route) (a b : Option Route) → IsBest routes a → IsBest routes b → a ≡ b
IsBest-one routes None None h k = refl
IsBest-one routes None (Some b) h k = absurd (Contains-nothing b (subst (λ (rs : List Route). Contains rs b) h k.0))
IsBest-one routes (Some a) None h k = absurd (Contains-nothing a (subst (λ (rs : List Route). Contains rs a) k h.0))
IsBest-one routes (Some a) (Some b) h k =
    ⊎_elim (λ e. ap Some e) (λ ne. absurd (before_back a b (h.1 b k.0 (λ e. ne (sym e))) (k.1 a h.0 ne))) (same_or_not a b)

Contains-first : {X : Type 0} → (x : X) (xs : List X) → Contains (x ∷ xs) x
Contains-first x xs = (0, omega arith, refl)

Contains-behind : {X : Type 0} → (x : X) (xs : List X) (y : X) → Contains xs y → Contains (x ∷ xs) y
Contains-behind x xs y (k, h, e) = (suc k, omega arith, e)

-- a route that is before the others of some of other sources
before_others :
    (r : Route) (xs : List Route) → HasNone r.src.num xs → ((other : Route) → Contains xs other → (other ≡ r → ⊥) → before r other ≡ true) → IsBeforeAll r xs
before_others r [] none best = tt
before_others r (x ∷ xs) none best =
    (best x (Contains-first x xs) (λ e. none.0 (ap (λ (q : Route). q.src.num) e)), before_others r xs none.1 (λ other among. best other (Contains-behind x xs other among)))

-- of routes in order, of different sources, each is before all that follow it
pub sorted-from_in_order : (routes : List Route) → IsOfSources routes → IsInOrder routes → IsSorted routes
sorted-from_in_order [] s h = tt
sorted-from_in_order (r ∷ rest) s h =
    (before_others r rest s.0 (λ other among. h.0.1 other (Contains-behind r rest other among)), sorted-from_in_order rest s.1 h.1)

pub order_sorted : (routes : List Route) → IsOfSources routes → (IsInOrder routes → IsSorted routes) × (IsSorted routes → IsInOrder routes)
order_sorted routes s = (sorted-from_in_order routes s, in_order-from_sorted routes)

-- a route that is found stands there
pub found_among : (num : ℕ) (routes : List Route) (r : Route) → route_of num routes ≡ Some r → Contains routes r
found_among num [] r h = cc
found_among num (q ∷ qs) r h =
    ⊎_elim
    (λ t. let e : q ≡ r = same_Some q r (sym (cond-true _ _ _ t) ∙ h) in subst (λ (x : Route). Contains (q ∷ qs) x) e (Contains-first q qs))
    (λ f. Contains-behind q qs r (found_among num qs r (sym (cond-false _ _ _ f) ∙ h)))
    (cases_Bool (q.src.num == num))

pub none_found : (num : ℕ) (routes : List Route) → HasNone num routes → route_of num routes ≡ None
none_found num [] h = refl
none_found num (q ∷ qs) h = cond-false _ _ _ (ne_eqb q.src.num num h.0) ∙ none_found num qs h.1

-- what is found behind the first, from what is found in all
found_behind : (r : Route) (rest : List Route) (num : ℕ) → HasNone r.src.num rest → route_of num rest ≡ cond (r.src.num == num) None (route_of num (r ∷ rest))
found_behind r rest num none =
    ⊎_elim
    (λ t. subst (λ (n : ℕ). route_of n rest ≡ None) (eqb-true r.src.num num t) (none_found r.src.num rest none) ∙ sym (cond-true _ _ _ t))
    (λ f. sym (cond-false _ _ _ f) ∙ sym (cond-false _ _ _ f))
    (cases_Bool (r.src.num == num))

pub first_found : (r : Route) (rest : List Route) → route_of r.src.num (r ∷ rest) ≡ Some r
first_found r rest = cond-true _ _ _ (eq-eqb r.src.num r.src.num refl)

-- another route that is found stands behind the first
pub is_or_before : (r : Route) (rest : List Route) (q : Route) → IsInOrder (r ∷ rest) → route_of q.src.num (r ∷ rest) ≡ Some q → (r ≡ q) ⊎ (before r q ≡ true)
is_or_before r rest q order h =
    ⊎_elim (λ e. inl e) (λ ne. inr (order.0.1 q (found_among q.src.num (r ∷ rest) q h) (λ e. ne (sym e)))) (same_or_not r q)

same_first :
    (q r : Route) (qs rs : List Route) → IsInOrder (q ∷ qs) → IsInOrder (r ∷ rs) → ((num : ℕ) → route_of num (q ∷ qs) ≡ route_of num (r ∷ rs)) → q ≡ r
same_first q r qs rs o p same =
    ⊎_elim
    (λ e. sym e)
    (λ b. ⊎_elim (λ e. e) (λ c. absurd (before_back q r c b)) (is_or_before q qs r o (same r.src.num ∙ first_found r rs)))
    (is_or_before r rs q p (sym (same q.src.num) ∙ first_found q qs))

-- routes in order of which the same are found are the same
pub same_routes :
    (qs rs : List Route) → IsInOrder qs → IsInOrder rs → IsOfSources qs → IsOfSources rs → ((num : ℕ) → route_of num qs ≡ route_of num rs) → qs ≡ rs
same_routes [] [] o p s t same = refl
same_routes [] (r ∷ rs) o p s t same = let h = same r.src.num ∙ first_found r rs in cc
same_routes (q ∷ qs) [] o p s t same = let h = sym (same q.src.num) ∙ first_found q qs in cc
same_routes (q ∷ qs) (r ∷ rs) o p s t same =
    let first : q ≡ r = same_first q r qs rs o p same in
    let behind : (num : ℕ) → route_of num qs ≡ route_of num rs =
    λ num.
    found_behind q qs num s.0
    ∙ ap (λ (x : Route). cond (x.src.num == num) None (route_of num (q ∷ qs))) first
    ∙ ap (λ (o : Option Route). cond (r.src.num == num) None o) (same num)
    ∙ sym (found_behind r rs num t.0) in
    let rest : qs ≡ rs = same_routes qs rs o.1 p.1 s.1 t.1 behind in
    λ i. first i ∷ rest i
