-- The routes of a net, after one is taken out or put in.
use Rattle.std.proofs.Common.{◌≡◌, ◌≢◌, ℕ, ◌+◌, ◌≤◌, suc, Bool, true, false, not, cond, ◌||◌, ◌==◌, ltb, inl, inr, List, [], ◌∷◌, length, Option, Some, None, unwrap_or, IsTrue, refl, sym, ap, ◌∙◌, subst, arith}
use Rattle.std.proofs.lemmas.Bool.{cases_Bool, eqb-true, eqb-false, eq-eqb, ne_eqb, ltb-false, cond-true, cond-false, true≢false}
use Rattle.std.specs.List.{position, position_or_len, insert, remove}
use Rattle.attrs.specs.declared.route.Route.{Route}
use Rattle.attrs.specs.Selection.{before}
use Rattle.attrs.specs.Table.{IsBeforeAll, IsSorted, HasNone, IsOfSources, route_of}
use Rattle.rib.specs.Rib.{first_of}
use Rattle.rib.specs.Steps.{AreRoutes, Replaces, without, placed, leads, goes_first}
use Rattle.rib.proofs.Laws.{before-trans, before-total}

-- both cases of a test, each with its fact
cases : {X : Type 0} (P : X → Type 0) (b : Bool) (x y : X) → (b ≡ true → P x) → (b ≡ false → P y) → P (cond b x y)
cases P true x y f g = f refl
cases P false x y f g = g refl

-- ---- what `route_of` finds

route_of-none : (num : ℕ) (xs : List Route) → HasNone num xs → route_of num xs ≡ None
route_of-none num [] h = refl
route_of-none num (x ∷ xs) h = cond-false (x.src.num == num) _ _ (ne_eqb _ _ h.0) ∙ route_of-none num xs h.1

route_of-other : (num : ℕ) (x : Route) (xs : List Route) → x.src.num ≢ num → route_of num (x ∷ xs) ≡ route_of num xs
route_of-other num x xs ne = cond-false (x.src.num == num) _ _ (ne_eqb _ _ ne)

route_of-first : (num : ℕ) (x : Route) (xs : List Route) → x.src.num ≡ num → route_of num (x ∷ xs) ≡ Some x
route_of-first num x xs e = cond-true (x.src.num == num) _ _ (eq-eqb _ _ e)

-- the same after a step under the same first route
route_of-under : (n : ℕ) (x : Route) (xs ys : List Route) → route_of n xs ≡ route_of n ys → route_of n (x ∷ xs) ≡ route_of n (x ∷ ys)
route_of-under n x xs ys e = ap (λ (o : Option Route). cond (x.src.num == n) (Some x) o) e

-- ---- a route is taken out

without-lacks : (n num : ℕ) (xs : List Route) → HasNone n xs → HasNone n (without num xs)
without-lacks n num [] h = tt
without-lacks n num (x ∷ xs) h = cases (HasNone n) (x.src.num == num) xs (x ∷ without num xs) (λ _. h.1) (λ _. (h.0, without-lacks n num xs h.1))

pub without-none : (num : ℕ) (xs : List Route) → IsOfSources xs → HasNone num (without num xs)
without-none num [] h = tt
without-none num (x ∷ xs) h =
    cases (HasNone num) (x.src.num == num) xs (x ∷ without num xs) (λ e. subst (λ (n : ℕ). HasNone n xs) (eqb-true _ _ e) h.0) (λ e. (eqb-false _ _ e, without-none num xs h.1))

without-sources : (num : ℕ) (xs : List Route) → IsOfSources xs → IsOfSources (without num xs)
without-sources num [] h = tt
without-sources num (x ∷ xs) h =
    cases IsOfSources (x.src.num == num) xs (x ∷ without num xs) (λ _. h.1) (λ _. (without-lacks x.src.num num xs h.0, without-sources num xs h.1))

without-after : (num : ℕ) (a : Route) (xs : List Route) → IsBeforeAll a xs → IsBeforeAll a (without num xs)
without-after num a [] h = tt
without-after num a (x ∷ xs) h = cases (IsBeforeAll a) (x.src.num == num) xs (x ∷ without num xs) (λ _. h.1) (λ _. (h.0, without-after num a xs h.1))

without-order : (num : ℕ) (xs : List Route) → IsSorted xs → IsSorted (without num xs)
without-order num [] h = tt
without-order num (x ∷ xs) h =
    cases IsSorted (x.src.num == num) xs (x ∷ without num xs) (λ _. h.1) (λ _. (without-after num x xs h.0, without-order num xs h.1))

without-are : (num : ℕ) (xs : List Route) → AreRoutes xs → AreRoutes (without num xs)
without-are num xs are = record { order = without-order num xs are.order; sources = without-sources num xs are.sources }

route_of-without : (n num : ℕ) (xs : List Route) → n ≢ num → route_of n (without num xs) ≡ route_of n xs
route_of-without n num [] ne = refl
route_of-without n num (x ∷ xs) ne =
    cases (λ (l : List Route). route_of n l ≡ route_of n (x ∷ xs)) (x.src.num == num) xs (x ∷ without num xs)
    (λ e. sym (route_of-other n x xs (λ same. ne (sym same ∙ eqb-true _ _ e))))
    (λ _. route_of-under n x (without num xs) xs (route_of-without n num xs ne))

pub length-without : (num : ℕ) (xs : List Route) → length (without num xs) ≤ length xs
length-without num [] = omega arith
length-without num (x ∷ xs) =
    cases (λ (l : List Route). length l ≤ length (x ∷ xs)) (x.src.num == num) xs (x ∷ without num xs) (λ _. omega arith) (λ _. omega (arith, length-without num xs))

-- ---- a route is put in

placed-lacks : (n : ℕ) (r : Route) (xs : List Route) → r.src.num ≢ n → HasNone n xs → HasNone n (placed r xs)
placed-lacks n r [] ne h = (ne, tt)
placed-lacks n r (x ∷ xs) ne h =
    cases (HasNone n) (before r x) (r ∷ x ∷ xs) (x ∷ placed r xs) (λ _. (ne, h)) (λ _. (h.0, placed-lacks n r xs ne h.1))

placed-sources : (r : Route) (xs : List Route) → HasNone r.src.num xs → IsOfSources xs → IsOfSources (placed r xs)
placed-sources r [] none h = (tt, tt)
placed-sources r (x ∷ xs) none h =
    cases IsOfSources (before r x) (r ∷ x ∷ xs) (x ∷ placed r xs) (λ _. (none, h))
    (λ _. (placed-lacks x.src.num r xs (λ e. none.0 (sym e)) h.0, placed-sources r xs none.1 h.1))

placed-after : (a r : Route) (xs : List Route) → IsTrue (before a r) → IsBeforeAll a xs → IsBeforeAll a (placed r xs)
placed-after a r [] e h = (e, tt)
placed-after a r (x ∷ xs) e h =
    cases (IsBeforeAll a) (before r x) (r ∷ x ∷ xs) (x ∷ placed r xs) (λ _. (e, h)) (λ _. (h.0, placed-after a r xs e h.1))

before-all : (a b : Route) (xs : List Route) → IsTrue (before a b) → IsBeforeAll b xs → IsBeforeAll a xs
before-all a b [] e h = tt
before-all a b (x ∷ xs) e h = (before-trans a b x e h.0, before-all a b xs e h.1)

placed-order : (r : Route) (xs : List Route) → HasNone r.src.num xs → IsSorted xs → IsSorted (placed r xs)
placed-order r [] none h = (tt, tt)
placed-order r (x ∷ xs) none h =
    cases IsSorted (before r x) (r ∷ x ∷ xs) (x ∷ placed r xs) (λ e. ((e, before-all r x xs e h.0), h))
    (λ e. (placed-after x r xs (before-total r x (λ same. none.0 (sym same)) e) h.0, placed-order r xs none.1 h.1))

placed-are : (r : Route) (xs : List Route) → HasNone r.src.num xs → AreRoutes xs → AreRoutes (placed r xs)
placed-are r xs none are = record { order = placed-order r xs none are.order; sources = placed-sources r xs none are.sources }

route_of-placed_same : (r : Route) (xs : List Route) → HasNone r.src.num xs → route_of r.src.num (placed r xs) ≡ Some r
route_of-placed_same r [] none = route_of-first r.src.num r [] refl
route_of-placed_same r (x ∷ xs) none =
    cases (λ (l : List Route). route_of r.src.num l ≡ Some r) (before r x) (r ∷ x ∷ xs) (x ∷ placed r xs) (λ _. route_of-first r.src.num r (x ∷ xs) refl)
    (λ _. route_of-other r.src.num x (placed r xs) none.0 ∙ route_of-placed_same r xs none.1)

route_of-placed_other : (n : ℕ) (r : Route) (xs : List Route) → r.src.num ≢ n → route_of n (placed r xs) ≡ route_of n xs
route_of-placed_other n r [] ne = route_of-other n r [] ne
route_of-placed_other n r (x ∷ xs) ne =
    cases (λ (l : List Route). route_of n l ≡ route_of n (x ∷ xs)) (before r x) (r ∷ x ∷ xs) (x ∷ placed r xs) (λ _. route_of-other n r (x ∷ xs) ne)
    (λ _. route_of-under n x (placed r xs) xs (route_of-placed_other n r xs ne))

length-placed : (r : Route) (xs : List Route) → length (placed r xs) ≡ length xs + 1
length-placed r [] = refl
length-placed r (x ∷ xs) =
    cases (λ (l : List Route). length l ≡ length (x ∷ xs) + 1) (before r x) (r ∷ x ∷ xs) (x ∷ placed r xs) (λ _. omega arith) (λ _. omega (arith, length-placed r xs))

-- ---- what a change does

-- the source itself, and another
pick : (num n : ℕ) (new here old : Option Route) → (n ≡ num → here ≡ new) → (n ≢ num → here ≡ old) → here ≡ cond (n == num) new old
pick num n new here old f g = cases (λ (o : Option Route). here ≡ o) (n == num) new old (λ e. f (eqb-true _ _ e)) (λ e. g (eqb-false _ _ e))

pub Replaces-nothing : (num : ℕ) (new : Option Route) (xs : List Route) → AreRoutes xs → route_of num xs ≡ new → Replaces num new xs xs
Replaces-nothing num new xs are same = record {
  are = are;
  routes = λ n. pick num n new (route_of n xs) (route_of n xs) (λ e. ap (λ (k : ℕ). route_of k xs) e ∙ same) (λ _. refl);
  length = omega arith;
}

pub Replaces-withdrawn : (num : ℕ) (xs : List Route) → AreRoutes xs → Replaces num None xs (without num xs)
Replaces-withdrawn num xs are = record {
  are = without-are num xs are;
  routes = λ n. pick num n None (route_of n (without num xs)) (route_of n xs)
      (λ e. ap (λ (k : ℕ). route_of k (without num xs)) e ∙ route_of-none num (without num xs) (without-none num xs are.sources))
      (route_of-without n num xs);
  length = omega (arith, length-without num xs);
}

pub Replaces-announced : (r : Route) (xs : List Route) → AreRoutes xs → Replaces r.src.num (Some r) xs (placed r (without r.src.num xs))
Replaces-announced r xs are =
    let num = r.src.num in
    let none = without-none num xs are.sources in
    record {
      are = placed-are r (without num xs) none (without-are num xs are);
      routes = λ n. pick num n (Some r) (route_of n (placed r (without num xs))) (route_of n xs)
          (λ e. ap (λ (k : ℕ). route_of k (placed r (without num xs))) e ∙ route_of-placed_same r (without num xs) none)
          (λ ne. route_of-placed_other n r (without num xs) (λ e. ne (sym e)) ∙ route_of-without n num xs ne);
      length = omega (arith, length-placed r (without num xs), length-without num xs);
    }

-- ---- whether the best is another one

first-placed : (r : Route) (xs : List Route) → goes_first r xs ≡ true → first_of (placed r xs) ≡ Some r
first-placed r [] h = refl
first-placed r (x ∷ xs) h = cases (λ (l : List Route). first_of l ≡ Some r) (before r x) (r ∷ x ∷ xs) (x ∷ placed r xs) (λ _. refl) (λ e. absurd (true≢false (sym h ∙ e)))

first-placed_behind : (r : Route) (xs : List Route) → goes_first r xs ≡ false → first_of (placed r xs) ≡ first_of xs
first-placed_behind r [] h = absurd (true≢false h)
first-placed_behind r (x ∷ xs) h =
    cases (λ (l : List Route). first_of l ≡ Some x) (before r x) (r ∷ x ∷ xs) (x ∷ placed r xs) (λ e. absurd (true≢false (sym e ∙ h))) (λ _. refl)

first-without_behind : (num : ℕ) (xs : List Route) → leads num xs ≡ false → first_of (without num xs) ≡ first_of xs
first-without_behind num [] h = refl
first-without_behind num (x ∷ xs) h =
    cases (λ (l : List Route). first_of l ≡ Some x) (x.src.num == num) xs (x ∷ without num xs) (λ e. absurd (true≢false (sym e ∙ h))) (λ _. refl)

-- the first route is of another source
first-lacks : (num : ℕ) (xs : List Route) (r : Route) → HasNone num xs → first_of xs ≡ Some r → r.src.num ≢ num
first-lacks num [] r none e = absurd (cc)
first-lacks num (x ∷ xs) r none e = let same : x ≡ r = cc in subst (λ (q : Route). q.src.num ≢ num) same none.0

first-leads : (num : ℕ) (xs : List Route) → leads num xs ≡ true → (r : Route) × (first_of xs ≡ Some r) × (r.src.num ≡ num) × (route_of num xs ≡ Some r)
first-leads num [] h = absurd (true≢false (sym h))
first-leads num (x ∷ xs) h = (x, refl, eqb-true _ _ h, route_of-first num x xs (eqb-true _ _ h))

first-found : (num : ℕ) (xs : List Route) (r : Route) → first_of xs ≡ Some r → r.src.num ≡ num → route_of num xs ≡ Some r
first-found num [] r e n = absurd (cc)
first-found num (x ∷ xs) r e n = let same : x ≡ r = cc in route_of-first num x xs (ap (λ (q : Route). q.src.num) same ∙ n) ∙ ap Some same

leads-moves : (num : ℕ) (xs ys : List Route) → leads num xs ≡ true → HasNone num ys → first_of ys ≢ first_of xs
leads-moves num xs ys h none e = let w = first-leads num xs h in first-lacks num ys w.0 none (e ∙ w.1) w.2

pub moved-withdrawn : (num : ℕ) (xs : List Route) → IsOfSources xs
    → (IsTrue (leads num xs) → first_of (without num xs) ≢ first_of xs) × (first_of (without num xs) ≢ first_of xs → IsTrue (leads num xs))
moved-withdrawn num xs h = (
  λ led. leads-moves num xs (without num xs) led (without-none num xs h),
  λ differs. elim (cases_Bool (leads num xs)) [ inl led ↦ led | inr behind ↦ absurd (differs (first-without_behind num xs behind)) ],
)

pub moved-announced : (r : Route) (xs : List Route) → IsOfSources xs → route_of r.src.num xs ≢ Some r
    → (IsTrue (leads r.src.num xs || goes_first r (without r.src.num xs)) → first_of (placed r (without r.src.num xs)) ≢ first_of xs)
    × (first_of (placed r (without r.src.num xs)) ≢ first_of xs → IsTrue (leads r.src.num xs || goes_first r (without r.src.num xs)))
moved-announced r xs h real =
    let num = r.src.num in
    let rest = without num xs in
    elim (cases_Bool (goes_first r rest)) [
      | inl first ↦
          (λ _ same. real (first-found num xs r (sym same ∙ first-placed r rest first) refl), λ _. grind arith)
      | inr behind ↦
          elim (cases_Bool (leads num xs)) [
            | inl led ↦ (λ _ same. leads-moves num xs rest led (without-none num xs h) (sym (first-placed_behind r rest behind) ∙ same), λ _. grind arith)
            | inr second ↦ (λ t. absurd (grind arith), λ differs. absurd (differs (first-placed_behind r rest behind ∙ first-without_behind num xs second)))
          ]
    ]

-- ---- the places

one_more : (k : ℕ) → 1 + k ≡ suc k
one_more k = omega arith

pub remove-without : (num : ℕ) (xs : List Route) → remove xs (position_or_len (λ (r : Route). r.src.num == num) xs) ≡ without num xs
remove-without num [] = refl
remove-without num (x ∷ xs) =
    let k = position_or_len (λ (r : Route). r.src.num == num) xs in
    elim (x.src.num == num) as (λ (b : Bool). remove (x ∷ xs) (cond (not b) (1 + k) 0) ≡ cond b xs (x ∷ without num xs)) [
      | true ↦ refl
      | false ↦ ap (remove (x ∷ xs)) (one_more k) ∙ ap (λ (l : List Route). x ∷ l) (remove-without num xs)
    ]

pub insert-placed : (r : Route) (xs : List Route) → insert xs (position_or_len (before r) xs) r ≡ placed r xs
insert-placed r [] = refl
insert-placed r (x ∷ xs) =
    let k = position_or_len (before r) xs in
    elim (before r x) as (λ (b : Bool). insert (x ∷ xs) (cond (not b) (1 + k) 0) r ≡ cond b (r ∷ x ∷ xs) (x ∷ placed r xs)) [
      | true ↦ refl
      | false ↦ ap (λ (i : ℕ). insert (x ∷ xs) i r) (one_more k) ∙ ap (λ (l : List Route). x ∷ l) (insert-placed r xs)
    ]

removed_past : (xs : List Route) → remove xs (length xs) ≡ xs
removed_past [] = refl
removed_past (x ∷ xs) = ap (λ (l : List Route). x ∷ l) (removed_past xs)

pub position_or_len-le : (p : Route → Bool) (xs : List Route) → position_or_len p xs ≤ length xs
position_or_len-le p [] = omega arith
position_or_len-le p (x ∷ xs) =
    elim (p x) as (λ (b : Bool). cond (not b) (1 + position_or_len p xs) 0 ≤ length (x ∷ xs)) [
      | true ↦ omega arith
      | false ↦ omega (arith, position_or_len-le p xs)
    ]

-- the place that `position` gives, or the end
pub position-unwrapped : (p : Route → Bool) (xs : List Route) → unwrap_or (position p xs) (length xs) ≡ position_or_len p xs
position-unwrapped p xs =
    elim (cases_Bool (ltb (position_or_len p xs) (length xs))) [
      | inl below ↦ ap (λ (b : Bool). unwrap_or (cond b (Some (position_or_len p xs)) None) (length xs)) below
      | inr past ↦
          ap (λ (b : Bool). unwrap_or (cond b (Some (position_or_len p xs)) None) (length xs)) past ∙ omega (arith, ltb-false _ _ past, position_or_len-le p xs)
    ]

pub position-some : (p : Route → Bool) (xs : List Route) (i : ℕ) → position p xs ≡ Some i → position_or_len p xs ≡ i
position-some p xs i e =
    elim (cases_Bool (ltb (position_or_len p xs) (length xs))) [
      | inl below ↦ let s : cond (ltb (position_or_len p xs) (length xs)) (Some (position_or_len p xs)) None ≡ Some (position_or_len p xs) = cond-true _ _ _ below in cc
      | inr past ↦ let s : cond (ltb (position_or_len p xs) (length xs)) (Some (position_or_len p xs)) None ≡ None = cond-false _ _ _ past in absurd (cc)
    ]

pub position-none : (p : Route → Bool) (xs : List Route) → position p xs ≡ None → position_or_len p xs ≡ length xs
position-none p xs e = sym (position-unwrapped p xs) ∙ ap (λ (o : Option ℕ). unwrap_or o (length xs)) e

pub without-absent : (num : ℕ) (xs : List Route) → position (λ (r : Route). r.src.num == num) xs ≡ None → xs ≡ without num xs
without-absent num xs e =
    sym (ap (remove xs) (position-none (λ (r : Route). r.src.num == num) xs e) ∙ removed_past xs) ∙ remove-without num xs
