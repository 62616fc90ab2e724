-- The best of a net with another route.
use Rattle.std.proofs.Common.{◌≡◌, ℕ, Bool, true, false, not, cond, ◌&&◌, ◌==◌, List, [], ◌∷◌, Option, Some, None, find, refl, sym, ap, ◌∙◌, subst}
use Rattle.std.specs.Prelude.{unwrap_or, IfSome}
use Rattle.std.proofs.lemmas.Bool.{eqb-true, ne_eqb, cond-true}
use Rattle.bits_ip.specs.Prefix.{Net, same_net}
use Rattle.attrs.specs.declared.route.Change.{Change}
use Rattle.attrs.specs.declared.route.Route.{Route}
use Rattle.attrs.specs.declared.route.Row.{Row}
use Rattle.attrs.specs.History.{after, or_else}
use Rattle.attrs.specs.Selection.{before}
use Rattle.attrs.specs.Table.{AreRows, HasNone, IsBestOf, IsOfSources, route_in, routes_of}
use Rattle.attrs.proofs.Bests.{best_of_first, best_of_none}
use Rattle.attrs.proofs.Nets.{same_net_itself}
use Rattle.attrs.proofs.Rows.{in_order-from_sorted, sorted-from_in_order}
use Rattle.rib.specs.Picks.{better_of, routes_with}
use Rattle.rib.specs.Rib.{first_of}
use Rattle.rib.specs.Steps.{AreRoutes, Replaces, placed, without}
use Rattle.rib.proofs.OneNet.{Replaces-announced, Replaces-withdrawn}

-- ---- the best with another route

find-others : (num : ℕ) (xs : List Route) → HasNone num xs → find (λ (r : Route). not (r.src.num == num)) xs ≡ first_of xs
find-others num [] none = refl
find-others num (x ∷ xs) none = cond-true _ _ _ (ap not (ne_eqb x.src.num num none.0))

pub first-beside : (num : ℕ) (xs : List Route) → IsOfSources xs → find (λ (r : Route). not (r.src.num == num)) xs ≡ first_of (without num xs)
first-beside num [] sources = refl
first-beside num (x ∷ xs) sources = by_test (x.src.num == num) refl where
  by_test : (b : Bool) → (x.src.num == num) ≡ b
      → cond (not b) (Some x) (find (λ (r : Route). not (r.src.num == num)) xs) ≡ first_of (cond b xs (x ∷ without num xs))
  by_test true e = find-others num xs (rw (sym (eqb-true x.src.num num e)) sources.0)
  by_test false e = refl

pub better-first : (num : ℕ) (new : Option Route) (xs : List Route) → better_of new (first_of (without num xs)) ≡ first_of (routes_with num new xs)
better-first num None xs = refl
better-first num (Some r) xs = on (without num xs) where
  on : (ys : List Route) → better_of (Some r) (first_of ys) ≡ first_of (placed r ys)
  on [] = refl
  on (y ∷ ys) = by_test (before r y) where
    by_test : (b : Bool) → cond b (Some r) (Some y) ≡ first_of (cond b (r ∷ y ∷ ys) (y ∷ placed r ys))
    by_test true = refl
    by_test false = refl

-- ---- the best after a change

pub rows-routes : (net : Net) (rows : List Row) → AreRows rows → AreRoutes (routes_of net rows)
rows-routes net [] are = record { order = tt; sources = tt }
rows-routes net (row ∷ rows) are = by_test (same_net net row.net) (rows-routes net rows are.2) where
  by_test : (b : Bool) → AreRoutes (routes_of net rows) → AreRoutes (cond b row.routes (routes_of net rows))
  by_test true behind = record { order = sorted-from_in_order row.routes are.0.sources are.0.order; sources = are.0.sources }
  by_test false behind = behind

replaced : (num : ℕ) (new : Option Route) (xs : List Route) → AreRoutes xs → IfSome new (λ (r : Route). r.src.num ≡ num) → Replaces num new xs (routes_with num new xs)
replaced num None xs are source = Replaces-withdrawn num xs are
replaced num (Some r) xs are source = subst (λ (n : ℕ). Replaces n (Some r) xs (placed r (without n xs))) source (Replaces-announced r xs are)

after-own : (rows : List Row) (c : Change) (n : ℕ) → after (route_in rows) (c ∷ []) c.net n ≡ cond (n == c.num) c.new (route_in rows c.net n)
after-own rows c n =
    ap (λ (b : Bool). unwrap_or (or_else None (cond (b && (n == c.num)) (Some c.new) None)) (route_in rows c.net n)) (same_net_itself c.net)
    ∙ by_test (n == c.num)
  where
    by_test : (b : Bool) → unwrap_or (or_else None (cond b (Some c.new) None)) (route_in rows c.net n) ≡ cond b c.new (route_in rows c.net n)
    by_test true = refl
    by_test false = refl

pub best-with : (rows : List Row) (c : Change) → AreRows rows → IfSome c.new (λ (r : Route). r.src.num ≡ c.num)
    → IsBestOf (after (route_in rows) (c ∷ [])) c.net (first_of (routes_with c.num c.new (routes_of c.net rows)))
best-with rows c are source = on (routes_with c.num c.new (routes_of c.net rows)) (replaced c.num c.new (routes_of c.net rows) (rows-routes c.net rows are) source) where
  on : (ys : List Route) → Replaces c.num c.new (routes_of c.net rows) ys → IsBestOf (after (route_in rows) (c ∷ [])) c.net (first_of ys)
  on [] r = best_of_none _ c.net (record { sources = r.are.sources; are = λ n. r.routes n ∙ sym (after-own rows c n) })
  on (y ∷ ys) r = best_of_first _ c.net y ys (record { sources = r.are.sources; are = λ n. r.routes n ∙ sym (after-own rows c n) }) (in_order-from_sorted (y ∷ ys) r.are.order)
