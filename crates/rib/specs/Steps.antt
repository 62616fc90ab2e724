-- For private contracts alone: what a change does to the routes of its net, and to the rows.
use Rattle.std.specs.Prelude.{◌≡◌, ◌≤◌, ◌+◌, ℕ, Bool, true, false, ◌==◌, if◌then◌else◌, List, [], ◌∷◌, length, Option}
use Rattle.bits_ip.specs.Prefix.{Net, same_net}
use Rattle.attrs.specs.declared.route.Change.{Change}
use Rattle.attrs.specs.declared.route.Route.{Route}
use Rattle.attrs.specs.declared.route.Row.{Row}
use Rattle.attrs.specs.Selection.{before}
use Rattle.attrs.specs.Table.{IsOfSources, IsSorted, route_of, routes_of}

-- the routes without that of this source
abbrev pub without : ℕ → List Route → List Route
without num [] = []
without num (r ∷ rest) = if r.src.num == num then rest else r ∷ without num rest

-- the routes with this one before the first that it is before
abbrev pub placed : Route → List Route → List Route
placed route [] = route ∷ []
placed route (r ∷ rest) = if before route r then route ∷ r ∷ rest else r ∷ placed route rest

-- the source has the best of these routes
abbrev pub leads : ℕ → List Route → Bool
leads num [] = false
leads num (r ∷ rest) = r.src.num == num

-- the route is before all of these
abbrev pub goes_first : Route → List Route → Bool
goes_first route [] = true
goes_first route (r ∷ rest) = before route r

-- routes of different sources, each before all that follow it
pub record AreRoutes (routes : List Route) : Type 0 where
  pub order : IsSorted routes
  pub sources : IsOfSources routes

-- one source has another route now, or none
pub record Replaces (num : ℕ) (new : Option Route) (old now : List Route) : Type 0 where
  pub are : AreRoutes now
  pub routes : (n : ℕ) → route_of n now ≡ (if n == num then new else route_of n old)
  pub length : length now ≤ length old + 1

-- one net has other routes now, of which one has changed
pub record Changes (change : Change) (old now : List Row) : Type 0 where
  pub own : (n : ℕ) → route_of n (routes_of change.net now)
      ≡ (if n == change.num then change.new else route_of n (routes_of change.net old))
  pub others : (net : Net) → same_net net change.net ≡ false → routes_of net now ≡ routes_of net old
