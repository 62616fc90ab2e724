-- The best of the routes that the protocols have of a net (`best_below`).
-- From: BIRD User's Guide, "Routing tables"; which of two routes is preferred say the rules of
-- selection (specs/Selection of attrs).
-- Example: of a static route and one of BGP with the same preference the static one.
use Rattle.std.specs.Prelude.{ℕ, zero, suc, Option, Some, None, if◌then◌else◌}
use Rattle.attrs.specs.declared.route.Route.{Route}
use Rattle.attrs.specs.Selection.{before}

-- the preferred of two
abbrev pub preferred : Option Route → Option Route → Option Route
preferred None other = other
preferred (Some route) None = Some route
preferred (Some route) (Some other) = if before other route then Some other else Some route

-- the best of the routes of the sources below a number
abbrev pub best_below : ℕ → (ℕ → Option Route) → Option Route
best_below zero routes = None
best_below (suc number) routes = preferred (best_below number routes) (routes number)
