-- A content as rows, which is what a table shows (`AreRows`, `Shows`): nets in order; of each net
-- the best route first and the others behind it in theirs (`IsInOrder`). What rows say of a key
-- (`route_in`); the routes of a net in a content, in any order (`AreRoutesOf`), and the best of
-- them (`IsBestOf`).
-- From: own; the order is that of Selection.
-- Example: a content of one route has one row of one route.
use Rattle.std.specs.Prelude.{◌≡◌, ◌≢◌, ℕ, ◌==◌, List, [], ◌∷◌, length, Option, Some, find, if◌then◌else◌, sum_by, IsTrue, ⊤}
use Rattle.bits_ip.specs.Prefix.{Net, same_net, precedes}
use Rattle.attrs.specs.declared.route.Route.{Route}
use Rattle.attrs.specs.declared.route.Row.{Row}
use Rattle.attrs.specs.Selection.{before, IsBest}
use Rattle.attrs.specs.History.{Content}

-- selection order: the best of the routes, and behind it the others in their order
abbrev pub IsInOrder : List Route → Type 0
IsInOrder [] = ⊤
IsInOrder (r ∷ rest) = IsBest (r ∷ rest) (Some r) × IsInOrder rest

-- each route is before all that follow it
abbrev pub IsBeforeAll : Route → List Route → Type 0
IsBeforeAll r [] = ⊤
IsBeforeAll r (next ∷ rest) = IsTrue (before r next) × IsBeforeAll r rest

abbrev pub IsSorted : List Route → Type 0
IsSorted [] = ⊤
IsSorted (r ∷ rest) = IsBeforeAll r rest × IsSorted rest

-- no two have one source
abbrev pub HasNone : ℕ → List Route → Type 0
HasNone num [] = ⊤
HasNone num (r ∷ rest) = (r.src.num ≢ num) × HasNone num rest

abbrev pub IsOfSources : List Route → Type 0
IsOfSources [] = ⊤
IsOfSources (r ∷ rest) = HasNone r.src.num rest × IsOfSources rest

-- a net with its routes in selection order: it has one, and no two have one source
pub record IsRow (row : Row) : Type 0 where
  pub filled : row.routes ≢ []
  pub order : IsInOrder row.routes
  pub sources : IsOfSources row.routes

-- the net stands before the first row
abbrev pub IsBelow : Net → List Row → Type 0
IsBelow net [] = ⊤
IsBelow net (row ∷ rows) = IsTrue (precedes net row.net)

-- rows in the order of nets, each net once
abbrev pub AreRows : List Row → Type 0
AreRows [] = ⊤
AreRows (row ∷ rows) = IsRow row × IsBelow row.net rows × AreRows rows

-- the route of a source among routes, and that of a key among rows
abbrev pub route_of : ℕ → List Route → Option Route
route_of num routes = find (λ r. r.src.num == num) routes

abbrev pub routes_of : Net → List Row → List Route
routes_of net [] = []
routes_of net (row ∷ rows) = if same_net net row.net then row.routes else routes_of net rows

abbrev pub route_in : List Row → Content
route_in rows net num = route_of num (routes_of net rows)

-- the rows show the content: each of its routes in its place, and no other
pub record Shows (rows : List Row) (content : Content) : Type 0 where
  pub rows_are : AreRows rows
  pub routes_are : (net : Net) (num : ℕ) → route_in rows net num ≡ content net num

-- how many routes stand in the rows
abbrev pub count_routes : List Row → ℕ
count_routes rows = sum_by (λ row. length row.routes) rows

-- the routes of a net in a content, in any order
pub record AreRoutesOf (content : Content) (net : Net) (routes : List Route) : Type 0 where
  pub sources : IsOfSources routes
  pub are : (num : ℕ) → route_of num routes ≡ content net num

-- the best of the net's routes in the content
abbrev pub IsBestOf : Content → Net → Option Route → Type 0
IsBestOf content net best =
    (routes : List Route) → AreRoutesOf content net routes → IsBest routes best
