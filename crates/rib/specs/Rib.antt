-- A table, as contracts see it (`Table`): its rows, family and content, and the best of a net
-- (`best_of`).
-- From: own; BIRD User's Guide, "Routing tables".
-- Example: an empty table has no rows.
use Rattle.std.specs.Prelude.{◌≡◌, ℕ, List, [], ◌∷◌, Option, Some, None, ⊤}
use Rattle.bits_ip.specs.declared.address.Family.{Family}
use Rattle.bits_ip.specs.Address.{family_of}
use Rattle.bits_ip.specs.Prefix.{Net}
use Rattle.attrs.specs.declared.route.Route.{Route}
use Rattle.attrs.specs.declared.route.Row.{Row}
use Rattle.attrs.specs.Table.{routes_of}

-- the nets of one family with their routes, and the key for which there is room
pub record Table : Type 0 where
  pub family : Family
  pub rows : List Row
  pub room : Option (Net × ℕ)

-- every row's net is of the family
abbrev pub AreOfFamily : Family → List Row → Type 0
AreOfFamily family [] = ⊤
AreOfFamily family (row ∷ rows) = (family_of row.net.addr ≡ family) × AreOfFamily family rows

-- the first of a net's routes, its best
abbrev pub first_of : List Route → Option Route
first_of [] = None
first_of (r ∷ rest) = Some r

abbrev pub best_of : Net → List Row → Option Route
best_of net rows = first_of (routes_of net rows)
