-- For private contracts alone: nets with their routes, as they are kept.
use Rattle.std.specs.Prelude.{◌≡◌, ◌≢◌, ◌<◌, ℕ, IsSomeAnd, List, [], ◌∷◌, ◌++◌, length, Option, Some, None, sum_by}
use Rattle.std.specs.BTreeMap.{is_at}
use Rattle.std.specs.List.Sorted.{IsStrictlySortedBy}
use Rattle.std.specs.Map.{keys_of, lookup, values_of}
use Rattle.std.specs.Vec.{vec_len, vec_capacity}
use Rattle.std.specs.declared.alloc.Global.{Global}
use Rattle.std.specs.declared.vec.Vec.{Vec}
use Rattle.bits_ip.specs.Address.{family_of}
use Rattle.bits_ip.specs.Prefix.{IsPrefix, Net, net_cmp}
use Rattle.bits_ip.specs.declared.address.Family.{Family}
use Rattle.attrs.specs.declared.route.Route.{Route}
use Rattle.attrs.specs.declared.route.Row.{Row}
use Rattle.rib.specs.Steps.{AreRoutes}

-- nets, each with its routes in memory
abbrev pub Entries : Type 0
Entries = List (Net × Vec Route Global)

-- the net's row, where it has routes
abbrev pub row_of : Net → List Route → List Row
row_of net [] = []
row_of net (r ∷ rest) = record { net = net; routes = r ∷ rest } ∷ []

abbrev pub rows_of : Entries → List Row
rows_of [] = []
rows_of (e ∷ es) = row_of e.0 e.1.items ++ rows_of es

-- what is kept at a net, and which routes
abbrev pub entry_at : Net → Entries → Option (Vec Route Global)
entry_at net entries = lookup (is_at (net_cmp net)) entries

abbrev pub items_of : Option (Vec Route Global) → List Route
items_of None = []
items_of (Some routes) = routes.items

abbrev pub routes_at : Net → Entries → List Route
routes_at net entries = items_of (entry_at net entries)

-- how many routes there are
abbrev pub count_of : Entries → ℕ
count_of entries = sum_by (λ routes. length routes.items) (values_of entries)

-- the nets in their order, each once
abbrev pub AreKeys : Entries → Type 0
AreKeys entries = IsStrictlySortedBy net_cmp (keys_of entries)

-- each net with routes is a prefix
abbrev pub ArePrefixes : Entries → Type 0
ArePrefixes entries = (net : Net) → routes_at net entries ≢ [] → IsPrefix net.addr net.len

-- nets in their order, those with routes prefixes of one family, with so many routes
pub record AreNets (fam : Family) (entries : Entries) (count : ℕ) : Type 0 where
  pub keys : AreKeys entries
  pub routes : (net : Net) → AreRoutes (routes_at net entries)
  pub family : (net : Net) → routes_at net entries ≢ [] → family_of net.addr ≡ fam
  pub prefixes : ArePrefixes entries
  pub total : count ≡ count_of entries

-- one more element takes no memory
abbrev pub HasRoom : {X Z : Type 0} → Vec X Z → Type 0
HasRoom vec = vec_len vec < vec_capacity vec

-- the net is there, with room for one more route
abbrev pub HasRoomAt : Net → Entries → Type 0
HasRoomAt net entries = IsSomeAnd (entry_at net entries) HasRoom

-- the net is there, without routes
abbrev pub IsEmptyAt : Net → Entries → Type 0
IsEmptyAt net entries = IsSomeAnd (entry_at net entries) (λ routes. routes.items ≡ [])
