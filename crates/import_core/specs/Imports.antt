-- The state of a protocol's imports (`Imports`): its mode, the router id of its neighbour, the
-- routes that it received and those of them that were accepted.
-- Not modelled: how they are kept.
-- From: BIRD User's Guide, "Routing tables", "Protocol options" and "Channel options".
-- Example: before its session opens a protocol of BGP is idle and has no routes.
use Rattle.std.specs.Prelude.{ℕ, Bool, true, false, not, List, [], Option, is_some, filter}
use Rattle.std.specs.BTreeMap.{insert_entry, is_at}
use Rattle.std.specs.List.Sorted.{IsStrictlySortedBy}
use Rattle.std.specs.Map.{keys_of, lookup}
use Rattle.bits_ip.specs.Prefix.{Net, net_cmp}
use Rattle.attrs.specs.declared.route.Route.{Route}
use Rattle.import_core.specs.declared.mode.Mode.{Mode}
use Rattle.import_core.specs.declared.mode.Mode.TheVariants.{Idle, Up, Disabled, Limited}

-- Routes by net: a finite map, as the list of its nets with their routes.
abbrev pub Routes : Type 0
Routes = List (Net × Route)

-- in the order of nets, each net once
abbrev pub AreInOrder : Routes → Type 0
AreInOrder routes = IsStrictlySortedBy net_cmp (keys_of routes)

abbrev pub route_at : Net → Routes → Option Route
route_at net routes = lookup (is_at (net_cmp net)) routes

abbrev pub has_net : Net → Routes → Bool
has_net net routes = is_some (route_at net routes)

-- with this route of the net
abbrev pub with_route : Net → Route → Routes → Routes
with_route net route routes = insert_entry net_cmp routes net route

-- without a route of the net
abbrev pub without : Net → Routes → Routes
without net routes = filter (λ e. not (is_at (net_cmp net) e.0)) routes

pub record Imports : Type 0 where
  pub mode : Mode
  -- the router id of the last `open` that acted
  pub id : ℕ
  pub received : Routes
  pub accepted : Routes

abbrev pub is_up : Mode → Bool
is_up Up = true
is_up Idle = false
is_up Disabled = false
is_up Limited = false

-- how a protocol begins
abbrev pub nothing_yet : Imports
nothing_yet = record { mode = Idle; id = 0; received = []; accepted = [] }
