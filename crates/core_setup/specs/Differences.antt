-- The changes between two states of a protocol's accepted routes (`differences`): which they are
-- and in which order.
-- Not modelled: how they are found.
-- From: own.
-- Example: a net whose route is the same gives no change.
use Rattle.std.specs.Prelude.{ℕ, Bool, List, [], ◌∷◌, Option, if◌then◌else◌}
use Rattle.std.specs.List.{flat_map}
use Rattle.std.specs.Map.{keys_of}
use Rattle.std.specs.Option.{option_eq}
use Rattle.bits_ip.specs.Prefix.{Net, precedes, same_net}
use Rattle.attrs.specs.declared.route.Change.{Change}
use Rattle.attrs.specs.declared.route.Route.{Route}
use Rattle.attrs.specs.contracts.route.RoutePartialEq.TheImpl as route
use Rattle.import_core.specs.Imports.{Routes, route_at}

-- nets in their order, each once, with one more
abbrev pub with_net : Net → List Net → List Net
with_net net [] = net ∷ []
with_net net (other ∷ more) =
    if same_net net other
    then other ∷ more
    else (if precedes net other then net ∷ other ∷ more else other ∷ with_net net more)

abbrev pub with_nets : List Net → List Net → List Net
with_nets [] nets = nets
with_nets (net ∷ more) nets = with_net net (with_nets more nets)

-- the nets of two states, in their order
abbrev pub nets_of : Routes → Routes → List Net
nets_of before later = with_nets (keys_of before) (with_nets (keys_of later) [])

-- the same route in each field, or none
abbrev pub same_route : Option Route → Option Route → Bool
same_route one other = option_eq (route.ghosts).eq one other

-- the change of a net, where its route is another one
abbrev pub difference_at : ℕ → Routes → Routes → Net → List Change
difference_at num before later net =
    if same_route (route_at net before) (route_at net later)
    then []
    else record { net = net; num = num; new = route_at net later } ∷ []

-- each net whose route is another one, in the order of nets, with its new route or none
abbrev pub differences : ℕ → Routes → Routes → List Change
differences num before later =
    flat_map (difference_at num before later) (nets_of before later)
