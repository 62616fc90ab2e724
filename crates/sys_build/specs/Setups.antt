-- What a configuration and a script give to play (`setup_of`): the configuration's tables, and its
-- protocols, each with its number, with what holds for their routes and what their filters say; and
-- the script's queries, over the filters by name and the script's conditions.
-- From: BIRD User's Guide, "Static", "BGP", "Pipe" and "Channel options".
-- Example: static routes have preference 200; a neighbour in another AS is external.
use Rattle.std.specs.Prelude.{ℕ, ◌+◌, Bool, false, not, ◌==◌, List, [], ◌∷◌, ◌++◌, map, Option, Some, None, option_map}
use Rattle.bits_ip.specs.declared.address.Addr.{Addr}
use Rattle.bits_ip.specs.declared.address.Family.{Family}
use Rattle.conf_check.specs.declared.checked.ImportLimit.{ImportLimit}
use Rattle.conf_check.specs.declared.checked.StaticRoute.{StaticRoute}
use Rattle.conf_ast.specs.declared.configurations.Action.{Action as Written}
use Rattle.conf_ast.specs.declared.configurations.Action.TheVariants as written
use Rattle.import_core.specs.declared.import_spec.Action.{Action}
use Rattle.import_core.specs.declared.import_spec.Action.TheVariants as actions
use Rattle.export_core.specs.declared.passing.ExportSpec.{ExportSpec}
use Rattle.import_core.specs.declared.import_spec.Fixed.{Fixed}
use Rattle.import_core.specs.declared.import_spec.ImportSpec.{ImportSpec}
use Rattle.import_core.specs.declared.import_spec.Limit.{Limit}
use Rattle.protos.specs.Protocols.{bgp_spec, static_spec}
use Rattle.core_setup.specs.Setup as setup
use Rattle.core_setup.specs.Setup.{Setup}
use Rattle.show_route.specs.declared.query.Query.{Query}
use Rattle.conf_system.specs.Policies.{Filter}
use Rattle.conf_system.specs.System.{Bgp, Body, IsBgp, IsPipe, IsStatic, Pipe, Protocol, Static, System}
use Rattle.conf_system.specs.Texts.{IsSystem}

-- ---- imports

abbrev pub action_of : Written → Action
action_of written.Warn = actions.Warn
action_of written.Block = actions.Block
action_of written.Disable = actions.Disable

abbrev pub limit_of : ImportLimit → Limit
limit_of limit = record { count = limit.count; action = action_of limit.action }

abbrev pub fixed_of : StaticRoute → Fixed
fixed_of route = record { net = route.net; dest = route.dest; gw = route.gateway }

-- ---- protocols

-- static routes lack neither a MED nor a local preference that anything reads
abbrev pub static_imports : ℕ → (preference : ℕ) → Option ImportLimit → List StaticRoute
    → ImportSpec
static_imports number preference limit routes =
    static_spec (record { num = number; def_med = 0; def_lp = 0 }) preference
    (option_map limit_of limit) (map fixed_of routes)

abbrev pub static_of : ℕ → Static → setup.Source
static_of number p = record {
  table = p.channel.table;
  spec = static_imports number p.channel.preference p.channel.limit p.routes;
  filter = p.channel.import;
  exports = None;
}

-- the neighbour is in another autonomous system
abbrev pub is_external : (local remote : ℕ) → Bool
is_external local remote = not (local == remote)

abbrev pub bgp_imports : ℕ → (med local_pref : ℕ) → Addr → (external : Bool) → (preference : ℕ)
    → Option ImportLimit → ImportSpec
bgp_imports number med local_pref neighbor external preference limit =
    bgp_spec (record { num = number; def_med = med; def_lp = local_pref }) neighbor external
    preference (option_map limit_of limit)

-- the gate of a channel to a neighbour, which sends the best route of each net
abbrev pub gate_of : ℕ → Family → (external interpret : Bool) → ExportSpec
gate_of number family external interpret = record {
  family = family;
  own = number;
  to_ebgp = external;
  interpret = interpret;
  every = false;
  sources = [];
}

abbrev pub bgp_of : ℕ → Bgp → setup.Source
bgp_of number p = record {
  table = p.channel.table;
  spec = bgp_imports number p.default_med p.default_local_pref p.neighbor
      (is_external p.local p.remote) p.channel.preference p.channel.limit;
  filter = p.channel.import;
  exports = Some (record {
    spec = gate_of number p.channel.family (is_external p.local p.remote)
        p.interpret_communities;
    filter = p.channel.export;
  });
}

-- from the primary table to the peer table by the exports, and back by the imports
abbrev pub pipe_of : Pipe → setup.Pipe
pipe_of p = record { primary = p.table; peer = p.peer; export = p.export; import = p.import }

abbrev pub body_of : ℕ → Body → setup.Body
body_of number (IsStatic p) = setup.IsSource (static_of number p)
body_of number (IsBgp p) = setup.IsSource (bgp_of number p)
body_of number (IsPipe p) = setup.IsPipe (pipe_of p)

abbrev pub protocol_of : ℕ → Protocol → setup.Protocol
protocol_of number p = record { name = p.name; body = body_of number p.body }

-- protocols with their numbers from this one on
abbrev pub protocols_from : ℕ → List Protocol → List setup.Protocol
protocols_from number [] = []
protocols_from number (p ∷ more) = protocol_of number p ∷ protocols_from (number + 1) more

-- by which filters a query can choose: those by name, then conditions
abbrev pub choices_of : System → (conditions : List Filter) → List Filter
choices_of system conditions = map (λ filter. filter.1) system.filters ++ conditions

-- What a system gives to play, with journals of so many changes and a script of these conditions
-- and queries.
unfoldable pub setup_of : System → ℕ → (conditions : List Filter) → List Query → Setup
setup_of system cells conditions queries = record {
  tables = system.tables;
  protocols = protocols_from 0 system.protocols;
  cells = cells;
  choices = choices_of system conditions;
  queries = queries;
}

-- what an accepted configuration comes to; each can be played
abbrev pub IsPlayable : System → Type 0
IsPlayable system = (text : List ℕ) × IsSystem text system
