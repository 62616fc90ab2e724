-- What a configuration comes to (`system_in`): its tables, its filters and its protocols, each in
-- the order of their numbers, what each filter and each protocol's policies say of routes, and what
-- conditions ask for that are written elsewhere. Of options written twice the last counts, and what
-- isn't written has its default.
-- From: BIRD User's Guide, "Channel options", "Static", "BGP" and "Pipe".
-- Example: `preference 7; preference 9;` is a preference of 9.
use Rattle.std.specs.Prelude.{ℕ, Bool, List, [], ◌∷◌, ◌++◌, map, Option, Some, None}
use Rattle.bits_ip.specs.declared.address.Addr.{Addr}
use Rattle.bits_ip.specs.declared.address.Family.{Family}
use Rattle.conf_ast.specs.declared.named.Name.{Name}
use Rattle.conf_ast.specs.Names.{name_bytes}
use Rattle.conf_ast.specs.Configurations as conf
use Rattle.conf_ast.specs.Configurations.{BgpSetting, FamilyChannel, Passing, PipeSetting}
use Rattle.conf_ast.specs.Filters.{Expression}
use Rattle.conf_options.specs.Defaults.{bgp_preference, static_preference}
use Rattle.conf_options.specs.Options.{pipe_options}
use Rattle.conf_names.specs.Known.{Known}
use Rattle.conf_rules.specs.Protocols.{bgp_channels, static_channels, static_routes}
use Rattle.conf_check.specs.Behind.{at_start, behind}
use Rattle.conf_check.specs.Checked.{Source, are_interpreted, channel_exports, channel_imports, channel_limit, channel_preference, channel_table, filter_sources, local_of, local_pref_of, med_of, neighbor_of, peer_table, pipe_exports, pipe_family, pipe_imports, primary_table, protocol_name, remote_of, route_of}
use Rattle.conf_check.specs.declared.checked.ImportLimit.{ImportLimit}
use Rattle.conf_check.specs.declared.checked.StaticRoute.{StaticRoute}
use Rattle.filt_meaning.specs.Configuration.{verdict}
use Rattle.conf_system.specs.Asked.{Asked, asked_behind}
use Rattle.conf_system.specs.Policies.{Filter, says}

-- ---- what there is

-- a channel between a protocol and the table of this number
pub record Channel : Type 0 where
  pub family : Family
  pub table : ℕ
  pub import : Filter
  pub export : Filter
  pub preference : ℕ
  pub limit : Option ImportLimit

pub record Static : Type 0 where
  pub channel : Channel
  pub routes : List StaticRoute

pub record Bgp : Type 0 where
  pub local : ℕ
  pub neighbor : Addr
  pub remote : ℕ
  pub interpret_communities : Bool
  pub default_med : ℕ
  pub default_local_pref : ℕ
  pub channel : Channel

-- between two tables of one family: from the primary table to the peer table by the exports, and
-- back by the imports
pub record Pipe : Type 0 where
  pub family : Family
  pub table : ℕ
  pub peer : ℕ
  pub import : Filter
  pub export : Filter

pub data Body : Type 0 where
  IsStatic : Static → Body
  IsBgp : Bgp → Body
  IsPipe : Pipe → Body

pub record Protocol : Type 0 where
  pub name : List ℕ
  pub body : Body

-- A condition is told by its own text, in which its names stand.
pub record System : Type 0 where
  pub tables : List (List ℕ × Family)
  pub filters : List (List ℕ × Filter)
  pub asked : (text : List ℕ) → Expression → Asked
  pub protocols : List Protocol

-- ---- one protocol

-- What policies say, and what is known, where a protocol stands.
module _ (said : Passing → Filter) (known : Known) where
  abbrev pub channel_of : (preference : ℕ) → FamilyChannel → Channel
  channel_of preference c = record {
    family = c.family;
    table = channel_table known c;
    import = said (channel_imports c);
    export = said (channel_exports c);
    preference = channel_preference known preference c;
    limit = channel_limit known c;
  }

  abbrev pub static_with : List FamilyChannel → List StaticRoute → Option Body
  static_with (c ∷ []) routes =
      Some (IsStatic (record { channel = channel_of static_preference c; routes = routes }))
  static_with _ routes = None

  abbrev pub bgp_with : List FamilyChannel → List BgpSetting → Option Body
  bgp_with (c ∷ []) settings = Some (IsBgp (record {
    local = local_of known settings;
    neighbor = neighbor_of settings;
    remote = remote_of known settings;
    interpret_communities = are_interpreted settings;
    default_med = med_of known settings;
    default_local_pref = local_pref_of known settings;
    channel = channel_of bgp_preference c;
  }))
  bgp_with _ settings = None

  abbrev pub pipe_with : Option Name → List PipeSetting → Option Body
  pipe_with None settings = None
  pipe_with (Some peer) settings = Some (IsPipe (record {
    family = pipe_family known peer;
    table = primary_table known settings;
    peer = peer_table known peer;
    import = said (pipe_imports settings);
    export = said (pipe_exports settings);
  }))

  -- What a statement says of a protocol. In what is accepted a protocol has one channel, and a pipe
  -- a peer table; `device` isn't one that does anything.
  abbrev pub body_of : conf.Declaration → Option Body
  body_of (conf.Static p) =
      static_with (static_channels p.settings) (map route_of (static_routes p.settings))
  body_of (conf.Bgp p) = bgp_with (bgp_channels p.settings) p.settings
  body_of (conf.Pipe p) = pipe_with (pipe_options p.settings).peer p.settings
  body_of _ = None

-- ---- all protocols

abbrev pub with_body : (name : List ℕ) → Option Body → List Protocol → List Protocol
with_body name None rest = rest
with_body name (Some body) rest = record { name = name; body = body } ∷ rest

-- the protocols of these statements behind those before them
abbrev pub protocols_behind : (text : List ℕ) → (names : List (List ℕ)) → (filters : List Source)
    → (before : List conf.Declaration) → List conf.Declaration → List Protocol
protocols_behind text names filters before [] = []
protocols_behind text names filters before (d ∷ ds) =
    with_body (protocol_name (behind (at_start text) before) d)
    (body_of (says text names filters before) (behind (at_start text) before) d)
    (protocols_behind text names filters (before ++ d ∷ []) ds)

-- their names, whatever policies say
abbrev pub names_of : List Protocol → List (List ℕ)
names_of protocols = map (λ p. p.name) protocols

abbrev pub names_in : (text : List ℕ) → List conf.Declaration → List (List ℕ)
names_in text ds = names_of (protocols_behind text [] (filter_sources [] ds) [] ds)

-- the filters by name, each by what its statements do behind those before it
abbrev pub filter_in : (text : List ℕ) → (names : List (List ℕ))
    → (before : List conf.Declaration) → conf.Declaration → List (List ℕ × Filter)
filter_in text names before (conf.DefineFilter at name ss) =
    (name_bytes text name, verdict text before names ss) ∷ []
filter_in text names before _ = []

abbrev pub filters_behind : (text : List ℕ) → (names : List (List ℕ))
    → (before : List conf.Declaration) → List conf.Declaration → List (List ℕ × Filter)
filters_behind text names before [] = []
filters_behind text names before (d ∷ ds) =
    filter_in text names before d ++ filters_behind text names (before ++ d ∷ []) ds

-- what a configuration comes to
unfoldable pub system_in : (text : List ℕ) → List conf.Declaration → System
system_in text ds = record {
  tables = (behind (at_start text) ds).tables;
  filters = filters_behind text (names_in text ds) [] ds;
  asked = asked_behind text (names_in text ds) ds;
  protocols = protocols_behind text (names_in text ds) (filter_sources [] ds) [] ds;
}
