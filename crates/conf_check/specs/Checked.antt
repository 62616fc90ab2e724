-- What a configuration comes to that is accepted (`IsChecked`): its filters by what they do
-- (`Does`), its protocols with each option or its default, by the options that count: policies,
-- channels (`IsChannel`), static protocols, BGP, pipes (`IsStatic`, `IsBgp`, `IsPipe`); and where
-- in the text its tables and its protocols are named (`table_places`, `protocol_place`).
-- From: BIRD User's Guide, "Channel options", "BGP", "Static", "Pipe"; some defaults are own.
-- Example: a channel `ipv4;` of a static protocol is one of master4, with all imported, nothing
-- exported and the preference 200. In `ipv4 table t;` the place of the table is 11.
use Rattle.std.specs.Prelude.{◌≡◌, ◌≤◌, ◌*◌, ℕ, Bool, true, false, if◌then◌else◌, All, List, [], ◌∷◌, ◌++◌, length, map, Option, Some, None, ⊤}
use Rattle.attrs.specs.declared.attributes.Attrs.{Attrs}
use Rattle.attrs.specs.declared.attributes.Dest.{Dest}
use Rattle.attrs.specs.declared.attributes.Dest.TheVariants as dests
use Rattle.bits_ip.specs.declared.address.Addr.{Addr}
use Rattle.bits_ip.specs.declared.address.Family.{Family}
use Rattle.bits_ip.specs.declared.address.Family.TheVariants as families
use Rattle.conf_ast.specs.declared.filters.Num.{Num}
use Rattle.conf_ast.specs.declared.named.Name.{Name}
use Rattle.conf_ast.specs.Names.{name_bytes}
use Rattle.conf_ast.specs.declared.configurations.Limit.{Limit}
use Rattle.conf_ast.specs.declared.configurations.Limit.TheVariants as limits
use Rattle.conf_ast.specs.declared.configurations.Route.{Route}
use Rattle.conf_ast.specs.declared.configurations.RouteTarget.{RouteTarget}
use Rattle.conf_ast.specs.declared.configurations.RouteTarget.TheVariants as targets
use Rattle.conf_ast.specs.Configurations as conf
use Rattle.conf_ast.specs.Configurations.{Passing, PassAll, PassNone, PassByFilter, PassByBlock, PassWhere, FamilyChannel, StaticSetting, BgpSetting, PipeSetting, Instance}
use Rattle.conf_ast.specs.Filters.{Statements}
use Rattle.filt_meaning.specs.Configuration as meaning
use Rattle.filt_meaning.specs.Configuration.{filter_where}
use Rattle.filt_meaning.specs.Names.{Around}
use Rattle.filt_meaning.specs.declared.scope.Scope.{Scope}
use Rattle.filt_meaning.specs.declared.scope.TFunction.{TFunction}
use Rattle.filt_meaning.specs.declared.tree.TFilter.{TFilter}
use Rattle.filt_meaning.specs.Scopes.{constant_values, context_of, function_trees}
use Rattle.filt_meaning.specs.Steps.{IsLight, filter_steps}
use Rattle.filt_meaning.specs.Trees.{AreBefore, tree_flow}
use Rattle.filt_types.specs.Weight.{block_weight}
use Rattle.conf_options.specs.Defaults as defaults
use Rattle.conf_options.specs.Defaults.{action_or, address_or, bgp_preference, export_or, import_or, interprets, limit_or, static_preference}
use Rattle.conf_options.specs.Options.{bgp_options, pipe_options}
use Rattle.conf_rules.specs.Channels.{options_of}
use Rattle.conf_names.specs.Known.{Known, number_of, place_in, table_number, table_of}
use Rattle.conf_rules.specs.Protocols.{as_number, bgp_channels, primary_name, static_channels, static_routes}
use Rattle.conf_names.specs.Names.{bgp_stem, own_name, pipe_stem, place_of, static_stem}
use Rattle.conf_rules.specs.Statements.{is_master, master}
use Rattle.conf_names.specs.Seen.{known_of}
use Rattle.conf_check.specs.declared.checked.BgpDef.{BgpDef}
use Rattle.conf_check.specs.declared.checked.ChannelDef.{ChannelDef}
use Rattle.conf_check.specs.declared.checked.Checked.{Checked}
use Rattle.conf_check.specs.declared.checked.ImportLimit.{ImportLimit}
use Rattle.conf_check.specs.declared.checked.PipeDef.{PipeDef}
use Rattle.conf_check.specs.declared.checked.PolicyDef.{PolicyDef}
use Rattle.conf_check.specs.declared.checked.PolicyDef.TheVariants as policies
use Rattle.conf_check.specs.declared.checked.ProtocolBody.{ProtocolBody}
use Rattle.conf_check.specs.declared.checked.ProtocolBody.TheVariants as bodies
use Rattle.conf_check.specs.declared.checked.ProtocolDef.{ProtocolDef}
use Rattle.conf_check.specs.declared.checked.StaticDef.{StaticDef}
use Rattle.conf_check.specs.declared.checked.StaticRoute.{StaticRoute}
use Rattle.conf_check.specs.Behind.{at_start, behind}

-- ---- what is written

-- the number of the filter of that name
abbrev pub filter_number : Known → Name → ℕ
filter_number known n = place_in known.filters (name_bytes known.scene.text n)

-- a number that is known, else 0; in what is accepted it is known
abbrev pub or_zero : Option ℕ → ℕ
or_zero None = 0
or_zero (Some n) = n

-- a number that is written and known, else that one
abbrev pub number_or : Known → (default : ℕ) → Option Num → ℕ
number_or known default None = default
number_or known default (Some n) = or_zero (number_of known n)

-- a family that is known, else that of IPv4; in what is accepted it is known
abbrev pub or_v4 : Option Family → Family
or_v4 None = families.V4
or_v4 (Some family) = family

-- ---- filters

-- The tree comes to over the scope what the statements come to behind these statements of a
-- configuration. It takes five steps for each that they weigh at most, whatever the scope declares
-- more.
pub record Does (text : List ℕ) (scope : Scope) (before : List conf.Declaration)
    (ss : Statements) (f : TFilter) : Type 0 where
  pub comes_to : (around : Around) (attrs : Attrs)
      → tree_flow around (constant_values scope) (function_trees scope) f attrs
      ≡ meaning.body (meaning.behind (meaning.at_start text around) before) [] ss [] attrs
  pub sees : AreBefore (function_trees scope) f
  pub steps : (more : List TFunction) → filter_steps (function_trees scope ++ more) f
      ≤ 5 * block_weight (behind (at_start text) before).scene ss

-- the scope is seen as the meaning of filters sees the place behind these statements
abbrev pub SeesAs : List ℕ → List conf.Declaration → Scope → Type 0
SeesAs text before scope = (around : Around)
    → context_of text around scope [] ≡ meaning.behind (meaning.at_start text around) before

-- the filters by name, each with the statements before it
abbrev pub Source : Type 0
Source = List conf.Declaration × Statements

abbrev pub filter_source : (before : List conf.Declaration) → conf.Declaration → List Source
filter_source before (conf.DefineFilter at name ss) = (before, ss) ∷ []
filter_source before _ = []

abbrev pub filter_sources : (before : List conf.Declaration) → List conf.Declaration → List Source
filter_sources before [] = []
filter_sources before (d ∷ ds) = filter_source before d ++ filter_sources (before ++ d ∷ []) ds

abbrev pub DoEach : (does : List conf.Declaration → Statements → TFilter → Type 0)
    → List Source → List TFilter → Type 0
DoEach does [] [] = ⊤
DoEach does (s ∷ more) (f ∷ fs) = does s.0 s.1 f × DoEach does more fs
DoEach does _ _ = ⊥

-- ---- policies

-- A policy is one of these where filters of its own do what its statements do.
abbrev pub IsPolicy : Known → (Statements → TFilter → Type 0) → Passing → PolicyDef → Type 0
IsPolicy known does PassAll policies.All = ⊤
IsPolicy known does PassNone policies.None = ⊤
IsPolicy known does (PassByFilter at name) (policies.Filter n) = n ≡ filter_number known name
IsPolicy known does (PassByBlock at ss) (policies.Own f) = does ss f
IsPolicy known does (PassWhere at e) (policies.Own f) = does (filter_where e) f
IsPolicy known does _ _ = ⊥

-- ---- channels

abbrev pub limit_of : Known → Limit → Option ImportLimit
limit_of known limits.Off = None
limit_of known (limits.Count n action) =
    Some (record { count = or_zero (number_of known n); action = action_or action })

-- The table is that of the family where none is named.
abbrev pub table_name : List ℕ → Family → Option Name → List ℕ
table_name text family None = master family
table_name text family (Some n) = name_bytes text n

abbrev pub channel_table : Known → FamilyChannel → ℕ
channel_table known c =
    table_number known (table_name known.scene.text c.family (options_of c).table)

abbrev pub channel_imports : FamilyChannel → Passing
channel_imports c = import_or (options_of c).import

abbrev pub channel_exports : FamilyChannel → Passing
channel_exports c = export_or (options_of c).export

-- `preference` is that of the protocol's kind.
abbrev pub channel_preference : Known → (preference : ℕ) → FamilyChannel → ℕ
channel_preference known preference c = number_or known preference (options_of c).preference

abbrev pub channel_limit : Known → FamilyChannel → Option ImportLimit
channel_limit known c = limit_of known (limit_or (options_of c).limit)

pub record IsChannel (known : Known) (does : Statements → TFilter → Type 0) (preference : ℕ)
    (c : FamilyChannel) (def : ChannelDef) : Type 0 where
  pub family : def.family ≡ c.family
  pub table : def.table ≡ channel_table known c
  pub imports : IsPolicy known does (channel_imports c) def.import
  pub exports : IsPolicy known does (channel_exports c) def.export
  pub preferred : def.preference ≡ channel_preference known preference c
  pub limited : def.limit ≡ channel_limit known c

-- the one channel of a protocol
abbrev pub IsOnly : (FamilyChannel → Type 0) → List FamilyChannel → Type 0
IsOnly is (c ∷ []) = is c
IsOnly is _ = ⊥

-- ---- static protocols

-- a route leads to a gateway, or is dropped in one of three ways
abbrev pub dest_of : RouteTarget → Dest
dest_of (targets.Via a) = dests.Unicast
dest_of targets.Blackhole = dests.Blackhole
dest_of targets.Unreachable = dests.Unreachable
dest_of targets.Prohibit = dests.Prohibit

abbrev pub gateway_of : RouteTarget → Option Addr
gateway_of (targets.Via a) = Some a.addr
gateway_of targets.Blackhole = None
gateway_of targets.Unreachable = None
gateway_of targets.Prohibit = None

abbrev pub route_of : Route → StaticRoute
route_of r = record {
  net = r.net;
  dest = dest_of r.target;
  gateway = gateway_of r.target;
}

pub record IsStatic (known : Known) (does : Statements → TFilter → Type 0)
    (p : Instance StaticSetting) (def : StaticDef) : Type 0 where
  pub channel : IsOnly (λ c. IsChannel known does static_preference c def.channel)
      (static_channels p.settings)
  pub routes : def.routes ≡ map route_of (static_routes p.settings)

-- ---- BGP

-- the numbers of the two autonomous systems
abbrev pub local_of : Known → List BgpSetting → ℕ
local_of known ss = or_zero (as_number known (bgp_options ss).local)

abbrev pub remote_of : Known → List BgpSetting → ℕ
remote_of known ss = or_zero (as_number known (defaults.remote (bgp_options ss)))

abbrev pub neighbor_of : List BgpSetting → Addr
neighbor_of ss = address_or (bgp_options ss).neighbor

abbrev pub are_interpreted : List BgpSetting → Bool
are_interpreted ss = interprets (bgp_options ss).interpret_communities

-- what a missing MED and a missing local preference count as
abbrev pub med_of : Known → List BgpSetting → ℕ
med_of known ss = number_or known defaults.default_med (bgp_options ss).default_med

abbrev pub local_pref_of : Known → List BgpSetting → ℕ
local_pref_of known ss =
    number_or known defaults.default_local_pref (bgp_options ss).default_local_pref

pub record IsBgp (known : Known) (does : Statements → TFilter → Type 0)
    (p : Instance BgpSetting) (def : BgpDef) : Type 0 where
  pub local : def.local ≡ local_of known p.settings
  pub remote : def.remote ≡ remote_of known p.settings
  pub neighbor : def.neighbor ≡ neighbor_of p.settings
  pub interpret : def.interpret_communities ≡ are_interpreted p.settings
  pub med : def.default_med ≡ med_of known p.settings
  pub local_pref : def.default_local_pref ≡ local_pref_of known p.settings
  pub channel : IsOnly (λ c. IsChannel known does bgp_preference c def.channel)
      (bgp_channels p.settings)

-- ---- pipes

abbrev pub primary_table : Known → List PipeSetting → ℕ
primary_table known ss =
    table_number known (primary_name known.scene.text (pipe_options ss).table)

abbrev pub peer_table : Known → Name → ℕ
peer_table known name = table_number known (name_bytes known.scene.text name)

-- the family of the peer table, which both tables have
abbrev pub pipe_family : Known → Name → Family
pipe_family known name = or_v4 (table_of known name)

abbrev pub pipe_imports : List PipeSetting → Passing
pipe_imports ss = import_or (pipe_options ss).import

abbrev pub pipe_exports : List PipeSetting → Passing
pipe_exports ss = export_or (pipe_options ss).export

-- what rests on the peer table
abbrev pub IsPeer : Known → Option Name → PipeDef → Type 0
IsPeer known None def = ⊥
IsPeer known (Some name) def =
    (def.peer ≡ peer_table known name) × (def.family ≡ pipe_family known name)

pub record IsPipe (known : Known) (does : Statements → TFilter → Type 0)
    (p : Instance PipeSetting) (def : PipeDef) : Type 0 where
  pub table : def.table ≡ primary_table known p.settings
  pub peer : IsPeer known (pipe_options p.settings).peer def
  pub imports : IsPolicy known does (pipe_imports p.settings) def.import
  pub exports : IsPolicy known does (pipe_exports p.settings) def.export

-- ---- protocols

abbrev pub IsBody : Known → (Statements → TFilter → Type 0) → conf.Declaration → ProtocolBody
    → Type 0
IsBody known does (conf.Static p) (bodies.Static def) = IsStatic known does p def
IsBody known does (conf.Bgp p) (bodies.Bgp def) = IsBgp known does p def
IsBody known does (conf.Pipe p) (bodies.Pipe def) = IsPipe known does p def
IsBody known does _ _ = ⊥

-- the name of a protocol
abbrev pub protocol_name : Known → conf.Declaration → List ℕ
protocol_name known (conf.Static p) = own_name known static_stem p.name
protocol_name known (conf.Bgp p) = own_name known bgp_stem p.name
protocol_name known (conf.Pipe p) = own_name known pipe_stem p.name
protocol_name known _ = []

-- the byte at which its name begins, or its kind's word where it has none
abbrev pub protocol_place : conf.Declaration → ℕ
protocol_place (conf.Static p) = place_of p.at p.name
protocol_place (conf.Bgp p) = place_of p.at p.name
protocol_place (conf.Pipe p) = place_of p.at p.name
protocol_place _ = 0

pub record IsProtocol (known : Known) (does : Statements → TFilter → Type 0)
    (d : conf.Declaration) (def : ProtocolDef) : Type 0 where
  pub at : def.at ≡ protocol_place d
  pub name : def.name ≡ protocol_name known d
  pub body : IsBody known does d def.body

abbrev pub is_protocol : conf.Declaration → Bool
is_protocol (conf.Static p) = true
is_protocol (conf.Bgp p) = true
is_protocol (conf.Pipe p) = true
is_protocol _ = false

-- the first of these protocols where there is one, and the rest of them
abbrev pub NextProtocol : (is_there : Bool) → (ProtocolDef → Type 0)
    → (List ProtocolDef → Type 0) → List ProtocolDef → Type 0
NextProtocol false is rest defs = rest defs
NextProtocol true is rest [] = ⊥
NextProtocol true is rest (def ∷ defs) = is def × rest defs

-- The protocols are those of the statements, in their order, each over what is declared before it.
abbrev pub AreProtocols : (text : List ℕ)
    → (does : List conf.Declaration → Statements → TFilter → Type 0)
    → (before : List conf.Declaration) → List conf.Declaration → List ProtocolDef → Type 0
AreProtocols text does before [] [] = ⊤
AreProtocols text does before [] (def ∷ defs) = ⊥
AreProtocols text does before (d ∷ ds) defs =
    NextProtocol (is_protocol d)
    (IsProtocol (behind (at_start text) before) (does before) d)
    (AreProtocols text does (before ++ d ∷ []) ds) defs

-- ---- tables

-- the byte at which a table's name begins, of a statement that declares one
abbrev pub table_place : (text : List ℕ) → conf.Declaration → List ℕ
table_place text (conf.Table at family name) =
    if is_master (at_start text) family name then [] else name.at ∷ []
table_place text _ = []

abbrev pub declared_places : (text : List ℕ) → List conf.Declaration → List ℕ
declared_places text [] = []
declared_places text (d ∷ ds) = table_place text d ++ declared_places text ds

-- By the tables' numbers. The first two are master4 and master6, which no statement declares: their
-- place is 0.
abbrev pub table_places : (text : List ℕ) → List conf.Declaration → List ℕ
table_places text ds = 0 ∷ 0 ∷ declared_places text ds

-- ---- functions

-- Each of these functions takes five steps for each that it weighs at most, where it may call those
-- before it, whatever is declared behind them.
abbrev pub AreLightBehind : (before : List TFunction) → List TFunction → Type 0
AreLightBehind before [] = ⊤
AreLightBehind before (f ∷ fs) =
    ((more : List TFunction) → IsLight (before ++ more) f) × AreLightBehind (before ++ f ∷ []) fs

abbrev pub AreLight : List TFunction → Type 0
AreLight fs = AreLightBehind [] fs

-- ---- the configuration

pub record IsChecked (text : List ℕ) (ds : List conf.Declaration) (checked : Checked)
    : Type 0 where
  pub declared : known_of text checked.declared ≡ behind (at_start text) ds
  pub scope : SeesAs text ds checked.declared.scope
  pub filters : DoEach (Does text checked.declared.scope) (filter_sources [] ds)
      checked.filters.items
  pub protocols : AreProtocols text (Does text checked.declared.scope) [] ds
      checked.protocols.items
  pub places : checked.table_places.items ≡ table_places text ds
  pub end : checked.end ≡ length text
  -- no function sees more constants than there are
  pub within : All
      (λ (g : TFunction). g.constants ≤ length (constant_values checked.declared.scope))
      (function_trees checked.declared.scope)
  pub light : AreLight (function_trees checked.declared.scope)
