-- What is refused of static protocols, of BGP and of pipes (`static`, `bgp`, `pipe`).
-- From: BIRD User's Guide, "Protocol options", "BGP", "Static", "Pipe"; that policies and the
-- comparison of MEDs must be told (C10, C11), that a pipe which closes a cycle is refused (C12) and
-- limits are own.
-- Example: `med metric off; med metric on;` is accepted; two routes of one net are C13 at the
-- second; an external session whose channel has no `export` is C10 at the protocol's name; so is C12
-- of a second pipe between the same two tables.
use Rattle.std.specs.Prelude.{ℕ, ◌+◌, ◌==◌, Bool, true, false, not, ◌&&◌, List, [], ◌∷◌, ◌++◌, Option, Some, None, codes}
use Rattle.std.specs.List.{list_any}
use Rattle.bits_ip.specs.Address.{family_of}
use Rattle.bits_ip.specs.Prefix.{Net, same_net}
use Rattle.bits_ip.specs.declared.address.Family.{Family}
use Rattle.conf_ast.specs.declared.named.Name.{Name}
use Rattle.conf_ast.specs.Names.{name_bytes}
use Rattle.conf_ast.specs.declared.filters.Num.{Num}
use Rattle.conf_ast.specs.declared.kind.ConfKind.TheVariants as kinds
use Rattle.conf_ast.specs.declared.configurations.Route.{Route}
use Rattle.conf_ast.specs.declared.configurations.RouteTarget.{RouteTarget}
use Rattle.conf_ast.specs.declared.configurations.RouteTarget.TheVariants as targets
use Rattle.conf_ast.specs.declared.configurations.Switch.{Switch}
use Rattle.conf_ast.specs.declared.configurations.Transport.{Transport}
use Rattle.conf_ast.specs.declared.configurations.Transport.TheVariants as transports
use Rattle.conf_ast.specs.Configurations.{FamilyChannel, StaticSetting, StaticChannel, StaticRoute, BgpSetting, BgpChannel, BgpLocal, BgpNeighbor, BgpMedMetric, BgpInterpretCommunities, BgpDefaultMed, BgpDefaultLocalPref, BgpTransport, PipeSetting, PipeTable, PipePeerTable, PipeImport, PipeExport, Instance}
use Rattle.conf_options.specs.Defaults.{is_on, remote}
use Rattle.conf_options.specs.Options.{bgp_options, pipe_options}
use Rattle.filt_meaning.specs.Names.{named_in}
use Rattle.conf_names.specs.declared.joints.Joint.{Joint}
use Rattle.conf_names.specs.declared.refusal.Refusal.{Refusal}
use Rattle.conf_rules.specs.Channels.{channel, is_other_family, lacks_policy, one_channel, passing, same_family}
use Rattle.conf_names.specs.Joints.{joined}
use Rattle.conf_names.specs.Known.{Known, known_number, number, number_of, table, table_of}
use Rattle.conf_names.specs.Refusals.{refused_if}
use Rattle.conf_names.specs.Names.{own_name, static_stem, bgp_stem, pipe_stem, pipe_names, place_of, declaring}

-- ---- static protocols

abbrev pub static_setting : Known → StaticSetting → List Refusal
static_setting known (StaticChannel c) = channel known c
static_setting known (StaticRoute r) = []

abbrev pub static_settings : Known → List StaticSetting → List Refusal
static_settings known [] = []
static_settings known (s ∷ more) = static_setting known s ++ static_settings known more

abbrev pub static_channels : List StaticSetting → List FamilyChannel
static_channels [] = []
static_channels (StaticChannel c ∷ more) = c ∷ static_channels more
static_channels (StaticRoute r ∷ more) = static_channels more

abbrev pub static_routes : List StaticSetting → List Route
static_routes [] = []
static_routes (StaticChannel c ∷ more) = static_routes more
static_routes (StaticRoute r ∷ more) = r ∷ static_routes more

abbrev pub family_of_target : Family → RouteTarget → List Refusal
family_of_target family (targets.Via a) =
    refused_if (not (same_family family (family_of a.addr))) a.at kinds.Nettype
family_of_target family targets.Blackhole = []
family_of_target family targets.Unreachable = []
family_of_target family targets.Prohibit = []

-- a route's net and its gateway are of the channel's family
abbrev pub family_of_route : Family → Route → List Refusal
family_of_route family r =
    refused_if (not (same_family family (family_of r.net.addr))) r.at kinds.Nettype
    ++ family_of_target family r.target

abbrev pub families_of_routes : Family → List Route → List Refusal
families_of_routes family [] = []
families_of_routes family (r ∷ more) =
    family_of_route family r ++ families_of_routes family more

-- The first channel is the one that counts. Where there is none no family is wrong.
abbrev pub nettypes : List FamilyChannel → List Route → List Refusal
nettypes [] routes = []
nettypes (c ∷ more) routes = families_of_routes c.family routes

-- routes of a net that has one before, among these nets or in the list
abbrev pub repeated : List Net → List Route → List Refusal
repeated seen [] = []
repeated seen (r ∷ more) =
    refused_if (list_any (same_net r.net) seen) r.at kinds.DuplicateStatic
    ++ repeated (r.net ∷ seen) more

abbrev pub static : Known → Instance StaticSetting → List Refusal
static known p =
    declaring known p.at p.name (own_name known static_stem p.name ∷ [])
    ++ static_settings known p.settings
    ++ one_channel (place_of p.at p.name) (static_channels p.settings)
    ++ nettypes (static_channels p.settings) (static_routes p.settings)
    ++ repeated [] (static_routes p.settings)

-- ---- BGP

-- The transport has no effect, but its numbers are numbers.
abbrev pub optional_number : Known → Option Num → List Refusal
optional_number known None = []
optional_number known (Some n) = number known n

abbrev pub transport : Known → Transport → List Refusal
transport known (transports.HoldTime n) = number known n
transport known (transports.KeepaliveTime n) = number known n
transport known (transports.ConnectRetryTime n) = number known n
transport known (transports.Multihop n) = optional_number known n
transport known _ = []

abbrev pub bgp_setting : Known → BgpSetting → List Refusal
bgp_setting known (BgpChannel c) = channel known c
bgp_setting known (BgpLocal a n) = number known n
bgp_setting known (BgpNeighbor a n) = number known n
bgp_setting known (BgpMedMetric s) = []
bgp_setting known (BgpInterpretCommunities s) = []
bgp_setting known (BgpDefaultMed at n) = number known n
bgp_setting known (BgpDefaultLocalPref at n) = number known n
bgp_setting known (BgpTransport t) = transport known t

abbrev pub bgp_settings : Known → List BgpSetting → List Refusal
bgp_settings known [] = []
bgp_settings known (s ∷ more) = bgp_setting known s ++ bgp_settings known more

abbrev pub bgp_channels : List BgpSetting → List FamilyChannel
bgp_channels [] = []
bgp_channels (BgpChannel c ∷ more) = c ∷ bgp_channels more
bgp_channels (s ∷ more) = bgp_channels more

-- a protocol has both numbers of autonomous systems
abbrev pub lacks : {A : Type 0} → (at : ℕ) → Option A → List Refusal
lacks at None = refused_if true at kinds.Unsupported
lacks at (Some a) = []

abbrev pub as_number : Known → Option Num → Option ℕ
as_number known None = None
as_number known (Some n) = number_of known n

-- The neighbour is in another autonomous system. Where a number isn't known it can't be told.
abbrev pub is_external : Option ℕ → Option ℕ → Bool
is_external (Some local) (Some remote) = not (local == remote)
is_external _ _ = false

-- An external session says for each channel what passes both ways.
abbrev pub policies : (at : ℕ) → (external : Bool) → List FamilyChannel → List Refusal
policies at external cs = refused_if (external && list_any lacks_policy cs) at kinds.PolicyMissing

-- MEDs of all neighbours are compared, and the configuration has to say so.
abbrev pub med_metric : (at : ℕ) → Option Switch → List Refusal
med_metric at None = refused_if true at kinds.MedRule
med_metric at (Some s) = refused_if (not (is_on s)) at kinds.Unsupported

-- what is refused of the options that count
abbrev pub session : Known → (at : ℕ) → List BgpSetting → List Refusal
session known at settings =
    let o = bgp_options settings in
    lacks at o.local ++ lacks at (remote o)
    ++ policies at (is_external (as_number known o.local) (as_number known (remote o)))
    (bgp_channels settings)
    ++ med_metric at o.med_metric

abbrev pub bgp : Known → Instance BgpSetting → List Refusal
bgp known p =
    declaring known p.at p.name (own_name known bgp_stem p.name ∷ [])
    ++ bgp_settings known p.settings
    ++ one_channel (place_of p.at p.name) (bgp_channels p.settings)
    ++ session known (place_of p.at p.name) p.settings

-- ---- pipes

abbrev pub pipe_setting : Known → PipeSetting → List Refusal
pipe_setting known (PipeTable name) = table known name
pipe_setting known (PipePeerTable name) = table known name
pipe_setting known (PipeImport p) = passing known p
pipe_setting known (PipeExport p) = passing known p

abbrev pub pipe_settings : Known → List PipeSetting → List Refusal
pipe_settings known [] = []
pipe_settings known (s ∷ more) = pipe_setting known s ++ pipe_settings known more

-- The primary table is master4 where none is named.
abbrev pub primary_name : (text : List ℕ) → Option Name → List ℕ
primary_name text None = codes "master4"
primary_name text (Some n) = name_bytes text n

abbrev pub primary_family : Known → Option Name → Option Family
primary_family known n = named_in known.tables (primary_name known.scene.text n)

abbrev pub differ : Option Family → Option Family → Bool
differ (Some family) other = is_other_family family other
differ None other = false

-- The second table is of the family of the first.
abbrev pub peer_family : Known → (primary peer : Option Name) → List Refusal
peer_family known primary None = []
peer_family known primary (Some name) =
    refused_if (differ (primary_family known primary) (table_of known name)) name.at kinds.Nettype

abbrev pub primary_number : Known → Option Name → Option ℕ
primary_number known n = known_number known (primary_name known.scene.text n)

abbrev pub peer_number : Known → Option Name → Option ℕ
peer_number known None = None
peer_number known (Some n) = known_number known (name_bytes known.scene.text n)

abbrev pub joint : (table peer : Option ℕ) → Option Joint
joint (Some table) (Some peer) = Some (record { table = table; peer = peer })
joint _ _ = None

-- the two tables that a pipe joins, by the options that count, where both are known
abbrev pub joint_of : Known → List PipeSetting → Option Joint
joint_of known ss =
    let o = pipe_options ss in
    joint (primary_number known o.table) (peer_number known o.peer)

-- The pipes before don't join these two tables, which are two.
abbrev pub cycle : Known → (at : ℕ) → Option Joint → List Refusal
cycle known at None = []
cycle known at (Some j) = refused_if (joined known.pipes j.table j.peer) at kinds.PipeCycle

abbrev pub pipe : Known → Instance PipeSetting → List Refusal
pipe known p =
    let o = pipe_options p.settings in
    declaring known p.at p.name (pipe_names (own_name known pipe_stem p.name))
    ++ pipe_settings known p.settings
    ++ lacks (place_of p.at p.name) o.peer
    ++ peer_family known o.table o.peer
    ++ cycle known (place_of p.at p.name) (joint_of known p.settings)
