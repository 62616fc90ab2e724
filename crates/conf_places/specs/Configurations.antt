-- For the laws: the places that are written in a statement of a configuration (`places`): each byte
-- that its abstract syntax carries, at which a word or a sign of it begins; whether a place is of
-- some statements (`IsPlaceIn`), and whether a statement's are all before another's (`IsBefore`).
-- From: own.
-- Example: of `filter f { x = 1; }` the bytes of `filter`, `f`, `x` and `1`.
use Rattle.std.specs.Prelude.{◌≡◌, ◌<◌, ℕ, All, Contains, List, [], ◌∷◌, ◌++◌, Option, Some, None}
use Rattle.conf_ast.specs.declared.named.Name.{Name}
use Rattle.conf_ast.specs.declared.configurations.Address.{Address}
use Rattle.conf_ast.specs.declared.configurations.Limit.{Limit}
use Rattle.conf_ast.specs.declared.configurations.Limit.TheVariants as limits
use Rattle.conf_ast.specs.declared.configurations.Route.{Route}
use Rattle.conf_ast.specs.declared.configurations.RouteTarget.{RouteTarget}
use Rattle.conf_ast.specs.declared.configurations.RouteTarget.TheVariants as targets
use Rattle.conf_ast.specs.declared.configurations.Transport.{Transport}
use Rattle.conf_ast.specs.declared.configurations.Transport.TheVariants as transports
use Rattle.conf_ast.specs.Configurations as conf
use Rattle.conf_ast.specs.Configurations.{Value, NumberValue, TextValue, AddressValue, PrefixValue}
use Rattle.conf_ast.specs.Configurations.{TrueValue, FalseValue, ValueOf, PairValue, SetValue}
use Rattle.conf_ast.specs.Configurations.{MaskValue, Passing, PassAll, PassNone, PassByFilter}
use Rattle.conf_ast.specs.Configurations.{PassByBlock, PassWhere, ChannelSetting, ChannelTable}
use Rattle.conf_ast.specs.Configurations.{ChannelImport, ChannelExport, ChannelPreference}
use Rattle.conf_ast.specs.Configurations.{ChannelLimit, ChannelNextHop, FamilyChannel}
use Rattle.conf_ast.specs.Configurations.{StaticSetting, StaticChannel, StaticRoute, BgpSetting, BgpChannel}
use Rattle.conf_ast.specs.Configurations.{BgpLocal, BgpNeighbor, BgpMedMetric}
use Rattle.conf_ast.specs.Configurations.{BgpInterpretCommunities, BgpDefaultMed}
use Rattle.conf_ast.specs.Configurations.{BgpDefaultLocalPref, BgpTransport, PipeSetting, PipeTable}
use Rattle.conf_ast.specs.Configurations.{PipePeerTable, PipeImport, PipeExport, Instance, Routine}
use Rattle.conf_places.specs.Filters.{of_num, of_optional_num, of_items, of_mask, of_expression}
use Rattle.conf_places.specs.Filters.{of_statements, of_parameters}

-- ---- values of constants

abbrev pub of_value : Value → List ℕ
of_value (NumberValue at n) = at ∷ []
of_value (TextValue q) = q.at ∷ []
of_value (AddressValue a) = a.at ∷ []
of_value (PrefixValue at net) = at ∷ []
of_value (TrueValue at) = at ∷ []
of_value (FalseValue at) = at ∷ []
of_value (ValueOf name) = name.at ∷ []
of_value (PairValue at a b) = at ∷ of_num a ∷ of_num b ∷ []
of_value (SetValue at elements) = at ∷ of_items elements
of_value (MaskValue at elements) = at ∷ of_mask elements

-- ---- policies and channels

abbrev pub of_passing : Passing → List ℕ
of_passing PassAll = []
of_passing PassNone = []
of_passing (PassByFilter at name) = at ∷ name.at ∷ []
of_passing (PassByBlock at ss) = at ∷ of_statements ss
of_passing (PassWhere at e) = at ∷ of_expression e

abbrev pub of_limit : Limit → List ℕ
of_limit limits.Off = []
of_limit (limits.Count n action) = of_num n ∷ []

abbrev pub of_channel_setting : ChannelSetting → List ℕ
of_channel_setting (ChannelTable name) = name.at ∷ []
of_channel_setting (ChannelImport p) = of_passing p
of_channel_setting (ChannelExport p) = of_passing p
of_channel_setting (ChannelPreference at n) = at ∷ of_num n ∷ []
of_channel_setting (ChannelLimit l) = of_limit l
of_channel_setting (ChannelNextHop hop) = []

-- those of each of a list, one after another
abbrev pub of_each : {X : Type 0} → (X → List ℕ) → List X → List ℕ
of_each f [] = []
of_each f (x ∷ xs) = f x ++ of_each f xs

-- those of what may be left out
abbrev pub of_maybe : {X : Type 0} → (X → List ℕ) → Option X → List ℕ
of_maybe f None = []
of_maybe f (Some x) = f x

abbrev pub of_channel : FamilyChannel → List ℕ
of_channel c = c.at ∷ of_maybe (of_each of_channel_setting) c.settings

-- ---- protocols

abbrev pub of_name : Name → List ℕ
of_name n = n.at ∷ []

abbrev pub of_address : Address → List ℕ
of_address a = a.at ∷ []

abbrev pub of_target : RouteTarget → List ℕ
of_target (targets.Via a) = of_address a
of_target targets.Blackhole = []
of_target targets.Unreachable = []
of_target targets.Prohibit = []

abbrev pub of_route : Route → List ℕ
of_route r = r.at ∷ of_target r.target

abbrev pub of_static_setting : StaticSetting → List ℕ
of_static_setting (StaticChannel c) = of_channel c
of_static_setting (StaticRoute r) = of_route r

abbrev pub of_transport : Transport → List ℕ
of_transport (transports.Description q) = q.at ∷ []
of_transport (transports.Password q) = q.at ∷ []
of_transport (transports.SourceAddress at a) = at ∷ a.at ∷ []
of_transport (transports.HoldTime n) = of_num n ∷ []
of_transport (transports.KeepaliveTime n) = of_num n ∷ []
of_transport (transports.ConnectRetryTime n) = of_num n ∷ []
of_transport (transports.Multihop n) = of_optional_num n
of_transport transports.Direct = []
of_transport (transports.Passive s) = []

abbrev pub of_bgp_setting : BgpSetting → List ℕ
of_bgp_setting (BgpChannel c) = of_channel c
of_bgp_setting (BgpLocal a n) = of_maybe of_address a ++ of_num n ∷ []
of_bgp_setting (BgpNeighbor a n) = a.at ∷ of_num n ∷ []
of_bgp_setting (BgpMedMetric s) = []
of_bgp_setting (BgpInterpretCommunities s) = []
of_bgp_setting (BgpDefaultMed at n) = at ∷ of_num n ∷ []
of_bgp_setting (BgpDefaultLocalPref at n) = at ∷ of_num n ∷ []
of_bgp_setting (BgpTransport t) = of_transport t

abbrev pub of_pipe_setting : PipeSetting → List ℕ
of_pipe_setting (PipeTable name) = name.at ∷ []
of_pipe_setting (PipePeerTable name) = name.at ∷ []
of_pipe_setting (PipeImport p) = of_passing p
of_pipe_setting (PipeExport p) = of_passing p

-- a protocol with settings of which these are the places
abbrev pub of_instance : {X : Type 0} → (X → List ℕ) → Instance X → List ℕ
of_instance f p = p.at ∷ (of_maybe of_name p.name ++ of_each f p.settings)

-- ---- statements

abbrev pub of_routine : Routine → List ℕ
of_routine f = f.name.at ∷ f.place ∷ (of_parameters f.parameters ++ of_statements f.body)

-- the places that are written in a statement
abbrev pub places : conf.Declaration → List ℕ
places (conf.RouterId a) = of_address a
places conf.Log = []
places (conf.Define name v) = name.at ∷ of_value v
places (conf.Table at family name) = at ∷ name.at ∷ []
places (conf.DefineFunction f) = of_routine f
places (conf.DefineFilter at name ss) = at ∷ name.at ∷ of_statements ss
places (conf.Device name semicolon) = of_maybe of_name name
places (conf.Static p) = of_instance of_static_setting p
places (conf.Bgp p) = of_instance of_bgp_setting p
places (conf.Pipe p) = of_instance of_pipe_setting p

-- it is one of the places that are written in one of these statements
abbrev pub IsPlaceIn : List conf.Declaration → ℕ → Type 0
IsPlaceIn ds at =
    (front : List conf.Declaration) × (back : List conf.Declaration) × (d : conf.Declaration)
    × (ds ≡ front ++ d ∷ back) × Contains (places d) at

-- each place of the first is before each of the second
abbrev pub IsBefore : conf.Declaration → conf.Declaration → Type 0
IsBefore d e = All (λ (at : ℕ). All (λ (other : ℕ). at < other) (places e)) (places d)
