-- The abstract syntax of configurations as plain data, without memory (`Declaration`), and the one
-- that statements in memory are (`configuration_of`). Each `at` is the byte of the source at which
-- what it is of begins.
-- Not modelled: what is refused of it (conf_rules), what it comes to (conf_check).
-- From: own; the forms are those of conf_tree.
-- Example: `ipv4;` in a protocol is a channel without settings, `ipv4 { };` one with a list of
-- none.
use Rattle.std.specs.Prelude.{ℕ, Bool, List, Option, option_map, map, Vec}
use Rattle.std.specs.Global.{Global}
use Rattle.bits_ip.specs.Prefix.{Net}
use Rattle.bits_ip.specs.declared.address.Family.{Family}
use Rattle.conf_ast.specs.declared.named.Name.{Name}
use Rattle.conf_ast.specs.declared.filters.Function.{Function}
use Rattle.conf_ast.specs.declared.filters.Item.{Item}
use Rattle.conf_ast.specs.declared.filters.MaskItem.{MaskItem}
use Rattle.conf_ast.specs.declared.filters.Num.{Num}
use Rattle.conf_ast.specs.declared.filters.Parameter.{Parameter}
use Rattle.conf_ast.specs.declared.filters.VariableType.{VariableType}
use Rattle.conf_ast.specs.declared.configurations.Address.{Address}
use Rattle.conf_ast.specs.declared.configurations.BgpOption.{BgpOption}
use Rattle.conf_ast.specs.declared.configurations.BgpOption.TheVariants as bgp_options
use Rattle.conf_ast.specs.declared.configurations.Channel.{Channel}
use Rattle.conf_ast.specs.declared.configurations.ChannelOption.{ChannelOption}
use Rattle.conf_ast.specs.declared.configurations.ChannelOption.TheVariants as channel_options
use Rattle.conf_ast.specs.declared.configurations.Limit.{Limit}
use Rattle.conf_ast.specs.declared.configurations.Literal.{Literal}
use Rattle.conf_ast.specs.declared.configurations.Literal.TheVariants as literals
use Rattle.conf_ast.specs.declared.configurations.NextHop.{NextHop}
use Rattle.conf_ast.specs.declared.configurations.PipeOption.{PipeOption}
use Rattle.conf_ast.specs.declared.configurations.PipeOption.TheVariants as pipe_options
use Rattle.conf_ast.specs.declared.configurations.Policy.{Policy}
use Rattle.conf_ast.specs.declared.configurations.Policy.TheVariants as policies
use Rattle.conf_ast.specs.declared.configurations.Protocol.{Protocol}
use Rattle.conf_ast.specs.declared.configurations.StringLiteral.{StringLiteral}
use Rattle.conf_ast.specs.declared.configurations.Route.{Route}
use Rattle.conf_ast.specs.declared.configurations.Statement.{Statement}
use Rattle.conf_ast.specs.declared.configurations.Statement.TheVariants as statements
use Rattle.conf_ast.specs.declared.configurations.StaticOption.{StaticOption}
use Rattle.conf_ast.specs.declared.configurations.StaticOption.TheVariants as static_options
use Rattle.conf_ast.specs.declared.configurations.Switch.{Switch}
use Rattle.conf_ast.specs.declared.configurations.Transport.{Transport}
use Rattle.conf_ast.specs.Filters.{Expression, Statements, block_of, expression_of}

-- ---- values of constants

-- The value of a constant.
pub data Value : Type 0 where
  NumberValue : (at value : ℕ) → Value
  TextValue : StringLiteral → Value
  AddressValue : Address → Value
  PrefixValue : (at : ℕ) → Net → Value
  TrueValue : (at : ℕ) → Value
  FalseValue : (at : ℕ) → Value
  -- the value of another constant
  ValueOf : Name → Value
  PairValue : (at : ℕ) → (first second : Num) → Value
  SetValue : (at : ℕ) → List Item → Value
  MaskValue : (at : ℕ) → List MaskItem → Value

abbrev pub value_of : Literal → Value
value_of (literals.Number at value) = NumberValue at value
value_of (literals.Text q) = TextValue q
value_of (literals.Ip a) = AddressValue a
value_of (literals.Prefix at net) = PrefixValue at net
value_of (literals.True at) = TrueValue at
value_of (literals.False at) = FalseValue at
value_of (literals.Name name) = ValueOf name
value_of (literals.Pair at a b) = PairValue at a b
value_of (literals.Set at items) = SetValue at items.items
value_of (literals.Mask at items) = MaskValue at items.items

-- ---- policies and channels

-- Which routes pass.
pub data Passing : Type 0 where
  PassAll : Passing
  PassNone : Passing
  -- by a filter of that name
  PassByFilter : (at : ℕ) → Name → Passing
  PassByBlock : (at : ℕ) → Statements → Passing
  PassWhere : (at : ℕ) → (condition : Expression) → Passing

abbrev pub passing_of : Policy → Passing
passing_of policies.All = PassAll
passing_of policies.None = PassNone
passing_of (policies.Filter at name) = PassByFilter at name
passing_of (policies.Block at block) = PassByBlock at (block_of block)
passing_of (policies.Where at e) = PassWhere at (expression_of e)

-- What stands between the braces of a channel.
pub data ChannelSetting : Type 0 where
  ChannelTable : Name → ChannelSetting
  ChannelImport : Passing → ChannelSetting
  ChannelExport : Passing → ChannelSetting
  ChannelPreference : (at : ℕ) → Num → ChannelSetting
  ChannelLimit : Limit → ChannelSetting
  ChannelNextHop : NextHop → ChannelSetting

abbrev pub channel_setting_of : ChannelOption → ChannelSetting
channel_setting_of (channel_options.Table name) = ChannelTable name
channel_setting_of (channel_options.Import policy) = ChannelImport (passing_of policy)
channel_setting_of (channel_options.Export policy) = ChannelExport (passing_of policy)
channel_setting_of (channel_options.Preference at n) = ChannelPreference at n
channel_setting_of (channel_options.ImportLimit limit) = ChannelLimit limit
channel_setting_of (channel_options.NextHop hop) = ChannelNextHop hop

-- A channel. It has settings where it has braces, maybe none.
pub record FamilyChannel : Type 0 where
  pub at : ℕ
  pub family : Family
  pub settings : Option (List ChannelSetting)

abbrev pub channel_settings_of : Vec ChannelOption Global → List ChannelSetting
channel_settings_of options = map channel_setting_of options.items

abbrev pub channel_of : Channel → FamilyChannel
channel_of c =
    record { at = c.at; family = c.family; settings = option_map channel_settings_of c.options }

-- ---- protocols

-- What stands between the braces of a static protocol.
pub data StaticSetting : Type 0 where
  StaticChannel : FamilyChannel → StaticSetting
  StaticRoute : Route → StaticSetting

abbrev pub static_setting_of : StaticOption → StaticSetting
static_setting_of (static_options.Channel c) = StaticChannel (channel_of c)
static_setting_of (static_options.Route r) = StaticRoute r

-- What stands between the braces of a BGP protocol.
pub data BgpSetting : Type 0 where
  BgpChannel : FamilyChannel → BgpSetting
  BgpLocal : (address : Option Address) → (number : Num) → BgpSetting
  BgpNeighbor : (address : Address) → (number : Num) → BgpSetting
  BgpMedMetric : Switch → BgpSetting
  BgpInterpretCommunities : Switch → BgpSetting
  BgpDefaultMed : (at : ℕ) → Num → BgpSetting
  BgpDefaultLocalPref : (at : ℕ) → Num → BgpSetting
  BgpTransport : Transport → BgpSetting

abbrev pub bgp_setting_of : BgpOption → BgpSetting
bgp_setting_of (bgp_options.Channel c) = BgpChannel (channel_of c)
bgp_setting_of (bgp_options.Local a n) = BgpLocal a n
bgp_setting_of (bgp_options.Neighbor a n) = BgpNeighbor a n
bgp_setting_of (bgp_options.MedMetric s) = BgpMedMetric s
bgp_setting_of (bgp_options.InterpretCommunities s) = BgpInterpretCommunities s
bgp_setting_of (bgp_options.DefaultMed at n) = BgpDefaultMed at n
bgp_setting_of (bgp_options.DefaultLocalPref at n) = BgpDefaultLocalPref at n
bgp_setting_of (bgp_options.Transport t) = BgpTransport t

-- What stands between the braces of a pipe.
pub data PipeSetting : Type 0 where
  PipeTable : Name → PipeSetting
  PipePeerTable : Name → PipeSetting
  PipeImport : Passing → PipeSetting
  PipeExport : Passing → PipeSetting

abbrev pub pipe_setting_of : PipeOption → PipeSetting
pipe_setting_of (pipe_options.Table name) = PipeTable name
pipe_setting_of (pipe_options.PeerTable name) = PipePeerTable name
pipe_setting_of (pipe_options.Import policy) = PipeImport (passing_of policy)
pipe_setting_of (pipe_options.Export policy) = PipeExport (passing_of policy)

-- A protocol with such settings.
pub record Instance (X : Type 0) : Type 0 where
  pub at : ℕ
  pub name : Option Name
  pub settings : List X
  pub semicolon : Bool

abbrev pub instance_of : {X Y : Type 0} → (X → Y) → Protocol X → Instance Y
instance_of f p =
    record { at = p.at; name = p.name; settings = map f p.options.items; semicolon = p.semicolon }

-- ---- statements

-- A function; `place` is the byte of the parenthesis before its parameters.
pub record Routine : Type 0 where
  pub name : Name
  pub place : ℕ
  pub parameters : List Parameter
  pub gives : Option VariableType
  pub body : Statements

abbrev pub routine_of : Function → Routine
routine_of f = record {
  name = f.name;
  place = f.open;
  parameters = f.parameters.items;
  gives = f.gives;
  body = block_of f.block;
}

-- A statement of the configuration.
pub data Declaration : Type 0 where
  RouterId : Address → Declaration
  Log : Declaration
  Define : Name → Value → Declaration
  Table : (at : ℕ) → Family → Name → Declaration
  DefineFunction : Routine → Declaration
  DefineFilter : (at : ℕ) → Name → Statements → Declaration
  Device : Option Name → (semicolon : Bool) → Declaration
  Static : Instance StaticSetting → Declaration
  Bgp : Instance BgpSetting → Declaration
  Pipe : Instance PipeSetting → Declaration

abbrev pub declaration_of : Statement → Declaration
declaration_of (statements.RouterId a) = RouterId a
declaration_of statements.Log = Log
declaration_of (statements.Define name value) = Define name (value_of value)
declaration_of (statements.Table at family name) = Table at family name
declaration_of (statements.Function f) = DefineFunction (routine_of f)
declaration_of (statements.Filter at f) = DefineFilter at f.name (block_of f.block)
declaration_of (statements.Device name semicolon) = Device name semicolon
declaration_of (statements.Static p) = Static (instance_of static_setting_of p)
declaration_of (statements.Bgp p) = Bgp (instance_of bgp_setting_of p)
declaration_of (statements.Pipe p) = Pipe (instance_of pipe_setting_of p)

-- the configuration that statements are
abbrev pub configuration_of : List Statement → List Declaration
configuration_of ss = map declaration_of ss
