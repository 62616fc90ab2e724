-- Configurations, back from their trees.
use Rattle.std.proofs.Common.{◌≡◌, ℕ, Bool, true, false, List, [], ◌∷◌, ◌++◌, Option, Some, None, option_map, map, refl, sym as flip, ap, subst, ◌∙◌, Vec}
use Rattle.std.specs.Global.{Global}
use Rattle.bits_ip.specs.declared.address.Family.{Family}
use Rattle.bits_ip.specs.declared.address.Family.TheVariants as families
use Rattle.conf_ast.specs.declared.attribute.Attribute.TheVariants as attributes
use Rattle.conf_lex.specs.declared.symbol.Symbol.{Symbol}
use Rattle.conf_lex.specs.declared.symbol.Symbol.TheVariants as sym
use Rattle.conf_lex.specs.declared.word.Word.{Word}
use Rattle.conf_lex.specs.declared.word.Word.TheVariants as words
use Rattle.conf_ast.specs.declared.named.Name.{Name}
use Rattle.conf_lex.specs.Grammar.{Epsilon, Seq, Repeat, ParseTree, Leaf, NoWords, Pair, Left, Right, Single, Snoc, Deeper, DerivesLongest}
use Rattle.conf_lex.specs.Leaves.{name_leaf}
use Rattle.conf_ast.specs.declared.filters.Function.{Function}
use Rattle.conf_ast.specs.declared.filters.Item.{Item}
use Rattle.conf_ast.specs.declared.filters.MaskItem.{MaskItem}
use Rattle.conf_ast.specs.declared.filters.Num.{Num}
use Rattle.conf_ast.specs.declared.filters.Parameter.{Parameter}
use Rattle.conf_ast.specs.declared.filters.Separator.{Separator}
use Rattle.conf_ast.specs.declared.filters.Separator.TheVariants as separators
use Rattle.conf_ast.specs.declared.filters.VariableType.{VariableType}
use Rattle.expr_syntax.specs.Syntax.{rule, optional, semicolon}
use Rattle.expr_syntax.specs.Levels.{Form}
use Rattle.expr_syntax.specs.ItemView.{num_tree}
use Rattle.expr_syntax.specs.Rows.{row_after, row_tree}
use Rattle.conf_ast.specs.declared.configurations.Action.{Action}
use Rattle.conf_ast.specs.declared.configurations.Action.TheVariants as actions
use Rattle.conf_ast.specs.declared.configurations.Address.{Address}
use Rattle.conf_ast.specs.declared.configurations.BgpOption.{BgpOption}
use Rattle.conf_ast.specs.declared.configurations.BgpOption.TheVariants as bgp_options
use Rattle.conf_ast.specs.declared.configurations.Channel.{Channel}
use Rattle.conf_ast.specs.declared.configurations.ChannelOption.{ChannelOption}
use Rattle.conf_ast.specs.declared.configurations.ChannelOption.TheVariants as channel_options
use Rattle.conf_ast.specs.declared.configurations.Limit.{Limit}
use Rattle.conf_ast.specs.declared.configurations.Limit.TheVariants as limits
use Rattle.conf_ast.specs.declared.configurations.Literal.{Literal}
use Rattle.conf_ast.specs.declared.configurations.Literal.TheVariants as literals
use Rattle.conf_ast.specs.declared.configurations.NextHop.{NextHop}
use Rattle.conf_ast.specs.declared.configurations.NextHop.TheVariants as hops
use Rattle.conf_ast.specs.declared.configurations.PipeOption.{PipeOption}
use Rattle.conf_ast.specs.declared.configurations.PipeOption.TheVariants as pipe_options
use Rattle.conf_ast.specs.declared.configurations.Policy.{Policy}
use Rattle.conf_ast.specs.declared.configurations.Policy.TheVariants as policies
use Rattle.conf_ast.specs.declared.configurations.Protocol.{Protocol}
use Rattle.conf_ast.specs.declared.configurations.RouteTarget.{RouteTarget}
use Rattle.conf_ast.specs.declared.configurations.RouteTarget.TheVariants as route_targets
use Rattle.conf_ast.specs.declared.configurations.Statement.{Statement}
use Rattle.conf_ast.specs.declared.configurations.Statement.TheVariants as config_statements
use Rattle.conf_ast.specs.declared.configurations.StaticOption.{StaticOption}
use Rattle.conf_ast.specs.declared.configurations.StaticOption.TheVariants as static_options
use Rattle.conf_ast.specs.declared.configurations.Switch.{Switch}
use Rattle.conf_ast.specs.declared.configurations.Switch.TheVariants as switches
use Rattle.conf_ast.specs.declared.configurations.Transport.{Transport}
use Rattle.conf_ast.specs.declared.configurations.Transport.TheVariants as transports
use Rattle.conf_tree.specs.Read.{IsConfigText}
use Rattle.conf_syntax.specs.Syntax as forms
use Rattle.conf_tree.specs.View.{policy_tree, channel_option_tree, channel_options_tree, channel_tree, static_option_tree, bgp_option_tree, pipe_option_tree, separator_symbol, next_parameter, parameters_after, first_parameter, parameters_tree, gives_tree, function_tree, protocol_tree, statement_tree, statements_tree}
use Rattle.conf_syntax.specs.View.{switch_symbol, family_symbol, maybe, address_leaf, switch_leaf, action_symbol, action_tree, limit_tree, hop_symbol, ended_tree, ended_row, target_tree, transport_tree, literal_tree, semicolon_tree}
use Rattle.conf_ast.specs.Filters.{Expression, Statements}
use Rattle.conf_ast.specs.Configurations.{Value, NumberValue, TextValue, AddressValue, PrefixValue, TrueValue, FalseValue, ValueOf, PairValue, SetValue, MaskValue, value_of, Passing, PassAll, PassNone, PassByFilter, PassByBlock, PassWhere, passing_of, ChannelSetting, ChannelTable, ChannelImport, ChannelExport, ChannelPreference, ChannelLimit, ChannelNextHop, channel_setting_of, FamilyChannel, channel_of, channel_settings_of, StaticSetting, StaticChannel, StaticRoute, static_setting_of, BgpSetting, BgpChannel, BgpLocal, BgpNeighbor, BgpMedMetric, BgpInterpretCommunities, BgpDefaultMed, BgpDefaultLocalPref, BgpTransport, bgp_setting_of, PipeSetting, PipeTable, PipePeerTable, PipeImport, PipeExport, pipe_setting_of, Instance, instance_of, Routine, routine_of, Declaration, RouterId, Log, Define, Table, DefineFunction, DefineFilter, Device, Static, Bgp, Pipe, declaration_of, configuration_of}
use Rattle.ast_laws.proofs.Equations.{two, three, append_nil}
use Rattle.ast_laws.proofs.WordsBack.{place_of, name_from}
use Rattle.ast_laws.proofs.ItemsBack.{num_from, items_from, mask_from, num_back, items_back, mask_back}
use Rattle.ast_laws.proofs.TypesBack.{type_from, type_back}
use Rattle.ast_laws.proofs.ExpressionsBack.{expr_from, expression_back}
use Rattle.ast_laws.proofs.StatementsBack.{block_from, block_back}

-- ---- words

abbrev switch_from : Word → Switch
switch_from (words.Symbol sym.Yes) = switches.Yes
switch_from (words.Symbol sym.Off) = switches.Off
switch_from (words.Symbol sym.No) = switches.No
switch_from _ = switches.On

switch_back : (s : Switch) → switch_from (words.Symbol (switch_symbol s)) ≡ s
switch_back switches.On = refl
switch_back switches.Yes = refl
switch_back switches.Off = refl
switch_back switches.No = refl

abbrev family_from : Word → Family
family_from (words.Placed at sym.Ipv6) = families.V6
family_from _ = families.V4

family_back : (at : ℕ) (f : Family) → family_from (words.Placed at (family_symbol f)) ≡ f
family_back at families.V4 = refl
family_back at families.V6 = refl

abbrev action_word : Word → Action
action_word (words.Symbol sym.Block) = actions.Block
action_word (words.Symbol sym.Disable) = actions.Disable
action_word _ = actions.Warn

action_back : (a : Action) → action_word (words.Symbol (action_symbol a)) ≡ a
action_back actions.Warn = refl
action_back actions.Block = refl
action_back actions.Disable = refl

abbrev hop_from : Word → NextHop
hop_from (words.Symbol sym.Keep) = hops.Keep
hop_from _ = hops.Own

hop_back : (h : NextHop) → hop_from (words.Symbol (hop_symbol h)) ≡ h
hop_back hops.Own = refl
hop_back hops.Keep = refl

abbrev separator_from : Word → Separator
separator_from (words.Symbol sym.Comma) = separators.Comma
separator_from _ = separators.Semicolon

separator_back : (s : Separator) → separator_from (words.Symbol (separator_symbol s)) ≡ s
separator_back separators.Semicolon = refl
separator_back separators.Comma = refl

-- ---- what may be left out

abbrev word_option : {X : Type 0} → (Word → X) → ParseTree → Option X
word_option from (Left (Leaf w)) = Some (from w)
word_option from _ = None

abbrev name_option : ParseTree → Option Name
name_option t = word_option name_from t

name_option_back : (n : Option Name) → name_option (maybe name_leaf n) ≡ n
name_option_back None = refl
name_option_back (Some n) = refl

abbrev address_option : ParseTree → Option Address
address_option (Left (Leaf (words.Ip at addr))) = Some (record { at = at; addr = addr })
address_option _ = None

address_option_back : (a : Option Address) → address_option (maybe address_leaf a) ≡ a
address_option_back None = refl
address_option_back (Some a) = refl

num_option_back : (n : Option Num) → word_option num_from (maybe num_tree n) ≡ n
num_option_back None = refl
num_option_back (Some n) = ap (λ (m : Num). Some m) (num_back n)

switch_option_back : (s : Option Switch) → word_option switch_from (maybe switch_leaf s) ≡ s
switch_option_back None = refl
switch_option_back (Some s) = ap (λ (m : Switch). Some m) (switch_back s)

abbrev semicolon_from : ParseTree → Bool
semicolon_from (Left t) = true
semicolon_from _ = false

semicolon_back : (b : Bool) → semicolon_from (semicolon_tree b) ≡ b
semicolon_back true = refl
semicolon_back false = refl

-- ---- rows of options, each with its semicolon

abbrev row_from : {Y : Type 0} → (ParseTree → Y) → ParseTree → List Y → List Y
row_from from (Snoc t b) more = row_from from t (from b ∷ more)
row_from from _ more = more

module _ {X Y : Type 0} (view : X → ParseTree) (f : Form) (from : ParseTree → Y) (value : X → Y) (told : (x : X) → DerivesLongest rule (view x) f → from (view x) ≡ value x) where
  rows_back : (xs : List X) (t : ParseTree) (done : List Y → List Y) → (DerivesLongest rule t (Repeat Epsilon f) → (more : List Y) → row_from from t more ≡ done more) → DerivesLongest rule (row_after t (map view xs)) (Repeat Epsilon f) → (more : List Y) → row_from from (row_after t (map view xs)) more ≡ done (map value xs ++ more)
  rows_back [] t done first h more = first h more
  rows_back (x ∷ xs) t done first h more = rows_back xs (Snoc t (view x)) (λ m. done (value x ∷ m)) (λ k m. ap (λ (y : Y). row_from from t (y ∷ m)) (told x k.1) ∙ first k.0 (value x ∷ m)) h more

  row_back : (xs : List X) → DerivesLongest rule (row_tree (map view xs)) (Repeat Epsilon f) → row_from from (row_tree (map view xs)) [] ≡ map value xs
  row_back xs h = rows_back xs (Single NoWords) (λ m. m) (λ k m. refl) h [] ∙ append_nil (map value xs)

abbrev ended_from : {Y : Type 0} → (ParseTree → Y) → ParseTree → Y
ended_from from (Pair t s) = from t
ended_from from _ = from NoWords

options_back : {X Y : Type 0} (view : X → ParseTree) (f : Form) (from : ParseTree → Y) (value : X → Y) → ((x : X) → DerivesLongest rule (view x) f → from (view x) ≡ value x) → (xs : List X) → DerivesLongest rule (ended_row view xs) (forms.ended_options f) → row_from (ended_from from) (ended_row view xs) [] ≡ map value xs
options_back view f from value told xs h = row_back (λ x. ended_tree (view x)) (Seq f semicolon) (ended_from from) value (λ x k. told x k.0) xs h

-- ---- policies and channels

abbrev policy_from : ParseTree → Passing
policy_from (Left (Leaf (words.Symbol sym.All))) = PassAll
policy_from (Right (Left (Pair (Leaf w) (Left (Leaf n))))) = PassByFilter (place_of w) (name_from n)
policy_from (Right (Left (Pair (Leaf w) (Right b)))) = PassByBlock (place_of w) (block_from b)
policy_from (Right (Right (Pair (Leaf w) e))) = PassWhere (place_of w) (expr_from e)
policy_from _ = PassNone

policy_back : (p : Policy) → DerivesLongest rule (policy_tree p) forms.policy → policy_from (policy_tree p) ≡ passing_of p
policy_back policies.All f = refl
policy_back policies.None f = refl
policy_back (policies.Filter at n) f = refl
policy_back (policies.Block at b) f = ap (λ (x : Statements). PassByBlock at x) (block_back b f.1)
policy_back (policies.Where at e) f = ap (λ (x : Expression). PassWhere at x) (expression_back e f.1)

abbrev action_option : ParseTree → Option Action
action_option (Left (Pair w (Leaf a))) = Some (action_word a)
action_option _ = None

action_option_back : (a : Option Action) → action_option (maybe action_tree a) ≡ a
action_option_back None = refl
action_option_back (Some a) = ap (λ (x : Action). Some x) (action_back a)

abbrev limit_from : ParseTree → Limit
limit_from (Right (Pair (Leaf n) a)) = limits.Count (num_from n) (action_option a)
limit_from _ = limits.Off

limit_back : (l : Limit) → limit_from (limit_tree l) ≡ l
limit_back limits.Off = refl
limit_back (limits.Count n a) = two (λ x y. limits.Count x y) _ _ _ _ (num_back n) (action_option_back a)

abbrev channel_option_from : ParseTree → ChannelSetting
channel_option_from (Left (Pair w (Leaf n))) = ChannelTable (name_from n)
channel_option_from (Right (Left (Pair w (Right p)))) = ChannelImport (policy_from p)
channel_option_from (Right (Left (Pair w (Left (Pair v l))))) = ChannelLimit (limit_from l)
channel_option_from (Right (Right (Left (Pair w p)))) = ChannelExport (policy_from p)
channel_option_from (Right (Right (Right (Left (Pair (Leaf w) (Leaf n)))))) = ChannelPreference (place_of w) (num_from n)
channel_option_from (Right (Right (Right (Right (Pair w (Pair v (Leaf h))))))) = ChannelNextHop (hop_from h)
channel_option_from _ = ChannelLimit limits.Off

channel_option_back : (o : ChannelOption) → DerivesLongest rule (channel_option_tree o) forms.channel_option → channel_option_from (channel_option_tree o) ≡ channel_setting_of o
channel_option_back (channel_options.Table n) f = refl
channel_option_back (channel_options.Import p) f = ap (λ (x : Passing). ChannelImport x) (policy_back p f.1)
channel_option_back (channel_options.Export p) f = ap (λ (x : Passing). ChannelExport x) (policy_back p f.1)
channel_option_back (channel_options.Preference at n) f = ap (λ (x : Num). ChannelPreference at x) (num_back n)
channel_option_back (channel_options.ImportLimit l) f = ap (λ (x : Limit). ChannelLimit x) (limit_back l)
channel_option_back (channel_options.NextHop h) f = ap (λ (x : NextHop). ChannelNextHop x) (hop_back h)

abbrev settings_from : ParseTree → Option (List ChannelSetting)
settings_from (Left (Pair w (Pair row c))) = Some (row_from (ended_from channel_option_from) row [])
settings_from _ = None

settings_back : (o : Option (Vec ChannelOption Global)) → DerivesLongest rule (maybe channel_options_tree o) (optional forms.channel_options) → settings_from (maybe channel_options_tree o) ≡ option_map channel_settings_of o
settings_back None f = refl
settings_back (Some v) f = ap (λ (x : List ChannelSetting). Some x) (options_back channel_option_tree forms.channel_option channel_option_from channel_setting_of channel_option_back v.items f.1.0)

abbrev a_channel : ℕ → Family → Option (List ChannelSetting) → FamilyChannel
a_channel at family settings = record { at = at; family = family; settings = settings }

abbrev channel_from : ParseTree → FamilyChannel
channel_from (Pair (Leaf w) o) = a_channel (place_of w) (family_from w) (settings_from o)
channel_from _ = a_channel 0 families.V4 None

channel_back : (c : Channel) → DerivesLongest rule (channel_tree c) forms.channel → channel_from (channel_tree c) ≡ channel_of c
channel_back c f = two (λ x y. a_channel c.at x y) _ _ _ _ (family_back c.at c.family) (settings_back c.options f.1)

-- ---- the options of protocols

abbrev target_from : ParseTree → RouteTarget
target_from (Left (Pair w (Leaf (words.Ip at addr)))) = route_targets.Via (record { at = at; addr = addr })
target_from (Right (Leaf (words.Symbol sym.Unreachable))) = route_targets.Unreachable
target_from (Right (Leaf (words.Symbol sym.Prohibit))) = route_targets.Prohibit
target_from _ = route_targets.Blackhole

target_back : (t : RouteTarget) → target_from (target_tree t) ≡ t
target_back (route_targets.Via a) = refl
target_back route_targets.Blackhole = refl
target_back route_targets.Unreachable = refl
target_back route_targets.Prohibit = refl

abbrev static_option_from : ParseTree → StaticSetting
static_option_from (Left c) = StaticChannel (channel_from c)
static_option_from (Right (Pair w (Pair (Leaf (words.Prefix at net)) t))) = StaticRoute (record { at = at; net = net; target = target_from t })
static_option_from _ = StaticChannel (channel_from NoWords)

static_option_back : (o : StaticOption) → DerivesLongest rule (static_option_tree o) forms.static_option → static_option_from (static_option_tree o) ≡ static_setting_of o
static_option_back (static_options.Channel c) f = ap (λ (x : FamilyChannel). StaticChannel x) (channel_back c f)
static_option_back (static_options.Route r) f = ap (λ (x : RouteTarget). StaticRoute (record { at = r.at; net = r.net; target = x })) (target_back r.target)

abbrev transport_from : ParseTree → Transport
transport_from (Left (Pair (Leaf (words.Symbol sym.Description)) (Leaf (words.Text at start len)))) = transports.Description (record { at = at; start = start; len = len })
transport_from (Left (Pair (Leaf (words.Symbol sym.Password)) (Leaf (words.Text at start len)))) = transports.Password (record { at = at; start = start; len = len })
transport_from (Right (Left (Pair (Leaf w) (Pair v (Leaf (words.Ip at addr)))))) = transports.SourceAddress (place_of w) (record { at = at; addr = addr })
transport_from (Right (Right (Left (Pair (Leaf (words.Symbol sym.Hold)) (Pair v (Leaf n)))))) = transports.HoldTime (num_from n)
transport_from (Right (Right (Left (Pair (Leaf (words.Symbol sym.Keepalive)) (Pair v (Leaf n)))))) = transports.KeepaliveTime (num_from n)
transport_from (Right (Right (Right (Left (Pair w (Pair v (Pair u (Leaf n)))))))) = transports.ConnectRetryTime (num_from n)
transport_from (Right (Right (Right (Right (Left (Pair w n)))))) = transports.Multihop (word_option num_from n)
transport_from (Right (Right (Right (Right (Right (Right (Pair w s))))))) = transports.Passive (word_option switch_from s)
transport_from _ = transports.Direct

transport_back : (t : Transport) → transport_from (transport_tree t) ≡ t
transport_back (transports.Description q) = refl
transport_back (transports.Password q) = refl
transport_back (transports.SourceAddress at a) = refl
transport_back (transports.HoldTime n) = ap (λ (x : Num). transports.HoldTime x) (num_back n)
transport_back (transports.KeepaliveTime n) = ap (λ (x : Num). transports.KeepaliveTime x) (num_back n)
transport_back (transports.ConnectRetryTime n) = ap (λ (x : Num). transports.ConnectRetryTime x) (num_back n)
transport_back (transports.Multihop n) = ap (λ (x : Option Num). transports.Multihop x) (num_option_back n)
transport_back transports.Direct = refl
transport_back (transports.Passive s) = ap (λ (x : Option Switch). transports.Passive x) (switch_option_back s)

abbrev bgp_option_from : ParseTree → BgpSetting
bgp_option_from (Left c) = BgpChannel (channel_from c)
bgp_option_from (Right (Left (Pair w (Pair a (Pair v (Leaf n)))))) = BgpLocal (address_option a) (num_from n)
bgp_option_from (Right (Right (Left (Pair w (Pair (Leaf (words.Ip at addr)) (Pair v (Leaf n))))))) = BgpNeighbor (record { at = at; addr = addr }) (num_from n)
bgp_option_from (Right (Right (Right (Left (Pair w (Pair v (Leaf s))))))) = BgpMedMetric (switch_from s)
bgp_option_from (Right (Right (Right (Right (Left (Pair w (Pair v (Leaf s)))))))) = BgpInterpretCommunities (switch_from s)
bgp_option_from (Right (Right (Right (Right (Right (Left (Pair w (Pair (Leaf (words.Attribute at attributes.BgpMed)) (Leaf n))))))))) = BgpDefaultMed at (num_from n)
bgp_option_from (Right (Right (Right (Right (Right (Left (Pair w (Pair (Leaf (words.Attribute at attributes.BgpLocalPref)) (Leaf n))))))))) = BgpDefaultLocalPref at (num_from n)
bgp_option_from (Right (Right (Right (Right (Right (Right t)))))) = BgpTransport (transport_from t)
bgp_option_from _ = BgpTransport transports.Direct

bgp_option_back : (o : BgpOption) → DerivesLongest rule (bgp_option_tree o) forms.bgp_option → bgp_option_from (bgp_option_tree o) ≡ bgp_setting_of o
bgp_option_back (bgp_options.Channel c) f = ap (λ (x : FamilyChannel). BgpChannel x) (channel_back c f)
bgp_option_back (bgp_options.Local a n) f = two (λ x y. BgpLocal x y) _ _ _ _ (address_option_back a) (num_back n)
bgp_option_back (bgp_options.Neighbor a n) f = ap (λ (x : Num). BgpNeighbor a x) (num_back n)
bgp_option_back (bgp_options.MedMetric s) f = ap (λ (x : Switch). BgpMedMetric x) (switch_back s)
bgp_option_back (bgp_options.InterpretCommunities s) f = ap (λ (x : Switch). BgpInterpretCommunities x) (switch_back s)
bgp_option_back (bgp_options.DefaultMed at n) f = ap (λ (x : Num). BgpDefaultMed at x) (num_back n)
bgp_option_back (bgp_options.DefaultLocalPref at n) f = ap (λ (x : Num). BgpDefaultLocalPref at x) (num_back n)
bgp_option_back (bgp_options.Transport t) f = ap (λ (x : Transport). BgpTransport x) (transport_back t)

abbrev pipe_option_from : ParseTree → PipeSetting
pipe_option_from (Left (Pair w (Leaf n))) = PipeTable (name_from n)
pipe_option_from (Right (Left (Pair w (Pair v (Leaf n))))) = PipePeerTable (name_from n)
pipe_option_from (Right (Right (Left (Pair w p)))) = PipeImport (policy_from p)
pipe_option_from (Right (Right (Right (Pair w p)))) = PipeExport (policy_from p)
pipe_option_from _ = PipeImport PassNone

pipe_option_back : (o : PipeOption) → DerivesLongest rule (pipe_option_tree o) forms.pipe_option → pipe_option_from (pipe_option_tree o) ≡ pipe_setting_of o
pipe_option_back (pipe_options.Table n) f = refl
pipe_option_back (pipe_options.PeerTable n) f = refl
pipe_option_back (pipe_options.Import p) f = ap (λ (x : Passing). PipeImport x) (policy_back p f.1)
pipe_option_back (pipe_options.Export p) f = ap (λ (x : Passing). PipeExport x) (policy_back p f.1)

abbrev an_instance : {Y : Type 0} → ℕ → Option Name → List Y → Bool → Instance Y
an_instance at called settings semicolon = record { at = at; name = called; settings = settings; semicolon = semicolon }

abbrev instance_from : {Y : Type 0} → (ParseTree → Y) → ParseTree → Instance Y
instance_from from (Pair (Leaf w) (Pair n (Pair o (Pair row (Pair c s))))) = an_instance (place_of w) (name_option n) (row_from (ended_from from) row []) (semicolon_from s)
instance_from from _ = an_instance 0 None [] false

instance_back : {X Y : Type 0} (kind : Symbol) (view : X → ParseTree) (f : Form) (from : ParseTree → Y) (value : X → Y) → ((x : X) → DerivesLongest rule (view x) f → from (view x) ≡ value x) → (p : Protocol X) → DerivesLongest rule (protocol_tree kind view p) (forms.protocol_of kind f) → instance_from from (protocol_tree kind view p) ≡ instance_of value p
instance_back {Y = Y} kind view f from value told p h = three (λ (x : Option Name) (y : List Y) (z : Bool). an_instance p.at x y z) _ _ _ _ _ _ (name_option_back p.name) (options_back view f from value told p.options.items h.1.1.1.0) (semicolon_back p.semicolon)

-- ---- literals

abbrev value_word : Word → Value
value_word (words.Number at value) = NumberValue at value
value_word (words.Text at start len) = TextValue (record { at = at; start = start; len = len })
value_word (words.Ip at addr) = AddressValue (record { at = at; addr = addr })
value_word (words.Prefix at net) = PrefixValue at net
value_word (words.Name at start len) = ValueOf (record { at = at; start = start; len = len })
value_word (words.Placed at sym.True) = TrueValue at
value_word (words.Placed at sym.False) = FalseValue at
value_word _ = TrueValue 0

abbrev literal_from : ParseTree → Value
literal_from (Left (Leaf w)) = value_word w
literal_from (Right (Left (Pair (Leaf w) (Pair (Leaf a) (Pair v (Pair (Leaf b) c)))))) = PairValue (place_of w) (num_from a) (num_from b)
literal_from (Right (Right (Left (Pair (Deeper v t) c)))) = SetValue (place_of v) (items_from t [])
literal_from (Right (Right (Right (Pair (Pair (Leaf w) t) c)))) = MaskValue (place_of w) (mask_from t [])
literal_from _ = TrueValue 0

literal_back : (l : Literal) → literal_from (literal_tree l) ≡ value_of l
literal_back (literals.Number at value) = refl
literal_back (literals.Text q) = refl
literal_back (literals.Ip a) = refl
literal_back (literals.Prefix at net) = refl
literal_back (literals.True at) = refl
literal_back (literals.False at) = refl
literal_back (literals.Name n) = refl
literal_back (literals.Pair at a b) = two (λ x y. PairValue at x y) _ _ _ _ (num_back a) (num_back b)
literal_back (literals.Set at v) = ap (λ (x : List Item). SetValue at x) (items_back v.items)
literal_back (literals.Mask at v) = ap (λ (x : List MaskItem). MaskValue at x) (mask_back v.items)

-- ---- functions

abbrev a_parameter : Option Separator → VariableType → Name → Parameter
a_parameter s v n = record { separator = s; variable_type = v; name = n }

abbrev list_from : ParseTree → List Parameter → List Parameter
list_from (Single (Pair v (Leaf n))) more = a_parameter None (type_from v) (name_from n) ∷ more
list_from (Snoc t (Pair (Leaf s) (Pair v (Leaf n)))) more = list_from t (a_parameter (Some (separator_from s)) (type_from v) (name_from n) ∷ more)
list_from _ more = more

abbrev parameters_from : ParseTree → List Parameter
parameters_from (Left t) = list_from t []
parameters_from _ = []

next_back : (t : ParseTree) (s : Option Separator) (v : VariableType) (n : Name) (done : List Parameter → List Parameter) → (DerivesLongest rule t forms.parameters → (more : List Parameter) → list_from t more ≡ done more) → DerivesLongest rule (next_parameter t s (a_parameter s v n)) forms.parameters → (more : List Parameter) → list_from (next_parameter t s (a_parameter s v n)) more ≡ done (a_parameter s v n ∷ more)
next_back t None v n done first f more = absurd f
next_back t (Some s) v n done first f more = two (λ x y. list_from t (a_parameter (Some x) y n ∷ more)) _ _ _ _ (separator_back s) (type_back v) ∙ first f.0 (a_parameter (Some s) v n ∷ more)

after_back : (ps : List Parameter) (t : ParseTree) (done : List Parameter → List Parameter) → (DerivesLongest rule t forms.parameters → (more : List Parameter) → list_from t more ≡ done more) → DerivesLongest rule (parameters_after t ps) forms.parameters → (more : List Parameter) → list_from (parameters_after t ps) more ≡ done (ps ++ more)
after_back [] t done first f more = first f more
after_back (p ∷ ps) t done first f more = after_back ps (next_parameter t p.separator p) (λ m. done (p ∷ m)) (next_back t p.separator p.variable_type p.name done first) f more

first_back : (s : Option Separator) (v : VariableType) (n : Name) → DerivesLongest rule (first_parameter s (a_parameter s v n)) forms.parameters → (more : List Parameter) → list_from (first_parameter s (a_parameter s v n)) more ≡ a_parameter s v n ∷ more
first_back None v n f more = ap (λ (x : VariableType). a_parameter None x n ∷ more) (type_back v)
first_back (Some s) v n f more = absurd f

parameters_back : (ps : List Parameter) → DerivesLongest rule (parameters_tree ps) (optional forms.parameters) → parameters_from (parameters_tree ps) ≡ ps
parameters_back [] f = refl
parameters_back (p ∷ ps) f = after_back ps (first_parameter p.separator p) (λ m. p ∷ m) (first_back p.separator p.variable_type p.name) f [] ∙ ap (λ (qs : List Parameter). p ∷ qs) (append_nil ps)

abbrev gives_from : ParseTree → Option VariableType
gives_from (Left (Pair w v)) = Some (type_from v)
gives_from _ = None

gives_back : (v : Option VariableType) → gives_from (maybe gives_tree v) ≡ v
gives_back None = refl
gives_back (Some v) = ap (λ (x : VariableType). Some x) (type_back v)

abbrev a_routine : Name → ℕ → List Parameter → Option VariableType → Statements → Routine
a_routine n place parameters gives body = record { name = n; place = place; parameters = parameters; gives = gives; body = body }

abbrev routine_from : ParseTree → Routine
routine_from (Pair w (Pair (Leaf n) (Pair (Leaf v) (Pair ps (Pair c (Pair g b)))))) = a_routine (name_from n) (place_of v) (parameters_from ps) (gives_from g) (block_from b)
routine_from _ = a_routine (name_from (words.Number 0 0)) 0 [] None (block_from NoWords)

routine_back : (f : Function) → DerivesLongest rule (function_tree f) forms.function → routine_from (function_tree f) ≡ routine_of f
routine_back f h = three (λ x y z. a_routine f.name f.open x y z) _ _ _ _ _ _ (parameters_back f.parameters.items h.1.1.1.0) (gives_back f.gives) (block_back f.block h.1.1.1.1.1.1)

-- ---- statements

abbrev declaration_from : ParseTree → Declaration
declaration_from (Left (Pair w (Pair v (Pair (Leaf (words.Ip at addr)) s)))) = RouterId (record { at = at; addr = addr })
declaration_from (Right (Right (Left (Pair w (Pair (Leaf n) (Pair v (Pair l s))))))) = Define (name_from n) (literal_from l)
declaration_from (Right (Right (Right (Left (Pair (Leaf w) (Pair v (Pair (Leaf n) s))))))) = Table (place_of w) (family_from w) (name_from n)
declaration_from (Right (Right (Right (Right (Left f))))) = DefineFunction (routine_from f)
declaration_from (Right (Right (Right (Right (Right (Left (Pair (Leaf w) (Pair (Leaf n) b)))))))) = DefineFilter (place_of w) (name_from n) (block_from b)
declaration_from (Right (Right (Right (Right (Right (Right (Pair w (Left (Pair v (Pair n (Pair o (Pair c s)))))))))))) = Device (name_option n) (semicolon_from s)
declaration_from (Right (Right (Right (Right (Right (Right (Pair w (Right (Left p))))))))) = Static (instance_from static_option_from p)
declaration_from (Right (Right (Right (Right (Right (Right (Pair w (Right (Right (Left p)))))))))) = Bgp (instance_from bgp_option_from p)
declaration_from (Right (Right (Right (Right (Right (Right (Pair w (Right (Right (Right p)))))))))) = Pipe (instance_from pipe_option_from p)
declaration_from _ = Log

declaration_back : (s : Statement) → DerivesLongest rule (statement_tree s) forms.statement → declaration_from (statement_tree s) ≡ declaration_of s
declaration_back (config_statements.RouterId a) f = refl
declaration_back config_statements.Log f = refl
declaration_back (config_statements.Define n l) f = ap (λ (x : Value). Define n x) (literal_back l)
declaration_back (config_statements.Table at family n) f = ap (λ (x : Family). Table at x n) (family_back at family)
declaration_back (config_statements.Function g) f = ap (λ (x : Routine). DefineFunction x) (routine_back g f)
declaration_back (config_statements.Filter at g) f = ap (λ (x : Statements). DefineFilter at g.name x) (block_back g.block f.1.1)
declaration_back (config_statements.Device n s) f = two (λ x y. Device x y) _ _ _ _ (name_option_back n) (semicolon_back s)
declaration_back (config_statements.Static p) f = ap (λ (x : Instance StaticSetting). Static x) (instance_back sym.Static static_option_tree forms.static_option static_option_from static_setting_of static_option_back p f.1)
declaration_back (config_statements.Bgp p) f = ap (λ (x : Instance BgpSetting). Bgp x) (instance_back sym.Bgp bgp_option_tree forms.bgp_option bgp_option_from bgp_setting_of bgp_option_back p f.1)
declaration_back (config_statements.Pipe p) f = ap (λ (x : Instance PipeSetting). Pipe x) (instance_back sym.Pipe pipe_option_tree forms.pipe_option pipe_option_from pipe_setting_of pipe_option_back p f.1)

configuration_back : (ss : List Statement) → DerivesLongest rule (statements_tree ss) forms.config → row_from declaration_from (statements_tree ss) [] ≡ configuration_of ss
configuration_back ss h = row_back statement_tree forms.statement declaration_from declaration_of declaration_back ss h

pub one_configuration : (c d : List Statement) → DerivesLongest rule (statements_tree c) forms.config → statements_tree c ≡ statements_tree d → configuration_of c ≡ configuration_of d
one_configuration c d h same = flip (configuration_back c h) ∙ ap (λ (t : ParseTree). row_from declaration_from t []) same ∙ configuration_back d (subst (λ (t : ParseTree). DerivesLongest rule t forms.config) same h)

-- ---- texts

pub one_syntax : ((text : List ℕ) (t u : ParseTree) → IsConfigText text t → IsConfigText text u → t ≡ u) → (text : List ℕ) (c d : List Statement) → IsConfigText text (statements_tree c) → IsConfigText text (statements_tree d) → configuration_of c ≡ configuration_of d
one_syntax once text c d one other = one_configuration c d one.2.fits (once text (statements_tree c) (statements_tree d) one other)
