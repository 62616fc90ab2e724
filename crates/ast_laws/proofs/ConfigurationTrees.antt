-- Configurations, and the trees that they are of.
use Rattle.std.proofs.Common.{◌≡◌, ℕ, List, [], ◌∷◌, Option, Some, None, option_map, map, refl, sym as flip, ap, ◌∙◌, Vec}
use Rattle.std.specs.Global.{Global}
use Rattle.conf_ast.specs.declared.attribute.Attribute.TheVariants as attributes
use Rattle.conf_lex.specs.declared.symbol.Symbol.{Symbol}
use Rattle.conf_lex.specs.declared.symbol.Symbol.TheVariants as sym
use Rattle.conf_lex.specs.declared.word.Word.TheVariants as words
use Rattle.conf_ast.specs.declared.named.Name.{Name}
use Rattle.conf_lex.specs.Grammar.{Epsilon, Seq, Repeat, ParseTree, NoWords, Pair, Left, Right, Single, Snoc, DerivesLongest}
use Rattle.conf_lex.specs.Leaves.{symbol_leaf, name_leaf, between}
use Rattle.conf_ast.specs.declared.filters.Parameter.{Parameter}
use Rattle.conf_ast.specs.declared.filters.VariableType.{VariableType}
use Rattle.expr_syntax.specs.Syntax.{rule, optional, semicolon}
use Rattle.expr_syntax.specs.Levels.{Form}
use Rattle.expr_syntax.specs.ItemView.{num_tree, items_tree, mask_items_tree}
use Rattle.expr_syntax.specs.Rows.{semicolon_leaf, row_after, row_tree, nth, beyond}
use Rattle.conf_ast.specs.declared.configurations.BgpOption.{BgpOption}
use Rattle.conf_ast.specs.declared.configurations.BgpOption.TheVariants as bgp_options
use Rattle.conf_ast.specs.declared.configurations.Channel.{Channel}
use Rattle.conf_ast.specs.declared.configurations.ChannelOption.{ChannelOption}
use Rattle.conf_ast.specs.declared.configurations.ChannelOption.TheVariants as channel_options
use Rattle.conf_ast.specs.declared.configurations.Literal.{Literal}
use Rattle.conf_ast.specs.declared.configurations.Literal.TheVariants as literals
use Rattle.conf_ast.specs.declared.configurations.PipeOption.{PipeOption}
use Rattle.conf_ast.specs.declared.configurations.PipeOption.TheVariants as pipe_options
use Rattle.conf_ast.specs.declared.configurations.Policy.{Policy}
use Rattle.conf_ast.specs.declared.configurations.Policy.TheVariants as policies
use Rattle.conf_ast.specs.declared.configurations.Protocol.{Protocol}
use Rattle.conf_ast.specs.declared.configurations.Statement.{Statement}
use Rattle.conf_ast.specs.declared.configurations.Statement.TheVariants as config_statements
use Rattle.conf_ast.specs.declared.configurations.StaticOption.{StaticOption}
use Rattle.conf_ast.specs.declared.configurations.StaticOption.TheVariants as static_options
use Rattle.conf_syntax.specs.Syntax as forms
use Rattle.conf_tree.specs.View.{policy_tree, table_tree, channel_option_tree, channel_options_tree, channel_tree, route_tree, static_option_tree, default_tree, bgp_option_tree, pipe_option_tree, parameters_tree, gives_tree, protocol_end_tree, protocol_tree, device_tree, of_protocol, statement_tree, statements_tree}
use Rattle.conf_syntax.specs.View.{placed_leaf, attribute_leaf, switch_leaf, family_leaf, maybe, address_leaf, limit_tree, hop_symbol, ended_tree, ended_row, as_tree, transport_tree, value_tree, pair_tree, literal_tree}
use Rattle.conf_ast.specs.Configurations.{Value, NumberValue, TextValue, AddressValue, PrefixValue, TrueValue, FalseValue, ValueOf, PairValue, SetValue, MaskValue, value_of, Passing, PassAll, PassNone, PassByFilter, PassByBlock, PassWhere, passing_of, ChannelSetting, ChannelTable, ChannelImport, ChannelExport, ChannelPreference, ChannelLimit, ChannelNextHop, channel_setting_of, FamilyChannel, channel_of, channel_settings_of, StaticSetting, StaticChannel, StaticRoute, static_setting_of, BgpSetting, BgpChannel, BgpLocal, BgpNeighbor, BgpMedMetric, BgpInterpretCommunities, BgpDefaultMed, BgpDefaultLocalPref, BgpTransport, bgp_setting_of, PipeSetting, PipeTable, PipePeerTable, PipeImport, PipeExport, pipe_setting_of, Instance, instance_of, Declaration, RouterId, Log, Define, Table, DefineFunction, DefineFilter, Device, Static, Bgp, Pipe, declaration_of, configuration_of}
use Rattle.ast_laws.proofs.Equations.{two, two_maps}
use Rattle.ast_laws.proofs.ExpressionsBack.{seen, expression_again}
use Rattle.ast_laws.proofs.StatementsBack.{AreSeen, block_tree_of, block_again}

-- ---- rows

module _ {X : Type 0} (view made : X → ParseTree) (f : Form) (told : (x : X) → DerivesLongest rule (view x) f → made x ≡ view x) where
  rows_again : (xs : List X) (t : ParseTree) → DerivesLongest rule (row_after t (map view xs)) (Repeat Epsilon f) → AreSeen (map made xs) (map view xs) t (Repeat Epsilon f)
  rows_again [] t h = record { same = refl; fits = h }
  rows_again (x ∷ xs) t h =
      let later = rows_again xs (Snoc t (view x)) h in
      record { same = two (λ (u : ParseTree) (us : List ParseTree). u ∷ us) _ _ _ _ (told x later.fits.1) later.same; fits = later.fits.0 }

row_again : {X Y : Type 0} (view : X → ParseTree) (f : Form) (tree : Y → ParseTree) (value : X → Y) → ((x : X) → DerivesLongest rule (view x) f → tree (value x) ≡ view x) → (xs : List X) → DerivesLongest rule (row_tree (map view xs)) (Repeat Epsilon f) → row_tree (map tree (map value xs)) ≡ row_tree (map view xs)
row_again {X = X} view f tree value told xs h = ap (λ (ts : List ParseTree). row_tree ts) (two_maps value tree (λ (x : X). tree (value x)) (λ x. refl) xs ∙ (rows_again view (λ x. tree (value x)) f told xs (Single NoWords) h).same)

options_again : {X Y : Type 0} (view : X → ParseTree) (f : Form) (tree : Y → ParseTree) (value : X → Y) → ((x : X) → DerivesLongest rule (view x) f → tree (value x) ≡ view x) → (xs : List X) → DerivesLongest rule (ended_row view xs) (forms.ended_options f) → ended_row tree (map value xs) ≡ ended_row view xs
options_again view f tree value told xs h = row_again (λ x. ended_tree (view x)) (Seq f semicolon) (λ y. ended_tree (tree y)) value (λ x k. ap (λ (t : ParseTree). ended_tree t) (told x k.0)) xs h

-- ---- policies and channels

abbrev passing_tree : Passing → ParseTree
passing_tree PassAll = nth 0 (symbol_leaf sym.All)
passing_tree PassNone = nth 0 (symbol_leaf sym.None)
passing_tree (PassByFilter at n) = nth 1 (Pair (placed_leaf at sym.Filter) (Left (name_leaf n)))
passing_tree (PassByBlock at ss) = nth 1 (Pair (placed_leaf at sym.Filter) (Right (block_tree_of ss)))
passing_tree (PassWhere at e) = beyond 2 (Pair (placed_leaf at sym.Where) (seen e).expr)

passing_again : (p : Policy) → DerivesLongest rule (policy_tree p) forms.policy → passing_tree (passing_of p) ≡ policy_tree p
passing_again policies.All f = refl
passing_again policies.None f = refl
passing_again (policies.Filter at n) f = refl
passing_again (policies.Block at b) f = ap (λ (t : ParseTree). nth 1 (Pair (placed_leaf at sym.Filter) (Right t))) (block_again b f.1)
passing_again (policies.Where at e) f = ap (λ (t : ParseTree). beyond 2 (Pair (placed_leaf at sym.Where) t)) (expression_again e f.1)

abbrev channel_setting_tree : ChannelSetting → ParseTree
channel_setting_tree (ChannelTable n) = nth 0 (table_tree n)
channel_setting_tree (ChannelImport p) = nth 1 (Pair (symbol_leaf sym.Import) (Right (passing_tree p)))
channel_setting_tree (ChannelExport p) = nth 2 (Pair (symbol_leaf sym.Export) (passing_tree p))
channel_setting_tree (ChannelPreference at n) = nth 3 (Pair (attribute_leaf at attributes.Preference) (num_tree n))
channel_setting_tree (ChannelLimit l) = nth 1 (Pair (symbol_leaf sym.Import) (Left (Pair (symbol_leaf sym.Limit) (limit_tree l))))
channel_setting_tree (ChannelNextHop h) = beyond 4 (Pair (symbol_leaf sym.Next) (Pair (symbol_leaf sym.Hop) (symbol_leaf (hop_symbol h))))

channel_setting_again : (o : ChannelOption) → DerivesLongest rule (channel_option_tree o) forms.channel_option → channel_setting_tree (channel_setting_of o) ≡ channel_option_tree o
channel_setting_again (channel_options.Table n) f = refl
channel_setting_again (channel_options.Import p) f = ap (λ (t : ParseTree). nth 1 (Pair (symbol_leaf sym.Import) (Right t))) (passing_again p f.1)
channel_setting_again (channel_options.Export p) f = ap (λ (t : ParseTree). nth 2 (Pair (symbol_leaf sym.Export) t)) (passing_again p f.1)
channel_setting_again (channel_options.Preference at n) f = refl
channel_setting_again (channel_options.ImportLimit l) f = refl
channel_setting_again (channel_options.NextHop h) f = refl

abbrev settings_tree : List ChannelSetting → ParseTree
settings_tree os = Pair (symbol_leaf sym.OpenBrace) (Pair (ended_row channel_setting_tree os) (symbol_leaf sym.CloseBrace))

abbrev family_channel_tree : FamilyChannel → ParseTree
family_channel_tree c = Pair (family_leaf c.at c.family) (maybe settings_tree c.settings)

settings_again : (o : Option (Vec ChannelOption Global)) → DerivesLongest rule (maybe channel_options_tree o) (optional forms.channel_options) → maybe settings_tree (option_map channel_settings_of o) ≡ maybe channel_options_tree o
settings_again None f = refl
settings_again (Some v) f = ap (λ (t : ParseTree). Left (Pair (symbol_leaf sym.OpenBrace) (Pair t (symbol_leaf sym.CloseBrace)))) (options_again channel_option_tree forms.channel_option channel_setting_tree channel_setting_of channel_setting_again v.items f.1.0)

channel_again : (c : Channel) → DerivesLongest rule (channel_tree c) forms.channel → family_channel_tree (channel_of c) ≡ channel_tree c
channel_again c f = ap (λ (t : ParseTree). Pair (family_leaf c.at c.family) t) (settings_again c.options f.1)

-- ---- the options of protocols

abbrev static_setting_tree : StaticSetting → ParseTree
static_setting_tree (StaticChannel c) = Left (family_channel_tree c)
static_setting_tree (StaticRoute r) = Right (route_tree r)

static_setting_again : (o : StaticOption) → DerivesLongest rule (static_option_tree o) forms.static_option → static_setting_tree (static_setting_of o) ≡ static_option_tree o
static_setting_again (static_options.Channel c) f = ap (λ (t : ParseTree). Left t) (channel_again c f)
static_setting_again (static_options.Route r) f = refl

abbrev bgp_setting_tree : BgpSetting → ParseTree
bgp_setting_tree (BgpChannel c) = nth 0 (family_channel_tree c)
bgp_setting_tree (BgpLocal a n) = nth 1 (Pair (symbol_leaf sym.Local) (Pair (maybe address_leaf a) (as_tree n)))
bgp_setting_tree (BgpNeighbor a n) = nth 2 (Pair (symbol_leaf sym.Neighbor) (Pair (address_leaf a) (as_tree n)))
bgp_setting_tree (BgpMedMetric s) = nth 3 (Pair (symbol_leaf sym.Med) (Pair (symbol_leaf sym.Metric) (switch_leaf s)))
bgp_setting_tree (BgpInterpretCommunities s) = nth 4 (Pair (symbol_leaf sym.Interpret) (Pair (symbol_leaf sym.Communities) (switch_leaf s)))
bgp_setting_tree (BgpDefaultMed at n) = nth 5 (default_tree at attributes.BgpMed n)
bgp_setting_tree (BgpDefaultLocalPref at n) = nth 5 (default_tree at attributes.BgpLocalPref n)
bgp_setting_tree (BgpTransport t) = beyond 6 (transport_tree t)

bgp_setting_again : (o : BgpOption) → DerivesLongest rule (bgp_option_tree o) forms.bgp_option → bgp_setting_tree (bgp_setting_of o) ≡ bgp_option_tree o
bgp_setting_again (bgp_options.Channel c) f = ap (λ (t : ParseTree). nth 0 t) (channel_again c f)
bgp_setting_again (bgp_options.Local a n) f = refl
bgp_setting_again (bgp_options.Neighbor a n) f = refl
bgp_setting_again (bgp_options.MedMetric s) f = refl
bgp_setting_again (bgp_options.InterpretCommunities s) f = refl
bgp_setting_again (bgp_options.DefaultMed at n) f = refl
bgp_setting_again (bgp_options.DefaultLocalPref at n) f = refl
bgp_setting_again (bgp_options.Transport t) f = refl

abbrev pipe_setting_tree : PipeSetting → ParseTree
pipe_setting_tree (PipeTable n) = nth 0 (table_tree n)
pipe_setting_tree (PipePeerTable n) = nth 1 (Pair (symbol_leaf sym.Peer) (table_tree n))
pipe_setting_tree (PipeImport p) = nth 2 (Pair (symbol_leaf sym.Import) (passing_tree p))
pipe_setting_tree (PipeExport p) = beyond 3 (Pair (symbol_leaf sym.Export) (passing_tree p))

pipe_setting_again : (o : PipeOption) → DerivesLongest rule (pipe_option_tree o) forms.pipe_option → pipe_setting_tree (pipe_setting_of o) ≡ pipe_option_tree o
pipe_setting_again (pipe_options.Table n) f = refl
pipe_setting_again (pipe_options.PeerTable n) f = refl
pipe_setting_again (pipe_options.Import p) f = ap (λ (t : ParseTree). nth 2 (Pair (symbol_leaf sym.Import) t)) (passing_again p f.1)
pipe_setting_again (pipe_options.Export p) f = ap (λ (t : ParseTree). beyond 3 (Pair (symbol_leaf sym.Export) t)) (passing_again p f.1)

abbrev instance_tree : {Y : Type 0} → Symbol → (Y → ParseTree) → Instance Y → ParseTree
instance_tree kind tree p = Pair (placed_leaf p.at kind) (Pair (maybe name_leaf p.name) (Pair (symbol_leaf sym.OpenBrace) (Pair (ended_row tree p.settings) (protocol_end_tree p.semicolon))))

instance_again : {X Y : Type 0} (kind : Symbol) (view : X → ParseTree) (f : Form) (tree : Y → ParseTree) (value : X → Y) → ((x : X) → DerivesLongest rule (view x) f → tree (value x) ≡ view x) → (p : Protocol X) → DerivesLongest rule (protocol_tree kind view p) (forms.protocol_of kind f) → instance_tree kind tree (instance_of value p) ≡ protocol_tree kind view p
instance_again kind view f tree value told p h = ap (λ (t : ParseTree). Pair (placed_leaf p.at kind) (Pair (maybe name_leaf p.name) (Pair (symbol_leaf sym.OpenBrace) (Pair t (protocol_end_tree p.semicolon))))) (options_again view f tree value told p.options.items h.1.1.1.0)

-- ---- statements

abbrev tree_of_value : Value → ParseTree
tree_of_value (NumberValue at n) = value_tree (words.Number at n)
tree_of_value (TextValue q) = value_tree (words.Text q.at q.start q.len)
tree_of_value (AddressValue a) = value_tree (words.Ip a.at a.addr)
tree_of_value (PrefixValue at net) = value_tree (words.Prefix at net)
tree_of_value (TrueValue at) = value_tree (words.Placed at sym.True)
tree_of_value (FalseValue at) = value_tree (words.Placed at sym.False)
tree_of_value (ValueOf n) = value_tree (words.Name n.at n.start n.len)
tree_of_value (PairValue at a b) = nth 1 (pair_tree at a b)
tree_of_value (SetValue at items) = nth 2 (between (words.Placed at sym.OpenBracket) (items_tree items) sym.CloseBracket)
tree_of_value (MaskValue at items) = beyond 3 (Pair (Pair (placed_leaf at sym.OpenMask) (mask_items_tree items)) (symbol_leaf sym.CloseMask))

value_again : (l : Literal) → tree_of_value (value_of l) ≡ literal_tree l
value_again (literals.Number at value) = refl
value_again (literals.Text q) = refl
value_again (literals.Ip a) = refl
value_again (literals.Prefix at net) = refl
value_again (literals.True at) = refl
value_again (literals.False at) = refl
value_again (literals.Name n) = refl
value_again (literals.Pair at a b) = refl
value_again (literals.Set at v) = refl
value_again (literals.Mask at v) = refl

abbrev routine_with : Name → ℕ → List Parameter → Option VariableType → ParseTree → ParseTree
routine_with n place ps gives body = Pair (symbol_leaf sym.Function) (Pair (name_leaf n) (Pair (placed_leaf place sym.OpenParenthesis) (Pair (parameters_tree ps) (Pair (symbol_leaf sym.CloseParenthesis) (Pair (maybe gives_tree gives) body)))))

abbrev filter_with : ℕ → Name → ParseTree → ParseTree
filter_with at n body = Pair (placed_leaf at sym.Filter) (Pair (name_leaf n) body)

abbrev declaration_tree : Declaration → ParseTree
declaration_tree (RouterId a) = nth 0 (Pair (symbol_leaf sym.Router) (Pair (symbol_leaf sym.Id) (Pair (address_leaf a) semicolon_leaf)))
declaration_tree Log = nth 1 (Pair (symbol_leaf sym.Log) semicolon_leaf)
declaration_tree (Define n v) = nth 2 (Pair (symbol_leaf sym.Define) (Pair (name_leaf n) (Pair (symbol_leaf sym.Equal) (Pair (tree_of_value v) semicolon_leaf))))
declaration_tree (Table at family n) = nth 3 (Pair (family_leaf at family) (Pair (symbol_leaf sym.Table) (Pair (name_leaf n) semicolon_leaf)))
declaration_tree (DefineFunction r) = nth 4 (routine_with r.name r.place r.parameters r.gives (block_tree_of r.body))
declaration_tree (DefineFilter at n body) = nth 5 (filter_with at n (block_tree_of body))
declaration_tree (Device n s) = of_protocol (nth 0 (device_tree n s))
declaration_tree (Static p) = of_protocol (nth 1 (instance_tree sym.Static static_setting_tree p))
declaration_tree (Bgp p) = of_protocol (nth 2 (instance_tree sym.Bgp bgp_setting_tree p))
declaration_tree (Pipe p) = of_protocol (beyond 3 (instance_tree sym.Pipe pipe_setting_tree p))

declaration_again : (s : Statement) → DerivesLongest rule (statement_tree s) forms.statement → declaration_tree (declaration_of s) ≡ statement_tree s
declaration_again (config_statements.RouterId a) f = refl
declaration_again config_statements.Log f = refl
declaration_again (config_statements.Define n l) f = ap (λ (t : ParseTree). nth 2 (Pair (symbol_leaf sym.Define) (Pair (name_leaf n) (Pair (symbol_leaf sym.Equal) (Pair t semicolon_leaf))))) (value_again l)
declaration_again (config_statements.Table at family n) f = refl
declaration_again (config_statements.Function g) f = ap (λ (t : ParseTree). nth 4 (routine_with g.name g.open g.parameters.items g.gives t)) (block_again g.block f.1.1.1.1.1.1)
declaration_again (config_statements.Filter at g) f = ap (λ (t : ParseTree). nth 5 (filter_with at g.name t)) (block_again g.block f.1.1)
declaration_again (config_statements.Device n s) f = refl
declaration_again (config_statements.Static p) f = ap (λ (t : ParseTree). of_protocol (nth 1 t)) (instance_again sym.Static static_option_tree forms.static_option static_setting_tree static_setting_of static_setting_again p f.1)
declaration_again (config_statements.Bgp p) f = ap (λ (t : ParseTree). of_protocol (nth 2 t)) (instance_again sym.Bgp bgp_option_tree forms.bgp_option bgp_setting_tree bgp_setting_of bgp_setting_again p f.1)
declaration_again (config_statements.Pipe p) f = ap (λ (t : ParseTree). of_protocol (beyond 3 t)) (instance_again sym.Pipe pipe_option_tree forms.pipe_option pipe_setting_tree pipe_setting_of pipe_setting_again p f.1)

configuration_again : (ss : List Statement) → DerivesLongest rule (statements_tree ss) forms.config → row_tree (map declaration_tree (configuration_of ss)) ≡ statements_tree ss
configuration_again ss h = row_again statement_tree forms.statement declaration_tree declaration_of declaration_again ss h

pub one_configuration_tree : (c d : List Statement) → DerivesLongest rule (statements_tree c) forms.config → DerivesLongest rule (statements_tree d) forms.config → configuration_of c ≡ configuration_of d → statements_tree c ≡ statements_tree d
one_configuration_tree c d h k same = flip (configuration_again c h) ∙ ap (λ (ds : List Declaration). row_tree (map declaration_tree ds)) same ∙ configuration_again d k
