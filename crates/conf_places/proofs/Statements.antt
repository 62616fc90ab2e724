-- The places of statements of configurations are those of words of their trees.
use Rattle.std.proofs.Common.{ℕ, List, [], ◌∷◌, Option, Some, None, option_map, map, Vec}
use Rattle.std.specs.Global.{Global}
use Rattle.conf_lex.specs.declared.symbol.Symbol.{Symbol}
use Rattle.conf_lex.specs.declared.symbol.Symbol.TheVariants as sym
use Rattle.conf_ast.specs.declared.named.Name.{Name}
use Rattle.conf_lex.specs.Grammar.{Seq, ParseTree, NoWords, Single, DerivesLongest}
use Rattle.conf_lex.specs.Leaves.{name_leaf}
use Rattle.conf_ast.specs.declared.filters.Num.{Num}
use Rattle.conf_ast.specs.declared.filters.Parameter.{Parameter}
use Rattle.conf_ast.specs.declared.filters.Separator.{Separator}
use Rattle.expr_syntax.specs.ItemView.{num_tree}
use Rattle.expr_syntax.specs.Syntax.{rule, optional, semicolon}
use Rattle.expr_syntax.specs.Levels.{Form}
use Rattle.conf_ast.specs.declared.configurations.Address.{Address}
use Rattle.conf_ast.specs.declared.configurations.BgpOption.{BgpOption}
use Rattle.conf_ast.specs.declared.configurations.BgpOption.TheVariants as bgp_options
use Rattle.conf_ast.specs.declared.configurations.Channel.{Channel}
use Rattle.conf_ast.specs.declared.configurations.ChannelOption.{ChannelOption}
use Rattle.conf_ast.specs.declared.configurations.ChannelOption.TheVariants as channel_options
use Rattle.conf_ast.specs.declared.configurations.Limit.{Limit}
use Rattle.conf_ast.specs.declared.configurations.Limit.TheVariants as limits
use Rattle.conf_ast.specs.declared.configurations.Literal.{Literal}
use Rattle.conf_ast.specs.declared.configurations.Literal.TheVariants as literals
use Rattle.conf_ast.specs.declared.configurations.PipeOption.{PipeOption}
use Rattle.conf_ast.specs.declared.configurations.PipeOption.TheVariants as pipe_options
use Rattle.conf_ast.specs.declared.configurations.Policy.{Policy}
use Rattle.conf_ast.specs.declared.configurations.Policy.TheVariants as policies
use Rattle.conf_ast.specs.declared.configurations.Protocol.{Protocol}
use Rattle.conf_ast.specs.declared.configurations.RouteTarget.{RouteTarget}
use Rattle.conf_ast.specs.declared.configurations.RouteTarget.TheVariants as targets
use Rattle.conf_ast.specs.declared.configurations.Statement.{Statement}
use Rattle.conf_ast.specs.declared.configurations.Statement.TheVariants as config_statements
use Rattle.conf_ast.specs.declared.configurations.StaticOption.{StaticOption}
use Rattle.conf_ast.specs.declared.configurations.StaticOption.TheVariants as static_options
use Rattle.conf_ast.specs.declared.configurations.Transport.{Transport}
use Rattle.conf_ast.specs.declared.configurations.Transport.TheVariants as transports
use Rattle.conf_syntax.specs.Syntax as forms
use Rattle.conf_tree.specs.View.{policy_tree, channel_option_tree, channel_options_tree, channel_tree, static_option_tree, bgp_option_tree, pipe_option_tree, parameters_tree, parameters_after, next_parameter, first_parameter, protocol_tree, statement_tree, statements_tree}
use Rattle.conf_syntax.specs.View.{maybe, address_leaf, limit_tree, ended_tree, ended_row, target_tree, transport_tree, literal_tree}
use Rattle.conf_ast.specs.Configurations.{value_of, passing_of, channel_setting_of, channel_settings_of, channel_of, static_setting_of, bgp_setting_of, pipe_setting_of, instance_of, declaration_of, configuration_of}
use Rattle.conf_places.specs.Configurations.{of_value, of_passing, of_limit, of_channel_setting, of_each, of_maybe, of_channel, of_name, of_address, of_target, of_static_setting, of_transport, of_bgp_setting, of_pipe_setting, of_instance, places}
use Rattle.conf_places.specs.Filters.{of_num, of_optional_num, of_parameters, of_statements}
use Rattle.conf_ast.specs.Filters.{block_of}
use Rattle.conf_places.proofs.Blocks.{block_on}
use Rattle.conf_places.proofs.Every.{Every, join}
use Rattle.conf_places.proofs.Expressions.{expression_on}
use Rattle.conf_places.proofs.Trees.{On, Before, num_on, items_on, mask_on, row_on, each_placed}

module _ (P : ℕ → Type 0) where
  -- ---- names and addresses that may be left out

  name_on : (n : Option Name) → On P (maybe name_leaf n) → Every P (of_maybe of_name n)
  name_on None o = tt
  name_on (Some n) o = (o, tt)

  address_on : (a : Option Address) → On P (maybe address_leaf a) → Every P (of_maybe of_address a)
  address_on None o = tt
  address_on (Some a) o = (o, tt)

  optional_num_on : (n : Option Num) → On P (maybe num_tree n) → Every P (of_optional_num n)
  optional_num_on None o = tt
  optional_num_on (Some n) o = (num_on P n o, tt)

  -- ---- values

  value_on : (l : Literal) → On P (literal_tree l) → Every P (of_value (value_of l))
  value_on (literals.Number at value) o = (o, tt)
  value_on (literals.Text q) o = (o, tt)
  value_on (literals.Ip a) o = (o, tt)
  value_on (literals.Prefix at net) o = (o, tt)
  value_on (literals.True at) o = (o, tt)
  value_on (literals.False at) o = (o, tt)
  value_on (literals.Name n) o = (o, tt)
  value_on (literals.Pair at a b) o = (o.0, (num_on P a o.1.0, (num_on P b o.1.1.1.0, tt)))
  value_on (literals.Set at items) o = (o.0.0, items_on P items.items o.0.1)
  value_on (literals.Mask at items) o = (o.0.0, mask_on P items.items o.0.1)

  -- ---- policies and channels

  passing_on : (p : Policy) → DerivesLongest rule (policy_tree p) forms.policy → On P (policy_tree p) → Every P (of_passing (passing_of p))
  passing_on policies.All f o = tt
  passing_on policies.None f o = tt
  passing_on (policies.Filter at n) f o = (o.0, (o.1, tt))
  passing_on (policies.Block at b) f o = (o.0, block_on P b f.1 o.1)
  passing_on (policies.Where at e) f o = (o.0, expression_on P e f.1 o.1)

  limit_on : (l : Limit) → On P (limit_tree l) → Every P (of_limit l)
  limit_on limits.Off o = tt
  limit_on (limits.Count n a) o = (num_on P n o.0, tt)

  setting_on : (s : ChannelOption) → DerivesLongest rule (channel_option_tree s) forms.channel_option → On P (channel_option_tree s) → Every P (of_channel_setting (channel_setting_of s))
  setting_on (channel_options.Table n) f o = (o.1, tt)
  setting_on (channel_options.Import p) f o = passing_on p f.1 o.1
  setting_on (channel_options.Export p) f o = passing_on p f.1 o.1
  setting_on (channel_options.Preference at n) f o = (o.0, (num_on P n o.1, tt))
  setting_on (channel_options.ImportLimit l) f o = limit_on l o.1.1
  setting_on (channel_options.NextHop h) f o = tt

  -- options, each with its semicolon
  options_on : {X Y : Type 0} (view : X → ParseTree) (f : Form) (of_setting : Y → List ℕ) (value : X → Y) → ((x : X) → DerivesLongest rule (view x) f → On P (view x) → Every P (of_setting (value x))) → (xs : List X) → DerivesLongest rule (ended_row view xs) (forms.ended_options f) → On P (ended_row view xs) → Every P (of_each of_setting (map value xs))
  options_on view f of_setting value told xs h o =
      each_placed P of_setting value xs
      (row_on P (λ x. ended_tree (view x)) (Seq f semicolon) (λ x. Every P (of_setting (value x))) (λ x k p. told x k.0 p.0) xs (Single NoWords) h o).rest

  settings_on : (v : Option (Vec ChannelOption Global)) → DerivesLongest rule (maybe channel_options_tree v) (optional forms.channel_options) → On P (maybe channel_options_tree v) → Every P (of_maybe (of_each of_channel_setting) (option_map channel_settings_of v))
  settings_on None f o = tt
  settings_on (Some v) f o = options_on channel_option_tree forms.channel_option of_channel_setting channel_setting_of setting_on v.items f.1.0 o.1.0

  channel_on : (c : Channel) → DerivesLongest rule (channel_tree c) forms.channel → On P (channel_tree c) → Every P (of_channel (channel_of c))
  channel_on c f o = (o.0, settings_on c.options f.1 o.1)

  -- ---- the options of protocols

  target_on : (t : RouteTarget) → On P (target_tree t) → Every P (of_target t)
  target_on (targets.Via a) o = (o.1, tt)
  target_on targets.Blackhole o = tt
  target_on targets.Unreachable o = tt
  target_on targets.Prohibit o = tt

  static_setting_on : (s : StaticOption) → DerivesLongest rule (static_option_tree s) forms.static_option → On P (static_option_tree s) → Every P (of_static_setting (static_setting_of s))
  static_setting_on (static_options.Channel c) f o = channel_on c f o
  static_setting_on (static_options.Route r) f o = (o.1.0, target_on r.target o.1.1)

  transport_on : (t : Transport) → On P (transport_tree t) → Every P (of_transport t)
  transport_on (transports.Description q) o = (o.1, tt)
  transport_on (transports.Password q) o = (o.1, tt)
  transport_on (transports.SourceAddress at a) o = (o.0, (o.1.1, tt))
  transport_on (transports.HoldTime n) o = (num_on P n o.1.1, tt)
  transport_on (transports.KeepaliveTime n) o = (num_on P n o.1.1, tt)
  transport_on (transports.ConnectRetryTime n) o = (num_on P n o.1.1.1, tt)
  transport_on (transports.Multihop n) o = optional_num_on n o.1
  transport_on transports.Direct o = tt
  transport_on (transports.Passive s) o = tt

  bgp_setting_on : (s : BgpOption) → DerivesLongest rule (bgp_option_tree s) forms.bgp_option → On P (bgp_option_tree s) → Every P (of_bgp_setting (bgp_setting_of s))
  bgp_setting_on (bgp_options.Channel c) f o = channel_on c f o
  bgp_setting_on (bgp_options.Local a n) f o = join P (of_maybe of_address a) (of_num n ∷ []) (address_on a o.1.0) (num_on P n o.1.1.1, tt)
  bgp_setting_on (bgp_options.Neighbor a n) f o = (o.1.0, (num_on P n o.1.1.1, tt))
  bgp_setting_on (bgp_options.MedMetric s) f o = tt
  bgp_setting_on (bgp_options.InterpretCommunities s) f o = tt
  bgp_setting_on (bgp_options.DefaultMed at n) f o = (o.1.0, (num_on P n o.1.1, tt))
  bgp_setting_on (bgp_options.DefaultLocalPref at n) f o = (o.1.0, (num_on P n o.1.1, tt))
  bgp_setting_on (bgp_options.Transport t) f o = transport_on t o

  pipe_setting_on : (s : PipeOption) → DerivesLongest rule (pipe_option_tree s) forms.pipe_option → On P (pipe_option_tree s) → Every P (of_pipe_setting (pipe_setting_of s))
  pipe_setting_on (pipe_options.Table n) f o = (o.1, tt)
  pipe_setting_on (pipe_options.PeerTable n) f o = (o.1.1, tt)
  pipe_setting_on (pipe_options.Import p) f o = passing_on p f.1 o.1
  pipe_setting_on (pipe_options.Export p) f o = passing_on p f.1 o.1

  instance_on : {X Y : Type 0} (kind : Symbol) (view : X → ParseTree) (f : Form) (of_setting : Y → List ℕ) (value : X → Y) → ((x : X) → DerivesLongest rule (view x) f → On P (view x) → Every P (of_setting (value x))) → (p : Protocol X) → DerivesLongest rule (protocol_tree kind view p) (forms.protocol_of kind f) → On P (protocol_tree kind view p) → Every P (of_instance of_setting (instance_of value p))
  instance_on kind view f of_setting value told p h o =
      (o.0, join P (of_maybe of_name p.name) (of_each of_setting (map value p.options.items)) (name_on p.name o.1.0) (options_on view f of_setting value told p.options.items h.1.1.1.0 o.1.1.1.0))

  -- ---- functions

  next_on : (t : ParseTree) (s : Option Separator) (p : Parameter) → DerivesLongest rule (next_parameter t s p) forms.parameters → On P (next_parameter t s p) → Before P t forms.parameters (P p.name.at)
  next_on t None p f o = absurd f
  next_on t (Some s) p f o = record { fits = f.0; on = o.0; rest = o.1.1.1 }

  first_on : (s : Option Separator) (p : Parameter) → DerivesLongest rule (first_parameter s p) forms.parameters → On P (first_parameter s p) → P p.name.at
  first_on None p f o = o.1
  first_on (Some s) p f o = absurd f

  parameters_after_on : (ps : List Parameter) (t : ParseTree) → DerivesLongest rule (parameters_after t ps) forms.parameters → On P (parameters_after t ps) → Before P t forms.parameters (Every P (of_parameters ps))
  parameters_after_on [] t f o = record { fits = f; on = o; rest = tt }
  parameters_after_on (p ∷ ps) t f o =
      let later = parameters_after_on ps (next_parameter t p.separator p) f o in
      let next = next_on t p.separator p later.fits later.on in
      record { fits = next.fits; on = next.on; rest = (next.rest, later.rest) }

  parameters_on : (ps : List Parameter) → DerivesLongest rule (parameters_tree ps) (optional forms.parameters) → On P (parameters_tree ps) → Every P (of_parameters ps)
  parameters_on [] f o = tt
  parameters_on (p ∷ ps) f o =
      let later = parameters_after_on ps (first_parameter p.separator p) f o in
      (first_on p.separator p later.fits later.on, later.rest)

  -- ---- statements

  pub declaration_on : (s : Statement) → DerivesLongest rule (statement_tree s) forms.statement → On P (statement_tree s) → Every P (places (declaration_of s))
  declaration_on (config_statements.RouterId a) f o = (o.1.1.0, tt)
  declaration_on config_statements.Log f o = tt
  declaration_on (config_statements.Define n l) f o = (o.1.0, value_on l o.1.1.1.0)
  declaration_on (config_statements.Table at family n) f o = (o.0, (o.1.1.0, tt))
  declaration_on (config_statements.Function g) f o =
      (o.1.0, (o.1.1.0, join P (of_parameters g.parameters.items) (of_statements (block_of g.block)) (parameters_on g.parameters.items f.1.1.1.0 o.1.1.1.0) (block_on P g.block f.1.1.1.1.1.1 o.1.1.1.1.1.1)))
  declaration_on (config_statements.Filter at g) f o = (o.0, (o.1.0, block_on P g.block f.1.1 o.1.1))
  declaration_on (config_statements.Device n s) f o = name_on n o.1.1.0
  declaration_on (config_statements.Static p) f o = instance_on sym.Static static_option_tree forms.static_option of_static_setting static_setting_of static_setting_on p f.1 o.1
  declaration_on (config_statements.Bgp p) f o = instance_on sym.Bgp bgp_option_tree forms.bgp_option of_bgp_setting bgp_setting_of bgp_setting_on p f.1 o.1
  declaration_on (config_statements.Pipe p) f o = instance_on sym.Pipe pipe_option_tree forms.pipe_option of_pipe_setting pipe_setting_of pipe_setting_on p f.1 o.1

  pub declarations_on : (ss : List Statement) → DerivesLongest rule (statements_tree ss) forms.config → On P (statements_tree ss) → Every (λ d. Every P (places d)) (configuration_of ss)
  declarations_on ss h o =
      each_mapped ss (row_on P statement_tree forms.statement (λ s. Every P (places (declaration_of s))) declaration_on ss (Single NoWords) h o).rest
    where
      each_mapped : (ss : List Statement) → Every (λ s. Every P (places (declaration_of s))) ss → Every (λ d. Every P (places d)) (configuration_of ss)
      each_mapped [] h = tt
      each_mapped (s ∷ ss) h = (h.0, each_mapped ss h.1)
