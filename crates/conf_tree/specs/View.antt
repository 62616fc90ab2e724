-- The tree of the grammar that a configuration in memory stands for (`config_view`): a line for
-- each variant, which names its alternative of the grammar's line.
-- Not modelled: what a configuration means (conf_ast has it as plain data).
-- From: own; the forms are those of Syntax.
-- Example: `router id 1.2.3.4;` is the first alternative of `statement`.
use Rattle.std.specs.Prelude.{ℕ, Bool, List, [], ◌∷◌, Option, Some, None, map, Vec}
use Rattle.std.specs.Global.{Global}
use Rattle.conf_ast.specs.declared.attribute.Attribute.{Attribute}
use Rattle.conf_ast.specs.declared.attribute.Attribute.TheVariants as attributes
use Rattle.conf_lex.specs.declared.symbol.Symbol.{Symbol}
use Rattle.conf_lex.specs.declared.symbol.Symbol.TheVariants as sym
use Rattle.conf_lex.specs.declared.word.Word.TheVariants as words
use Rattle.conf_ast.specs.declared.named.Name.{Name}
use Rattle.conf_lex.specs.Grammar.{ParseTree, Leaf, NoWords, Pair, Left, Right, Single, Snoc}
use Rattle.conf_lex.specs.Leaves.{symbol_leaf, name_leaf}
use Rattle.conf_ast.specs.declared.filters.Filter.{Filter}
use Rattle.conf_ast.specs.declared.filters.Function.{Function}
use Rattle.conf_ast.specs.declared.filters.Num.{Num}
use Rattle.conf_ast.specs.declared.filters.Parameter.{Parameter}
use Rattle.conf_ast.specs.declared.filters.Separator.{Separator}
use Rattle.conf_ast.specs.declared.filters.Separator.TheVariants as separators
use Rattle.conf_ast.specs.declared.filters.VariableType.{VariableType}
use Rattle.expr_syntax.specs.ItemView.{num_tree}
use Rattle.expr_syntax.specs.View.{derivations}
use Rattle.expr_syntax.specs.Rows.{semicolon_leaf, nth, beyond, row_tree}
use Rattle.expr_syntax.specs.Types.{type_tree}
use Rattle.filt_syntax.specs.StatementView.{block_view}
use Rattle.conf_ast.specs.declared.configurations.BgpOption.{BgpOption}
use Rattle.conf_ast.specs.declared.configurations.BgpOption.TheVariants as bgp_options
use Rattle.conf_ast.specs.declared.configurations.Channel.{Channel}
use Rattle.conf_ast.specs.declared.configurations.ChannelOption.{ChannelOption}
use Rattle.conf_ast.specs.declared.configurations.ChannelOption.TheVariants as channel_options
use Rattle.conf_ast.specs.declared.configurations.Config.{Config}
use Rattle.conf_ast.specs.declared.configurations.PipeOption.{PipeOption}
use Rattle.conf_ast.specs.declared.configurations.PipeOption.TheVariants as pipe_options
use Rattle.conf_ast.specs.declared.configurations.Policy.{Policy}
use Rattle.conf_ast.specs.declared.configurations.Policy.TheVariants as policies
use Rattle.conf_ast.specs.declared.configurations.Protocol.{Protocol}
use Rattle.conf_ast.specs.declared.configurations.Route.{Route}
use Rattle.conf_ast.specs.declared.configurations.Statement.{Statement}
use Rattle.conf_ast.specs.declared.configurations.Statement.TheVariants as statements
use Rattle.conf_ast.specs.declared.configurations.StaticOption.{StaticOption}
use Rattle.conf_ast.specs.declared.configurations.StaticOption.TheVariants as static_options
use Rattle.conf_syntax.specs.View.{placed_leaf, attribute_leaf, address_leaf, switch_leaf, family_leaf, maybe, limit_tree, hop_symbol, ended_row, target_tree, as_tree, transport_tree, literal_tree, semicolon_tree}

-- ---- policies and channels

abbrev pub policy_tree : Policy → ParseTree
policy_tree policies.All = nth 0 (symbol_leaf sym.All)
policy_tree policies.None = nth 0 (symbol_leaf sym.None)
policy_tree (policies.Filter at name) =
    nth 1 (Pair (placed_leaf at sym.Filter) (Left (name_leaf name)))
policy_tree (policies.Block at block) =
    nth 1 (Pair (placed_leaf at sym.Filter) (Right (block_view block)))
policy_tree (policies.Where at e) = beyond 2 (Pair (placed_leaf at sym.Where) (derivations e).expr)

abbrev pub table_tree : Name → ParseTree
table_tree name = Pair (symbol_leaf sym.Table) (name_leaf name)

abbrev pub channel_option_tree : ChannelOption → ParseTree
channel_option_tree (channel_options.Table name) = nth 0 (table_tree name)
channel_option_tree (channel_options.Import policy) =
    nth 1 (Pair (symbol_leaf sym.Import) (Right (policy_tree policy)))
channel_option_tree (channel_options.Export policy) =
    nth 2 (Pair (symbol_leaf sym.Export) (policy_tree policy))
channel_option_tree (channel_options.Preference at n) =
    nth 3 (Pair (attribute_leaf at attributes.Preference) (num_tree n))
channel_option_tree (channel_options.ImportLimit l) =
    nth 1 (Pair (symbol_leaf sym.Import) (Left (Pair (symbol_leaf sym.Limit) (limit_tree l))))
channel_option_tree (channel_options.NextHop hop) = beyond 4 (Pair (symbol_leaf sym.Next)
    (Pair (symbol_leaf sym.Hop) (symbol_leaf (hop_symbol hop))))

-- between braces
abbrev pub channel_options_tree : Vec ChannelOption Global → ParseTree
channel_options_tree options = Pair (symbol_leaf sym.OpenBrace)
    (Pair (ended_row channel_option_tree options.items) (symbol_leaf sym.CloseBrace))

abbrev pub channel_tree : Channel → ParseTree
channel_tree c = Pair (family_leaf c.at c.family) (maybe channel_options_tree c.options)

-- ---- the options of protocols

abbrev pub route_tree : Route → ParseTree
route_tree r =
    Pair (symbol_leaf sym.Route) (Pair (Leaf (words.Prefix r.at r.net)) (target_tree r.target))

abbrev pub static_option_tree : StaticOption → ParseTree
static_option_tree (static_options.Channel c) = Left (channel_tree c)
static_option_tree (static_options.Route r) = Right (route_tree r)

abbrev pub default_tree : ℕ → Attribute → Num → ParseTree
default_tree at attribute n =
    Pair (symbol_leaf sym.Default) (Pair (attribute_leaf at attribute) (num_tree n))

abbrev pub bgp_option_tree : BgpOption → ParseTree
bgp_option_tree (bgp_options.Channel c) = nth 0 (channel_tree c)
bgp_option_tree (bgp_options.Local a n) =
    nth 1 (Pair (symbol_leaf sym.Local) (Pair (maybe address_leaf a) (as_tree n)))
bgp_option_tree (bgp_options.Neighbor a n) =
    nth 2 (Pair (symbol_leaf sym.Neighbor) (Pair (address_leaf a) (as_tree n)))
bgp_option_tree (bgp_options.MedMetric s) =
    nth 3 (Pair (symbol_leaf sym.Med) (Pair (symbol_leaf sym.Metric) (switch_leaf s)))
bgp_option_tree (bgp_options.InterpretCommunities s) =
    nth 4 (Pair (symbol_leaf sym.Interpret) (Pair (symbol_leaf sym.Communities) (switch_leaf s)))
bgp_option_tree (bgp_options.DefaultMed at n) = nth 5 (default_tree at attributes.BgpMed n)
bgp_option_tree (bgp_options.DefaultLocalPref at n) =
    nth 5 (default_tree at attributes.BgpLocalPref n)
bgp_option_tree (bgp_options.Transport t) = beyond 6 (transport_tree t)

abbrev pub pipe_option_tree : PipeOption → ParseTree
pipe_option_tree (pipe_options.Table name) = nth 0 (table_tree name)
pipe_option_tree (pipe_options.PeerTable name) =
    nth 1 (Pair (symbol_leaf sym.Peer) (table_tree name))
pipe_option_tree (pipe_options.Import policy) =
    nth 2 (Pair (symbol_leaf sym.Import) (policy_tree policy))
pipe_option_tree (pipe_options.Export policy) =
    beyond 3 (Pair (symbol_leaf sym.Export) (policy_tree policy))

-- ---- statements

abbrev pub separator_symbol : Separator → Symbol
separator_symbol separators.Semicolon = sym.Semicolon
separator_symbol separators.Comma = sym.Comma

abbrev pub parameter_tree : Parameter → ParseTree
parameter_tree p = Pair (type_tree p.variable_type) (name_leaf p.name)

-- a parameter behind others; there is no tree of one that nothing separates from them
abbrev pub next_parameter : ParseTree → Option Separator → Parameter → ParseTree
next_parameter t None p = NoWords
next_parameter t (Some s) p = Snoc t (Pair (symbol_leaf (separator_symbol s)) (parameter_tree p))

abbrev pub parameters_after : ParseTree → List Parameter → ParseTree
parameters_after t [] = t
parameters_after t (p ∷ ps) = parameters_after (next_parameter t p.separator p) ps

-- one or more parameters; there is no tree of a first one that something separates from others
abbrev pub first_parameter : Option Separator → Parameter → ParseTree
first_parameter None p = Single (parameter_tree p)
first_parameter (Some s) p = NoWords

abbrev pub parameters_tree : List Parameter → ParseTree
parameters_tree [] = Right NoWords
parameters_tree (p ∷ ps) = Left (parameters_after (first_parameter p.separator p) ps)

abbrev pub gives_tree : VariableType → ParseTree
gives_tree v = Pair (symbol_leaf sym.Arrow) (type_tree v)

abbrev pub function_tree : Function → ParseTree
function_tree f = Pair (symbol_leaf sym.Function) (Pair (name_leaf f.name)
    (Pair (placed_leaf f.open sym.OpenParenthesis) (Pair (parameters_tree f.parameters.items)
    (Pair (symbol_leaf sym.CloseParenthesis)
    (Pair (maybe gives_tree f.gives) (block_view f.block))))))

abbrev pub filter_tree : ℕ → Filter → ParseTree
filter_tree at f = Pair (placed_leaf at sym.Filter) (Pair (name_leaf f.name) (block_view f.block))

abbrev pub protocol_end_tree : Bool → ParseTree
protocol_end_tree semicolon = Pair (symbol_leaf sym.CloseBrace) (semicolon_tree semicolon)

abbrev pub protocol_tree : {X : Type 0} → Symbol → (X → ParseTree) → Protocol X → ParseTree
protocol_tree kind view p = Pair (placed_leaf p.at kind) (Pair (maybe name_leaf p.name)
    (Pair (symbol_leaf sym.OpenBrace)
    (Pair (ended_row view p.options.items) (protocol_end_tree p.semicolon))))

abbrev pub device_tree : Option Name → Bool → ParseTree
device_tree name semicolon = Pair (symbol_leaf sym.Device) (Pair (maybe name_leaf name)
    (Pair (symbol_leaf sym.OpenBrace) (protocol_end_tree semicolon)))

-- behind "protocol"
abbrev pub of_protocol : ParseTree → ParseTree
of_protocol t = beyond 6 (Pair (symbol_leaf sym.Protocol) t)

abbrev pub statement_tree : Statement → ParseTree
statement_tree (statements.RouterId a) = nth 0 (Pair (symbol_leaf sym.Router)
    (Pair (symbol_leaf sym.Id) (Pair (address_leaf a) semicolon_leaf)))
statement_tree statements.Log = nth 1 (Pair (symbol_leaf sym.Log) semicolon_leaf)
statement_tree (statements.Define name value) = nth 2 (Pair (symbol_leaf sym.Define)
    (Pair (name_leaf name)
    (Pair (symbol_leaf sym.Equal) (Pair (literal_tree value) semicolon_leaf))))
statement_tree (statements.Table at family name) = nth 3 (Pair (family_leaf at family)
    (Pair (symbol_leaf sym.Table) (Pair (name_leaf name) semicolon_leaf)))
statement_tree (statements.Function f) = nth 4 (function_tree f)
statement_tree (statements.Filter at f) = nth 5 (filter_tree at f)
statement_tree (statements.Device name semicolon) = of_protocol (nth 0 (device_tree name semicolon))
statement_tree (statements.Static p) =
    of_protocol (nth 1 (protocol_tree sym.Static static_option_tree p))
statement_tree (statements.Bgp p) = of_protocol (nth 2 (protocol_tree sym.Bgp bgp_option_tree p))
statement_tree (statements.Pipe p) =
    of_protocol (beyond 3 (protocol_tree sym.Pipe pipe_option_tree p))

abbrev pub statements_tree : List Statement → ParseTree
statements_tree ss = row_tree (map statement_tree ss)

abbrev pub config_view : Config → ParseTree
config_view c = statements_tree c.statements.items
