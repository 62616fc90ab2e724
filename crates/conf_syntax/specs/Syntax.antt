-- The grammar of the configuration (`config`): a form for each production, with its line in the
-- notation of the grammar above it. A quoted word is the symbol or the attribute of that spelling;
-- `[ ]` may be left out, `{ }` is any number of times, `|` is a choice. What a log's `{ token other
-- than ";" }` and a device's balanced tokens are stands in Significant: they are taken out before.
-- Not modelled: templates and included files, tables of other nets than IPv4 and IPv6, other
-- protocols and other options than those below.
-- From: BIRD User's Guide, "Configuration" (sections "Global options", "Protocol options", "Channel
-- options"), "Protocols" (sections "BGP", "Device", "Pipe", "Static") and, for functions and
-- filters, "Filters".
-- Example: `protocol static { ipv4; route 10.0.0.0/8 blackhole; }` is a statement: a name may be
-- left out.
use Rattle.std.specs.Prelude.{Bool, ◌||◌}
use Rattle.conf_ast.specs.declared.attribute.Attribute.TheVariants as attributes
use Rattle.conf_lex.specs.declared.symbol.Symbol.{Symbol}
use Rattle.conf_lex.specs.declared.symbol.Symbol.TheVariants as sym
use Rattle.conf_lex.specs.Kind.{Kind, number, name, text, address, prefix, symbol, attribute}
use Rattle.conf_lex.specs.Grammar.{Terminal, Seq, Alt, Repeat}
use Rattle.expr_syntax.specs.Syntax.{optional, many, is_num, set, mask, expr, vtype, block}
use Rattle.expr_syntax.specs.Syntax.{semicolon}
use Rattle.expr_syntax.specs.Levels.{Form}

-- bool = "on" | "off" | "yes" | "no"
abbrev pub is_switch : Kind → Bool
is_switch k = symbol sym.On k || symbol sym.Off k || symbol sym.Yes k || symbol sym.No k

-- "ipv4" | "ipv6"
abbrev pub is_family : Kind → Bool
is_family k = symbol sym.Ipv4 k || symbol sym.Ipv6 k

-- ---- policies and channels

-- "filter" NAME | "filter" block
abbrev pub filter_policy : Form
filter_policy = Seq (Terminal (symbol sym.Filter)) (Alt (Terminal name) block)

-- "where" expr
abbrev pub where_policy : Form
where_policy = Seq (Terminal (symbol sym.Where)) expr

-- policy = "all" | "none" | "filter" NAME | "filter" block | "where" expr
abbrev pub policy : Form
policy =
    Alt (Terminal (λ k. symbol sym.All k || symbol sym.None k)) (Alt filter_policy where_policy)

-- "table" NAME
abbrev pub table_option : Form
table_option = Seq (Terminal (symbol sym.Table)) (Terminal name)

-- "export" policy
abbrev pub export_option : Form
export_option = Seq (Terminal (symbol sym.Export)) policy

-- "preference" num
abbrev pub preference : Form
preference = Seq (Terminal (attribute attributes.Preference)) (Terminal is_num)

-- "warn" | "block" | "disable"
abbrev pub is_action : Kind → Bool
is_action k = symbol sym.Warn k || symbol sym.Block k || symbol sym.Disable k

-- "action" ("warn" | "block" | "disable")
abbrev pub action : Form
action = Seq (Terminal (symbol sym.Action)) (Terminal is_action)

-- "limit" ( num [ "action" ("warn" | "block" | "disable") ] | "off" )
abbrev pub limit : Form
limit = Seq (Terminal (symbol sym.Limit))
    (Alt (Terminal (symbol sym.Off)) (Seq (Terminal is_num) (optional action)))

-- "import" policy | "import" "limit" ( num [ "action" ("warn" | "block" | "disable") ] | "off" )
abbrev pub import_option : Form
import_option = Seq (Terminal (symbol sym.Import)) (Alt limit policy)

-- "self" | "keep"
abbrev pub is_hop : Kind → Bool
is_hop k = symbol sym.SelfWord k || symbol sym.Keep k

-- "next" "hop" ("self" | "keep")
abbrev pub next_hop : Form
next_hop = Seq (Terminal (symbol sym.Next)) (Seq (Terminal (symbol sym.Hop)) (Terminal is_hop))

-- citem = "table" NAME | "import" policy | "export" policy | "preference" num
--   | "import" "limit" ( num [ "action" ("warn" | "block" | "disable") ] | "off" )
--   | "next" "hop" ("self" | "keep")
abbrev pub channel_option : Form
channel_option =
    Alt table_option (Alt import_option (Alt export_option (Alt preference next_hop)))

-- { item ";" }
abbrev pub ended_options : Form → Form
ended_options item = many (Seq item semicolon)

-- "{" { citem ";" } "}"
abbrev pub channel_options : Form
channel_options = Seq (Terminal (symbol sym.OpenBrace))
    (Seq (ended_options channel_option) (Terminal (symbol sym.CloseBrace)))

-- chan = ("ipv4" | "ipv6") [ "{" { citem ";" } "}" ]
abbrev pub channel : Form
channel = Seq (Terminal is_family) (optional channel_options)

-- ---- the options of protocols

-- "via" IP | "blackhole" | "unreachable" | "prohibit"
abbrev pub route_target : Form
route_target = Alt (Seq (Terminal (symbol sym.Via)) (Terminal address))
    (Terminal (λ k. symbol sym.Blackhole k || symbol sym.Unreachable k || symbol sym.Prohibit k))

-- "route" prefix ( "via" IP | "blackhole" | "unreachable" | "prohibit" )
abbrev pub route : Form
route = Seq (Terminal (symbol sym.Route)) (Seq (Terminal prefix) route_target)

-- sitem = chan | "route" prefix ( "via" IP | "blackhole" | "unreachable" | "prohibit" )
abbrev pub static_option : Form
static_option = Alt channel route

-- "local" [ IP ] "as" num
abbrev pub local : Form
local = Seq (Terminal (symbol sym.Local))
    (Seq (optional (Terminal address)) (Seq (Terminal (symbol sym.As)) (Terminal is_num)))

-- "neighbor" IP "as" num
abbrev pub neighbor : Form
neighbor =
    Seq (Terminal (symbol sym.Neighbor)) (Seq (Terminal address)
    (Seq (Terminal (symbol sym.As)) (Terminal is_num)))

-- "med" "metric" bool
abbrev pub med_metric : Form
med_metric =
    Seq (Terminal (symbol sym.Med)) (Seq (Terminal (symbol sym.Metric)) (Terminal is_switch))

-- "interpret" "communities" bool
abbrev pub interpret : Form
interpret = Seq (Terminal (symbol sym.Interpret))
    (Seq (Terminal (symbol sym.Communities)) (Terminal is_switch))

-- "bgp_med" | "bgp_local_pref"
abbrev pub is_default : Kind → Bool
is_default k = attribute attributes.BgpMed k || attribute attributes.BgpLocalPref k

-- "default" "bgp_med" num | "default" "bgp_local_pref" num
abbrev pub default_value : Form
default_value = Seq (Terminal (symbol sym.Default))
    (Seq (Terminal is_default) (Terminal is_num))

-- "description" STRING | "password" STRING
abbrev pub described : Form
described = Seq (Terminal (λ k. symbol sym.Description k || symbol sym.Password k)) (Terminal text)

-- "source" "address" IP
abbrev pub source_address : Form
source_address =
    Seq (Terminal (attribute attributes.Source))
    (Seq (Terminal (symbol sym.Address)) (Terminal address))

-- "hold" "time" num | "keepalive" "time" num
abbrev pub timed : Form
timed = Seq (Terminal (λ k. symbol sym.Hold k || symbol sym.Keepalive k))
    (Seq (Terminal (symbol sym.Time)) (Terminal is_num))

-- "connect" "retry" "time" num
abbrev pub connect_retry : Form
connect_retry = Seq (Terminal (symbol sym.Connect)) (Seq (Terminal (symbol sym.Retry))
    (Seq (Terminal (symbol sym.Time)) (Terminal is_num)))

-- "multihop" [ num ]
abbrev pub multihop : Form
multihop = Seq (Terminal (symbol sym.Multihop)) (optional (Terminal is_num))

-- "passive" [ bool ]
abbrev pub passive : Form
passive = Seq (Terminal (symbol sym.Passive)) (optional (Terminal is_switch))

-- "description" STRING | "password" STRING | "source" "address" IP | "hold" "time" num
--   | "keepalive" "time" num | "connect" "retry" "time" num | "multihop" [ num ] | "direct"
--   | "passive" [ bool ]
abbrev pub transport : Form
transport = Alt described (Alt source_address (Alt timed (Alt connect_retry
    (Alt multihop (Alt (Terminal (symbol sym.Direct)) passive)))))

-- bitem = chan | "local" [ IP ] "as" num | "neighbor" IP "as" num | "med" "metric" bool
--   | "interpret" "communities" bool | "default" "bgp_med" num | "default" "bgp_local_pref" num
--   | "description" STRING | "password" STRING | "source" "address" IP | "hold" "time" num
--   | "keepalive" "time" num | "connect" "retry" "time" num | "multihop" [ num ] | "direct"
--   | "passive" [ bool ]
abbrev pub bgp_option : Form
bgp_option = Alt channel (Alt local (Alt neighbor (Alt med_metric (Alt interpret
    (Alt default_value transport)))))

-- "peer" "table" NAME
abbrev pub peer_table : Form
peer_table = Seq (Terminal (symbol sym.Peer)) table_option

-- "import" policy
abbrev pub pipe_import : Form
pipe_import = Seq (Terminal (symbol sym.Import)) policy

-- pitem = "table" NAME | "peer" "table" NAME | "import" policy | "export" policy
abbrev pub pipe_option : Form
pipe_option = Alt table_option (Alt peer_table (Alt pipe_import export_option))

-- ---- statements

-- "router" "id" IP ";"
abbrev pub router_id : Form
router_id = Seq (Terminal (symbol sym.Router))
    (Seq (Terminal (symbol sym.Id)) (Seq (Terminal address) semicolon))

-- "log" { token other than ";" } ";", whose tokens are taken out
abbrev pub log : Form
log = Seq (Terminal (symbol sym.Log)) semicolon

-- "(" num "," num ")"
abbrev pub pair : Form
pair = Seq (Terminal (symbol sym.OpenParenthesis))
    (Seq (Terminal is_num) (Seq (Terminal (symbol sym.Comma))
    (Seq (Terminal is_num) (Terminal (symbol sym.CloseParenthesis)))))

-- NUMBER | "true" | "false" | STRING | IP | prefix | NAME of a constant
abbrev pub is_value : Kind → Bool
is_value k =
    number k || symbol sym.True k || symbol sym.False k || text k || address k || prefix k || name k

-- literal = NUMBER | "true" | "false" | STRING | IP | prefix | "(" num "," num ")"
--   | "[" item { "," item } "]" | "[=" { mitem } "=]" | NAME of a constant
abbrev pub literal : Form
literal = Alt (Terminal is_value) (Alt pair (Alt set mask))

-- "define" NAME "=" literal ";"
abbrev pub define : Form
define = Seq (Terminal (symbol sym.Define))
    (Seq (Terminal name) (Seq (Terminal (symbol sym.Equal)) (Seq literal semicolon)))

-- ("ipv4" | "ipv6") "table" NAME ";"
abbrev pub table : Form
table = Seq (Terminal is_family) (Seq (Terminal (symbol sym.Table)) (Seq (Terminal name) semicolon))

-- param = vtype NAME
abbrev pub parameter : Form
parameter = Seq vtype (Terminal name)

-- ";" | ","
abbrev pub is_separator : Kind → Bool
is_separator k = symbol sym.Semicolon k || symbol sym.Comma k

-- param { (";" | ",") param }
abbrev pub parameters : Form
parameters = Repeat parameter (Seq (Terminal is_separator) parameter)

-- "->" vtype
abbrev pub gives : Form
gives = Seq (Terminal (symbol sym.Arrow)) vtype

-- "function" NAME "(" [ param { (";" | ",") param } ] ")" [ "->" vtype ] block
abbrev pub function : Form
function = Seq (Terminal (symbol sym.Function))
    (Seq (Terminal name) (Seq (Terminal (symbol sym.OpenParenthesis))
    (Seq (optional parameters)
    (Seq (Terminal (symbol sym.CloseParenthesis)) (Seq (optional gives) block)))))

-- "filter" NAME block
abbrev pub filter : Form
filter = Seq (Terminal (symbol sym.Filter)) (Seq (Terminal name) block)

-- "}" [ ";" ]
abbrev pub protocol_end : Form
protocol_end = Seq (Terminal (symbol sym.CloseBrace)) (optional semicolon)

-- KIND [ NAME ] "{" { item ";" } "}" [ ";" ]
abbrev pub protocol_of : Symbol → Form → Form
protocol_of kind item = Seq (Terminal (symbol kind)) (Seq (optional (Terminal name))
    (Seq (Terminal (symbol sym.OpenBrace)) (Seq (ended_options item) protocol_end)))

-- "device" [ NAME ] "{" balanced tokens "}" [ ";" ], whose tokens are taken out
abbrev pub device : Form
device = Seq (Terminal (symbol sym.Device)) (Seq (optional (Terminal name))
    (Seq (Terminal (symbol sym.OpenBrace)) protocol_end))

-- "protocol" "device" [ NAME ] "{" balanced tokens "}" [ ";" ]
--   | "protocol" "static" [ NAME ] "{" { sitem ";" } "}" [ ";" ]
--   | "protocol" "bgp" [ NAME ] "{" { bitem ";" } "}" [ ";" ]
--   | "protocol" "pipe" [ NAME ] "{" { pitem ";" } "}" [ ";" ]
abbrev pub protocol : Form
protocol =
    Seq (Terminal (symbol sym.Protocol)) (Alt device (Alt (protocol_of sym.Static static_option)
    (Alt (protocol_of sym.Bgp bgp_option) (protocol_of sym.Pipe pipe_option))))

-- statement = "router" "id" IP ";" | "log" { token other than ";" } ";"
--   | "define" NAME "=" literal ";" | ("ipv4" | "ipv6") "table" NAME ";"
--   | "function" NAME "(" [ param { (";" | ",") param } ] ")" [ "->" vtype ] block
--   | "filter" NAME block | "protocol" "device" .. | "protocol" "static" .. | "protocol" "bgp" ..
--   | "protocol" "pipe" ..
abbrev pub statement : Form
statement = Alt router_id (Alt log (Alt define (Alt table (Alt function
    (Alt filter protocol)))))

-- config = { statement }
abbrev pub config : Form
config = many statement
