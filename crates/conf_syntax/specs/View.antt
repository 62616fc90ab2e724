-- The trees of the grammar that parts of a configuration stand for: words, values, what limits a
-- channel, where a route leads to, and the options of a session's transport.
-- Not modelled: what they mean (conf_ast has them as plain data).
-- From: own; the forms are those of Syntax.
-- Example: `hold time 90` is the third alternative of `transport`.
use Rattle.std.specs.Prelude.{ℕ, Bool, true, false, List, Option, Some, None, map}
use Rattle.bits_ip.specs.declared.address.Family.{Family}
use Rattle.bits_ip.specs.declared.address.Family.TheVariants as families
use Rattle.conf_ast.specs.declared.attribute.Attribute.{Attribute}
use Rattle.conf_ast.specs.declared.attribute.Attribute.TheVariants as attributes
use Rattle.conf_lex.specs.declared.symbol.Symbol.{Symbol}
use Rattle.conf_lex.specs.declared.symbol.Symbol.TheVariants as sym
use Rattle.conf_lex.specs.declared.word.Word.{Word}
use Rattle.conf_lex.specs.declared.word.Word.TheVariants as words
use Rattle.conf_lex.specs.Grammar.{ParseTree, Leaf, NoWords, Pair, Left, Right}
use Rattle.conf_lex.specs.Leaves.{symbol_leaf, between}
use Rattle.conf_ast.specs.declared.filters.Num.{Num}
use Rattle.expr_syntax.specs.ItemView.{num_tree, items_tree, mask_items_tree}
use Rattle.expr_syntax.specs.Rows.{semicolon_leaf, nth, beyond, row_tree}
use Rattle.conf_ast.specs.declared.configurations.Action.{Action}
use Rattle.conf_ast.specs.declared.configurations.Action.TheVariants as actions
use Rattle.conf_ast.specs.declared.configurations.Address.{Address}
use Rattle.conf_ast.specs.declared.configurations.Limit.{Limit}
use Rattle.conf_ast.specs.declared.configurations.Limit.TheVariants as limits
use Rattle.conf_ast.specs.declared.configurations.Literal.{Literal}
use Rattle.conf_ast.specs.declared.configurations.Literal.TheVariants as literals
use Rattle.conf_ast.specs.declared.configurations.NextHop.{NextHop}
use Rattle.conf_ast.specs.declared.configurations.NextHop.TheVariants as hops
use Rattle.conf_ast.specs.declared.configurations.StringLiteral.{StringLiteral}
use Rattle.conf_ast.specs.declared.configurations.RouteTarget.{RouteTarget}
use Rattle.conf_ast.specs.declared.configurations.RouteTarget.TheVariants as targets
use Rattle.conf_ast.specs.declared.configurations.Switch.{Switch}
use Rattle.conf_ast.specs.declared.configurations.Switch.TheVariants as switches
use Rattle.conf_ast.specs.declared.configurations.Transport.{Transport}
use Rattle.conf_ast.specs.declared.configurations.Transport.TheVariants as transports

abbrev pub placed_leaf : ℕ → Symbol → ParseTree
placed_leaf at s = Leaf (words.Placed at s)

abbrev pub attribute_leaf : ℕ → Attribute → ParseTree
attribute_leaf at a = Leaf (words.Attribute at a)

abbrev pub address_leaf : Address → ParseTree
address_leaf a = Leaf (words.Ip a.at a.addr)

abbrev pub text_leaf : StringLiteral → ParseTree
text_leaf q = Leaf (words.Text q.at q.start q.len)

abbrev pub switch_symbol : Switch → Symbol
switch_symbol switches.On = sym.On
switch_symbol switches.Yes = sym.Yes
switch_symbol switches.Off = sym.Off
switch_symbol switches.No = sym.No

abbrev pub switch_leaf : Switch → ParseTree
switch_leaf s = symbol_leaf (switch_symbol s)

abbrev pub family_symbol : Family → Symbol
family_symbol families.V4 = sym.Ipv4
family_symbol families.V6 = sym.Ipv6

abbrev pub family_leaf : ℕ → Family → ParseTree
family_leaf at family = placed_leaf at (family_symbol family)

-- what may be left out
abbrev pub maybe : {X : Type 0} → (X → ParseTree) → Option X → ParseTree
maybe view None = Right NoWords
maybe view (Some x) = Left (view x)

abbrev pub action_symbol : Action → Symbol
action_symbol actions.Warn = sym.Warn
action_symbol actions.Block = sym.Block
action_symbol actions.Disable = sym.Disable

abbrev pub action_tree : Action → ParseTree
action_tree a = Pair (symbol_leaf sym.Action) (symbol_leaf (action_symbol a))

-- behind "limit"
abbrev pub limit_tree : Limit → ParseTree
limit_tree limits.Off = Left (symbol_leaf sym.Off)
limit_tree (limits.Count n a) = Right (Pair (num_tree n) (maybe action_tree a))

abbrev pub hop_symbol : NextHop → Symbol
hop_symbol hops.Own = sym.SelfWord
hop_symbol hops.Keep = sym.Keep

abbrev pub ended_tree : ParseTree → ParseTree
ended_tree t = Pair t semicolon_leaf

-- options, each with its semicolon
abbrev pub ended_row : {X : Type 0} → (X → ParseTree) → List X → ParseTree
ended_row view options = row_tree (map (λ o. ended_tree (view o)) options)

abbrev pub target_tree : RouteTarget → ParseTree
target_tree (targets.Via a) = Left (Pair (symbol_leaf sym.Via) (address_leaf a))
target_tree targets.Blackhole = Right (symbol_leaf sym.Blackhole)
target_tree targets.Unreachable = Right (symbol_leaf sym.Unreachable)
target_tree targets.Prohibit = Right (symbol_leaf sym.Prohibit)

-- "as" num
abbrev pub as_tree : Num → ParseTree
as_tree n = Pair (symbol_leaf sym.As) (num_tree n)

-- "time" num
abbrev pub time_tree : Num → ParseTree
time_tree n = Pair (symbol_leaf sym.Time) (num_tree n)

abbrev pub transport_tree : Transport → ParseTree
transport_tree (transports.Description q) = nth 0 (Pair (symbol_leaf sym.Description) (text_leaf q))
transport_tree (transports.Password q) = nth 0 (Pair (symbol_leaf sym.Password) (text_leaf q))
transport_tree (transports.SourceAddress at a) =
    nth 1 (Pair (attribute_leaf at attributes.Source)
    (Pair (symbol_leaf sym.Address) (address_leaf a)))
transport_tree (transports.HoldTime n) = nth 2 (Pair (symbol_leaf sym.Hold) (time_tree n))
transport_tree (transports.KeepaliveTime n) = nth 2 (Pair (symbol_leaf sym.Keepalive) (time_tree n))
transport_tree (transports.ConnectRetryTime n) =
    nth 3 (Pair (symbol_leaf sym.Connect) (Pair (symbol_leaf sym.Retry) (time_tree n)))
transport_tree (transports.Multihop n) = nth 4 (Pair (symbol_leaf sym.Multihop) (maybe num_tree n))
transport_tree transports.Direct = nth 5 (symbol_leaf sym.Direct)
transport_tree (transports.Passive s) =
    beyond 6 (Pair (symbol_leaf sym.Passive) (maybe switch_leaf s))

-- a word that is a value
abbrev pub value_tree : Word → ParseTree
value_tree w = nth 0 (Leaf w)

abbrev pub pair_tree : ℕ → Num → Num → ParseTree
pair_tree at a b = Pair (placed_leaf at sym.OpenParenthesis)
    (Pair (num_tree a) (Pair (symbol_leaf sym.Comma)
    (Pair (num_tree b) (symbol_leaf sym.CloseParenthesis))))

abbrev pub literal_tree : Literal → ParseTree
literal_tree (literals.Number at value) = value_tree (words.Number at value)
literal_tree (literals.Text q) = value_tree (words.Text q.at q.start q.len)
literal_tree (literals.Ip a) = value_tree (words.Ip a.at a.addr)
literal_tree (literals.Prefix at net) = value_tree (words.Prefix at net)
literal_tree (literals.True at) = value_tree (words.Placed at sym.True)
literal_tree (literals.False at) = value_tree (words.Placed at sym.False)
literal_tree (literals.Name name) = value_tree (words.Name name.at name.start name.len)
literal_tree (literals.Pair at a b) = nth 1 (pair_tree at a b)
literal_tree (literals.Set at items) =
    nth 2 (between (words.Placed at sym.OpenBracket) (items_tree items.items) sym.CloseBracket)
literal_tree (literals.Mask at items) =
    beyond 3 (Pair (Pair (placed_leaf at sym.OpenMask) (mask_items_tree items.items))
    (symbol_leaf sym.CloseMask))

-- a semicolon, or nothing
abbrev pub semicolon_tree : Bool → ParseTree
semicolon_tree true = Left semicolon_leaf
semicolon_tree false = Right NoWords
