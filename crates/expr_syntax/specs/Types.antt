-- The tree of the grammar that a type of variables stands for (`type_tree`).
-- Not modelled: which values are of it.
-- From: own; the forms are of BIRD User's Guide, "Filters", "Data types".
-- Example: `int set` is the second alternative of `vtype`, with what may be left out.
use Rattle.conf_lex.specs.declared.symbol.Symbol.{Symbol}
use Rattle.conf_lex.specs.declared.symbol.Symbol.TheVariants as sym
use Rattle.conf_lex.specs.Grammar.{ParseTree, NoWords, Pair, Left, Right}
use Rattle.conf_lex.specs.Leaves.{symbol_leaf}
use Rattle.conf_ast.specs.declared.filters.VariableType.{VariableType}
use Rattle.conf_ast.specs.declared.filters.VariableType.TheVariants as types
use Rattle.expr_syntax.specs.declared.variable_type.Member.{Member}
use Rattle.expr_syntax.specs.declared.variable_type.Member.TheVariants as members

abbrev pub plain_type : Symbol → ParseTree
plain_type s = Left (symbol_leaf s)

-- a type of which there are sets, and the type of its sets
abbrev pub member_type : Symbol → ParseTree
member_type s = Right (Pair (symbol_leaf s) (Right NoWords))

abbrev pub set_type : Symbol → ParseTree
set_type s = Right (Pair (symbol_leaf s) (Left (symbol_leaf sym.Set)))

abbrev pub type_tree : VariableType → ParseTree
type_tree types.Int = member_type sym.Int
type_tree types.Bool = plain_type sym.Bool
type_tree types.Ip = plain_type sym.Ip
type_tree types.Prefix = member_type sym.Prefix
type_tree types.Pair = member_type sym.Pair
type_tree types.String = plain_type sym.String
type_tree types.Path = plain_type sym.PathType
type_tree types.Mask = plain_type sym.MaskType
type_tree types.Clist = plain_type sym.Clist
type_tree types.IntSet = set_type sym.Int
type_tree types.PairSet = set_type sym.Pair
type_tree types.PrefixSet = set_type sym.Prefix

abbrev pub member_symbol : Member → Symbol
member_symbol members.Int = sym.Int
member_symbol members.Pair = sym.Pair
member_symbol members.Prefix = sym.Prefix
