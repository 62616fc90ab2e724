-- Types of variables, back from their trees.
use Rattle.std.proofs.Common.{◌≡◌, refl}
use Rattle.conf_lex.specs.declared.symbol.Symbol.TheVariants as sym
use Rattle.conf_lex.specs.declared.word.Word.TheVariants as words
use Rattle.conf_lex.specs.Grammar.{ParseTree, Leaf, Pair, Left, Right}
use Rattle.conf_ast.specs.declared.filters.VariableType.{VariableType}
use Rattle.conf_ast.specs.declared.filters.VariableType.TheVariants as types
use Rattle.expr_syntax.specs.Types.{type_tree}

abbrev pub type_from : ParseTree → VariableType
type_from (Left (Leaf (words.Symbol sym.Bool))) = types.Bool
type_from (Left (Leaf (words.Symbol sym.Ip))) = types.Ip
type_from (Right (Pair (Leaf (words.Symbol sym.Prefix)) (Right b))) = types.Prefix
type_from (Right (Pair (Leaf (words.Symbol sym.Pair)) (Right b))) = types.Pair
type_from (Left (Leaf (words.Symbol sym.String))) = types.String
type_from (Left (Leaf (words.Symbol sym.PathType))) = types.Path
type_from (Left (Leaf (words.Symbol sym.MaskType))) = types.Mask
type_from (Left (Leaf (words.Symbol sym.Clist))) = types.Clist
type_from (Right (Pair (Leaf (words.Symbol sym.Int)) (Left b))) = types.IntSet
type_from (Right (Pair (Leaf (words.Symbol sym.Pair)) (Left b))) = types.PairSet
type_from (Right (Pair (Leaf (words.Symbol sym.Prefix)) (Left b))) = types.PrefixSet
type_from _ = types.Int

pub type_back : (v : VariableType) → type_from (type_tree v) ≡ v
type_back types.Int = refl
type_back types.Bool = refl
type_back types.Ip = refl
type_back types.Prefix = refl
type_back types.Pair = refl
type_back types.String = refl
type_back types.Path = refl
type_back types.Mask = refl
type_back types.Clist = refl
type_back types.IntSet = refl
type_back types.PairSet = refl
type_back types.PrefixSet = refl
