-- The trees of the grammar that the items of sets, of labels and of masks stand for.
-- Not modelled: which values an item takes in (filt_sets).
-- From: own; the forms are of BIRD User's Guide, "Filters": "Data types", and "Control structures"
-- for labels.
-- Example: `1..2` is a number with two dots and a number behind it.
use Rattle.std.specs.Prelude.{Bool, true, false, List, [], ◌∷◌, Option, Some, None}
use Rattle.conf_lex.specs.declared.symbol.Symbol.TheVariants as sym
use Rattle.conf_lex.specs.declared.word.Word.{Word}
use Rattle.conf_lex.specs.declared.word.Word.TheVariants as words
use Rattle.conf_lex.specs.Grammar.{ParseTree, Leaf, NoWords, Pair, Left, Right, Single, Snoc}
use Rattle.conf_lex.specs.Leaves.{symbol_leaf, between}
use Rattle.conf_ast.specs.declared.filters.Num.{Num}
use Rattle.conf_ast.specs.declared.filters.Num.TheVariants as nums
use Rattle.conf_ast.specs.declared.filters.NumRange.{NumRange}
use Rattle.conf_ast.specs.declared.filters.PairPart.{PairPart}
use Rattle.conf_ast.specs.declared.filters.PairPart.TheVariants as pair_parts
use Rattle.conf_ast.specs.declared.filters.Lengths.{Lengths}
use Rattle.conf_ast.specs.declared.filters.Lengths.TheVariants as lengths
use Rattle.conf_ast.specs.declared.filters.Item.{Item}
use Rattle.conf_ast.specs.declared.filters.Item.TheVariants as items
use Rattle.conf_ast.specs.declared.filters.MaskAtom.{MaskAtom}
use Rattle.conf_ast.specs.declared.filters.MaskAtom.TheVariants as mask_atoms
use Rattle.conf_ast.specs.declared.filters.MaskItem.{MaskItem}

abbrev pub num_word : Num → Word
num_word (nums.Number at value) = words.Number at value
num_word (nums.Name n) = words.Name n.at n.start n.len

abbrev pub num_tree : Num → ParseTree
num_tree n = Leaf (num_word n)

-- ".." and a number, or neither
abbrev pub high_tree : Option Num → ParseTree
high_tree None = Right NoWords
high_tree (Some n) = Left (Pair (symbol_leaf sym.Range) (num_tree n))

abbrev pub num_range_tree : NumRange → ParseTree
num_range_tree p = Pair (num_tree p.low) (high_tree p.high)

abbrev pub pair_part_tree : PairPart → ParseTree
pair_part_tree pair_parts.Any = Left (symbol_leaf sym.Star)
pair_part_tree (pair_parts.Range p) = Right (num_range_tree p)

-- two trees, and a comma between them
abbrev pub with_comma : ParseTree → ParseTree → ParseTree
with_comma a b = Pair a (Pair (symbol_leaf sym.Comma) b)

abbrev pub lengths_tree : Lengths → ParseTree
lengths_tree lengths.AndLonger = Left (symbol_leaf sym.Plus)
lengths_tree lengths.AndShorter = Left (symbol_leaf sym.Minus)
lengths_tree (lengths.Between low high) =
    Right (between (words.Symbol sym.OpenBrace) (with_comma (num_tree low) (num_tree high))
    sym.CloseBrace)

abbrev pub lengths_part : Option Lengths → ParseTree
lengths_part None = Right NoWords
lengths_part (Some l) = Left (lengths_tree l)

abbrev pub item_tree : Item → ParseTree
item_tree (items.Range p) = Left (num_range_tree p)
item_tree (items.Pair at a b) = Right (Left (between (words.Placed at sym.OpenParenthesis)
    (with_comma (pair_part_tree a) (pair_part_tree b)) sym.CloseParenthesis))
item_tree (items.Prefix at net l) =
    Right (Right (Pair (Leaf (words.Prefix at net)) (lengths_part l)))

-- items after a tree, each behind a comma
abbrev pub items_after : ParseTree → List Item → ParseTree
items_after t [] = t
items_after t (i ∷ is) = items_after (Snoc t (Pair (symbol_leaf sym.Comma) (item_tree i))) is

-- one or more; there is no tree of none
abbrev pub items_tree : List Item → ParseTree
items_tree [] = NoWords
items_tree (i ∷ is) = items_after (Single (item_tree i)) is

abbrev pub mask_atom_tree : MaskAtom → ParseTree
mask_atom_tree mask_atoms.One = Left (symbol_leaf sym.Question)
mask_atom_tree mask_atoms.Any = Left (symbol_leaf sym.Star)
mask_atom_tree (mask_atoms.Range p) = Right (num_range_tree p)

-- a "+", or nothing
abbrev pub many_tree : Bool → ParseTree
many_tree true = Left (symbol_leaf sym.Plus)
many_tree false = Right NoWords

abbrev pub mask_item_tree : MaskItem → ParseTree
mask_item_tree m = Pair (mask_atom_tree m.atom) (many_tree m.many)

-- elements of a mask after a tree
abbrev pub mask_after : ParseTree → List MaskItem → ParseTree
mask_after t [] = t
mask_after t (m ∷ ms) = mask_after (Snoc t (mask_item_tree m)) ms

-- what stands between "[=" and "=]"
abbrev pub mask_items_tree : List MaskItem → ParseTree
mask_items_tree ms = mask_after (Single NoWords) ms

-- the items of a label behind its first, and its colon
abbrev pub label_end_tree : List Item → ParseTree
label_end_tree is = Pair (items_after (Single NoWords) is) (symbol_leaf sym.Colon)

-- one or more items and a colon; there is no tree of none
abbrev pub label_tree : List Item → ParseTree
label_tree [] = NoWords
label_tree (i ∷ is) = Pair (item_tree i) (label_end_tree is)
