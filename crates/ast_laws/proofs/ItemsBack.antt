-- The items of sets and masks, back from their trees.
use Rattle.std.proofs.Common.{◌≡◌, Bool, true, false, List, [], ◌∷◌, ◌++◌, Option, Some, None, refl, ap, ◌∙◌}
use Rattle.conf_lex.specs.declared.symbol.Symbol.TheVariants as sym
use Rattle.conf_lex.specs.declared.word.Word.{Word}
use Rattle.conf_lex.specs.declared.word.Word.TheVariants as words
use Rattle.conf_lex.specs.Grammar.{ParseTree, Leaf, NoWords, Pair, Left, Right, Single, Snoc, Deeper}
use Rattle.conf_ast.specs.declared.filters.Num.{Num}
use Rattle.conf_ast.specs.declared.filters.Num.TheVariants as nums
use Rattle.conf_ast.specs.declared.filters.NumRange.{NumRange}
use Rattle.conf_ast.specs.declared.filters.PairPart.{PairPart}
use Rattle.conf_ast.specs.declared.filters.PairPart.TheVariants as pair_parts
use Rattle.conf_ast.specs.declared.filters.Lengths.{Lengths}
use Rattle.conf_ast.specs.declared.filters.Lengths.TheVariants as lengths
use Rattle.conf_ast.specs.declared.filters.Item.{Item}
use Rattle.conf_ast.specs.declared.filters.Item.TheVariants as items
use Rattle.conf_ast.specs.declared.filters.MaskAtom.{MaskAtom}
use Rattle.conf_ast.specs.declared.filters.MaskAtom.TheVariants as mask_atoms
use Rattle.conf_ast.specs.declared.filters.MaskItem.{MaskItem}
use Rattle.expr_syntax.specs.ItemView.{num_word, high_tree, num_range_tree, pair_part_tree, lengths_part, item_tree, items_after, items_tree, mask_atom_tree, many_tree, mask_item_tree, mask_after, mask_items_tree}
use Rattle.ast_laws.proofs.Equations.{append_nil}
use Rattle.ast_laws.proofs.WordsBack.{place_of, name_from}

-- ---- back from trees

abbrev pub num_from : Word → Num
num_from (words.Number at value) = nums.Number at value
num_from w = nums.Name (name_from w)

abbrev pub high_from : ParseTree → Option Num
high_from (Left (Pair a (Leaf w))) = Some (num_from w)
high_from _ = None

abbrev pub part_from : ParseTree → NumRange
part_from (Pair (Leaf w) high) = record { low = num_from w; high = high_from high }
part_from _ = record { low = nums.Number 0 0; high = None }

abbrev pub pair_part_from : ParseTree → PairPart
pair_part_from (Right t) = pair_parts.Range (part_from t)
pair_part_from _ = pair_parts.Any

abbrev pub lengths_from : ParseTree → Option Lengths
lengths_from (Left (Left (Leaf (words.Symbol sym.Plus)))) = Some lengths.AndLonger
lengths_from (Left (Left (Leaf (words.Symbol sym.Minus)))) = Some lengths.AndShorter
lengths_from (Left (Right (Pair (Deeper v (Pair (Leaf low) (Pair comma (Leaf high)))) c))) = Some (lengths.Between (num_from low) (num_from high))
lengths_from _ = None

abbrev pub item_from : ParseTree → Item
item_from (Left t) = items.Range (part_from t)
item_from (Right (Left (Pair (Deeper v (Pair a (Pair comma b))) c))) = items.Pair (place_of v) (pair_part_from a) (pair_part_from b)
item_from (Right (Right (Pair (Leaf (words.Prefix at net)) l))) = items.Prefix at net (lengths_from l)
item_from _ = items.Range (part_from NoWords)

-- the items of a chain, before others
abbrev pub items_from : ParseTree → List Item → List Item
items_from (Single NoWords) more = more
items_from (Single t) more = item_from t ∷ more
items_from (Snoc t (Pair comma b)) more = items_from t (item_from b ∷ more)
items_from _ more = more

abbrev pub atom_from : ParseTree → MaskAtom
atom_from (Left (Leaf (words.Symbol sym.Star))) = mask_atoms.Any
atom_from (Right t) = mask_atoms.Range (part_from t)
atom_from _ = mask_atoms.One

abbrev pub many_from : ParseTree → Bool
many_from (Left t) = true
many_from _ = false

abbrev pub mask_item_from : ParseTree → MaskItem
mask_item_from (Pair a m) = record { atom = atom_from a; many = many_from m }
mask_item_from _ = record { atom = mask_atoms.One; many = false }

abbrev pub mask_from : ParseTree → List MaskItem → List MaskItem
mask_from (Snoc t b) more = mask_from t (mask_item_from b ∷ more)
mask_from _ more = more

-- ---- each tree is of what it was made of

pub num_back : (n : Num) → num_from (num_word n) ≡ n
num_back (nums.Number at value) = refl
num_back (nums.Name n) = refl

high_back : (h : Option Num) → high_from (high_tree h) ≡ h
high_back None = refl
high_back (Some n) = ap (λ (m : Num). Some m) (num_back n)

abbrev the_part : Num → Option Num → NumRange
the_part low high = record { low = low; high = high }

part_by : (low : Num) (high : Option Num) (m : Num) (h : Option Num) → low ≡ m → high ≡ h → the_part low high ≡ the_part m h
part_by low high m h p q = ap (λ (x : Num). the_part x high) p ∙ ap (λ (x : Option Num). the_part m x) q

pub part_back : (p : NumRange) → part_from (num_range_tree p) ≡ p
part_back p = part_by _ _ p.low p.high (num_back p.low) (high_back p.high)

pair_part_back : (p : PairPart) → pair_part_from (pair_part_tree p) ≡ p
pair_part_back pair_parts.Any = refl
pair_part_back (pair_parts.Range p) = ap (λ (x : NumRange). pair_parts.Range x) (part_back p)

lengths_back : (l : Option Lengths) → lengths_from (lengths_part l) ≡ l
lengths_back None = refl
lengths_back (Some lengths.AndLonger) = refl
lengths_back (Some lengths.AndShorter) = refl
lengths_back (Some (lengths.Between a b)) = ap (λ (x : Num). Some (lengths.Between x (num_from (num_word b)))) (num_back a) ∙ ap (λ (x : Num). Some (lengths.Between a x)) (num_back b)

pub item_back : (i : Item) → item_from (item_tree i) ≡ i
item_back (items.Range p) = ap (λ (x : NumRange). items.Range x) (part_back p)
item_back (items.Pair at a b) = ap (λ (x : PairPart). items.Pair at x (pair_part_from (pair_part_tree b))) (pair_part_back a) ∙ ap (λ (x : PairPart). items.Pair at a x) (pair_part_back b)
item_back (items.Prefix at net l) = ap (λ (x : Option Lengths). items.Prefix at net x) (lengths_back l)

pub items_after_back : (t : ParseTree) (is : List Item) (more : List Item) → items_from (items_after t is) more ≡ items_from t (is ++ more)
items_after_back t [] more = refl
items_after_back t (i ∷ is) more = items_after_back _ is more ∙ ap (λ (x : Item). items_from t (x ∷ (is ++ more))) (item_back i)

start_back : (i : Item) (more : List Item) → items_from (Single (item_tree i)) more ≡ i ∷ more
start_back (items.Range p) more = ap (λ (x : Item). x ∷ more) (item_back (items.Range p))
start_back (items.Pair at a b) more = ap (λ (x : Item). x ∷ more) (item_back (items.Pair at a b))
start_back (items.Prefix at net l) more = ap (λ (x : Item). x ∷ more) (item_back (items.Prefix at net l))

pub items_back : (is : List Item) → items_from (items_tree is) [] ≡ is
items_back [] = refl
items_back (i ∷ is) = items_after_back (Single (item_tree i)) is [] ∙ start_back i (is ++ []) ∙ ap (λ (xs : List Item). i ∷ xs) (append_nil is)

atom_back : (a : MaskAtom) → atom_from (mask_atom_tree a) ≡ a
atom_back mask_atoms.One = refl
atom_back mask_atoms.Any = refl
atom_back (mask_atoms.Range p) = ap (λ (x : NumRange). mask_atoms.Range x) (part_back p)

many_back : (b : Bool) → many_from (many_tree b) ≡ b
many_back true = refl
many_back false = refl

abbrev the_mask_item : MaskAtom → Bool → MaskItem
the_mask_item atom many = record { atom = atom; many = many }

mask_item_by : (a : MaskAtom) (m : Bool) (b : MaskAtom) (n : Bool) → a ≡ b → m ≡ n → the_mask_item a m ≡ the_mask_item b n
mask_item_by a m b n p q = ap (λ (x : MaskAtom). the_mask_item x m) p ∙ ap (λ (x : Bool). the_mask_item b x) q

mask_item_back : (m : MaskItem) → mask_item_from (mask_item_tree m) ≡ m
mask_item_back m = mask_item_by _ _ m.atom m.many (atom_back m.atom) (many_back m.many)

mask_after_back : (t : ParseTree) (ms more : List MaskItem) → mask_from (mask_after t ms) more ≡ mask_from t (ms ++ more)
mask_after_back t [] more = refl
mask_after_back t (m ∷ ms) more = mask_after_back _ ms more ∙ ap (λ (x : MaskItem). mask_from t (x ∷ (ms ++ more))) (mask_item_back m)

pub mask_back : (ms : List MaskItem) → mask_from (mask_items_tree ms) [] ≡ ms
mask_back ms = mask_after_back (Single NoWords) ms [] ∙ append_nil ms

-- the items of a label behind its first
pub rest_back : (is : List Item) → items_from (items_after (Single NoWords) is) [] ≡ is
rest_back is = items_after_back (Single NoWords) is [] ∙ append_nil is
