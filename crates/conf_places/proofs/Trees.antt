-- What holds of the places of a tree's words, and of the places of the items that have trees.
use Rattle.std.proofs.Common.{ℕ, List, [], ◌∷◌, ◌++◌, Option, Some, None, map}
use Rattle.std.specs.Bool.{⊤}
use Rattle.conf_lex.specs.declared.symbol.Symbol.TheVariants as sym
use Rattle.conf_lex.specs.declared.word.Word.{Word}
use Rattle.conf_lex.specs.declared.word.Word.TheVariants as words
use Rattle.conf_lex.specs.Grammar.{Epsilon, Repeat, ParseTree, Leaf, NoWords, Pair, Left, Right, Single, Snoc, Deeper, DerivesLongest, yield}
use Rattle.conf_lex.specs.Leaves.{symbol_leaf}
use Rattle.conf_ast.specs.declared.filters.Item.{Item}
use Rattle.conf_ast.specs.declared.filters.Item.TheVariants as items
use Rattle.conf_ast.specs.declared.filters.Lengths.{Lengths}
use Rattle.conf_ast.specs.declared.filters.Lengths.TheVariants as lengths
use Rattle.conf_ast.specs.declared.filters.MaskAtom.{MaskAtom}
use Rattle.conf_ast.specs.declared.filters.MaskAtom.TheVariants as mask_atoms
use Rattle.conf_ast.specs.declared.filters.MaskItem.{MaskItem}
use Rattle.conf_ast.specs.declared.filters.Num.{Num}
use Rattle.conf_ast.specs.declared.filters.Num.TheVariants as nums
use Rattle.conf_ast.specs.declared.filters.PairPart.{PairPart}
use Rattle.conf_ast.specs.declared.filters.PairPart.TheVariants as pair_parts
use Rattle.conf_ast.specs.declared.filters.NumRange.{NumRange}
use Rattle.conf_ast.specs.declared.filters.Atom.{Atom}
use Rattle.conf_ast.specs.declared.filters.Atom.TheVariants as atoms
use Rattle.expr_syntax.specs.Syntax.{rule}
use Rattle.expr_syntax.specs.Levels.{Form}
use Rattle.expr_syntax.specs.ItemView.{num_tree, high_tree, num_range_tree, pair_part_tree, lengths_part, item_tree, items_after, items_tree, mask_atom_tree, mask_item_tree, mask_after, mask_items_tree}
use Rattle.expr_syntax.specs.Rows.{row_after}
use Rattle.expr_syntax.specs.View.{atom_word}
use Rattle.conf_places.specs.Filters.{of_num, of_optional_num, of_part, of_pair_part, of_lengths, of_item, of_items, of_atom, of_mask, of_simple}
use Rattle.conf_places.specs.Configurations.{of_each}
use Rattle.conf_places.specs.Words.{of_word, of_words}
use Rattle.conf_places.proofs.Every.{Every, join, left, right}

-- it holds of the word's place, where it carries one
abbrev pub At : (ℕ → Type 0) → Word → Type 0
At P (words.Name at start len) = P at
At P (words.Number at value) = P at
At P (words.Text at start len) = P at
At P (words.Ip at addr) = P at
At P (words.Prefix at net) = P at
At P (words.BadPrefix at) = P at
At P (words.Attribute at a) = P at
At P (words.Constant at c) = P at
At P (words.Symbol s) = ⊤
At P (words.Placed at s) = P at

-- it holds of the places of all words of a tree
abbrev pub On : (ℕ → Type 0) → ParseTree → Type 0
On P (Leaf w) = At P w
On P NoWords = ⊤
On P (Pair a b) = On P a × On P b
On P (Left a) = On P a
On P (Right b) = On P b
On P (Single a) = On P a
On P (Snoc t b) = On P t × On P b
On P (Deeper w t) = At P w × On P t

-- The tree fits a form, it holds of its words, and something holds of what stands behind it.
pub record Before (P : ℕ → Type 0) (t : ParseTree) (f : Form) (R : Type 0) : Type 0 where
  pub fits : DerivesLongest rule t f
  pub on : On P t
  pub rest : R

module _ (P : ℕ → Type 0) where
  -- ---- words

  word_at : (w : Word) → Every P (of_word w) → At P w
  word_at (words.Name at start len) h = h.0
  word_at (words.Number at value) h = h.0
  word_at (words.Text at start len) h = h.0
  word_at (words.Ip at addr) h = h.0
  word_at (words.Prefix at net) h = h.0
  word_at (words.BadPrefix at) h = h.0
  word_at (words.Attribute at a) h = h.0
  word_at (words.Constant at c) h = h.0
  word_at (words.Symbol s) h = tt
  word_at (words.Placed at s) h = h.0

  words_left : (vs ws : List Word) → Every P (of_words (vs ++ ws)) → Every P (of_words vs)
  words_left [] ws h = tt
  words_left (v ∷ vs) ws h = join P (of_word v) (of_words vs) (left P (of_word v) (of_words (vs ++ ws)) h) (words_left vs ws (right P (of_word v) (of_words (vs ++ ws)) h))

  words_right : (vs ws : List Word) → Every P (of_words (vs ++ ws)) → Every P (of_words ws)
  words_right [] ws h = h
  words_right (v ∷ vs) ws h = words_right vs ws (right P (of_word v) (of_words (vs ++ ws)) h)

  pub on_tree : (t : ParseTree) → Every P (of_words (yield t)) → On P t
  on_tree (Leaf w) h = word_at w (left P (of_word w) [] h)
  on_tree NoWords h = tt
  on_tree (Pair a b) h = (on_tree a (words_left (yield a) (yield b) h), on_tree b (words_right (yield a) (yield b) h))
  on_tree (Left a) h = on_tree a h
  on_tree (Right b) h = on_tree b h
  on_tree (Single a) h = on_tree a h
  on_tree (Snoc t b) h = (on_tree t (words_left (yield t) (yield b) h), on_tree b (words_right (yield t) (yield b) h))
  on_tree (Deeper w t) h = (word_at w (left P (of_word w) (of_words (yield t)) h), on_tree t (right P (of_word w) (of_words (yield t)) h))

  -- ---- items

  pub num_on : (n : Num) → On P (num_tree n) → P (of_num n)
  num_on (nums.Number at value) o = o
  num_on (nums.Name n) o = o

  pub high_on : (n : Option Num) → On P (high_tree n) → Every P (of_optional_num n)
  high_on None o = tt
  high_on (Some n) o = (num_on n o.1, tt)

  pub part_on : (p : NumRange) → On P (num_range_tree p) → Every P (of_part p)
  part_on p o = (num_on p.low o.0, high_on p.high o.1)

  pair_part_on : (p : PairPart) → On P (pair_part_tree p) → Every P (of_pair_part p)
  pair_part_on pair_parts.Any o = tt
  pair_part_on (pair_parts.Range p) o = part_on p o

  lengths_on : (l : Option Lengths) → On P (lengths_part l) → Every P (of_lengths l)
  lengths_on None o = tt
  lengths_on (Some lengths.AndLonger) o = tt
  lengths_on (Some lengths.AndShorter) o = tt
  lengths_on (Some (lengths.Between low high)) o = (num_on low o.0.1.0, (num_on high o.0.1.1.1, tt))

  pub item_on : (i : Item) → On P (item_tree i) → Every P (of_item i)
  item_on (items.Range p) o = part_on p o
  item_on (items.Pair at a b) o = (o.0.0, join P (of_pair_part a) (of_pair_part b) (pair_part_on a o.0.1.0) (pair_part_on b o.0.1.1.1))
  item_on (items.Prefix at net l) o = (o.0, lengths_on l o.1)

  pub items_after_on : (is : List Item) (t : ParseTree) → On P (items_after t is) → On P t × Every P (of_items is)
  items_after_on [] t o = (o, tt)
  items_after_on (i ∷ is) t o =
      let later = items_after_on is (Snoc t (Pair (symbol_leaf sym.Comma) (item_tree i))) o in
      (later.0.0, join P (of_item i) (of_items is) (item_on i later.0.1.1) later.1)

  pub items_on : (is : List Item) → On P (items_tree is) → Every P (of_items is)
  items_on [] o = tt
  items_on (i ∷ is) o =
      let later = items_after_on is (Single (item_tree i)) o in
      join P (of_item i) (of_items is) (item_on i later.0) later.1

  atom_on : (a : MaskAtom) → On P (mask_atom_tree a) → Every P (of_atom a)
  atom_on mask_atoms.One o = tt
  atom_on mask_atoms.Any o = tt
  atom_on (mask_atoms.Range p) o = part_on p o

  mask_after_on : (ms : List MaskItem) (t : ParseTree) → On P (mask_after t ms) → On P t × Every P (of_mask ms)
  mask_after_on [] t o = (o, tt)
  mask_after_on (m ∷ ms) t o =
      let later = mask_after_on ms (Snoc t (mask_item_tree m)) o in
      (later.0.0, join P (of_atom m.atom) (of_mask ms) (atom_on m.atom later.0.1.0) later.1)

  pub mask_on : (ms : List MaskItem) → On P (mask_items_tree ms) → Every P (of_mask ms)
  mask_on ms o = (mask_after_on ms (Single NoWords) o).1

  pub simple_on : (s : Atom) → At P (atom_word s) → P (of_simple s)
  simple_on (atoms.Number at value) o = o
  simple_on (atoms.Text at start len) o = o
  simple_on (atoms.Ip at addr) o = o
  simple_on (atoms.Prefix at net) o = o
  simple_on (atoms.True at) o = o
  simple_on (atoms.False at) o = o
  simple_on (atoms.EmptyPath at) o = o
  simple_on (atoms.EmptyClist at) o = o
  simple_on (atoms.Attribute at a) o = o
  simple_on (atoms.Constant at c) o = o

  -- ---- rows

  pub row_on : {X : Type 0} (view : X → ParseTree) (f : Form) (Q : X → Type 0) → ((x : X) → DerivesLongest rule (view x) f → On P (view x) → Q x) → (xs : List X) (t : ParseTree) → DerivesLongest rule (row_after t (map view xs)) (Repeat Epsilon f) → On P (row_after t (map view xs)) → Before P t (Repeat Epsilon f) (Every Q xs)
  row_on view f Q told [] t h o = record { fits = h; on = o; rest = tt }
  row_on view f Q told (x ∷ xs) t h o =
      let later = row_on view f Q told xs (Snoc t (view x)) h o in
      record { fits = later.fits.0; on = later.on.0; rest = (told x later.fits.1 later.on.1, later.rest) }

  -- what holds of the places of each
  pub each_placed : {X Y : Type 0} (places : Y → List ℕ) (value : X → Y) (xs : List X) → Every (λ x. Every P (places (value x))) xs → Every P (of_each places (map value xs))
  each_placed places value [] h = tt
  each_placed places value (x ∷ xs) h = join P (places (value x)) (of_each places (map value xs)) h.0 (each_placed places value xs h.1)
