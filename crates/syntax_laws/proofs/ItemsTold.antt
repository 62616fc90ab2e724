-- Each tree of an item, of a set and of a mask is the view of one.
use Rattle.std.proofs.Common.{◌≡◌, ℕ, suc, true, false, ◌||◌, Some, None, refl, sym, ap, ◌∙◌, ◌⊎◌, inl, inr}
use Rattle.bits_ip.specs.declared.prefix.Prefix.{Prefix}
use Rattle.conf_lex.specs.declared.symbol.Symbol.{Symbol}
use Rattle.conf_lex.specs.declared.symbol.Symbol.TheVariants as symbols
use Rattle.conf_lex.specs.declared.word.Word.{Word}
use Rattle.conf_lex.specs.declared.word.Word.TheVariants as words
use Rattle.conf_lex.specs.Symbols.{is_placed}
use Rattle.conf_lex.specs.Kind.{kind_of, prefix, symbol}
use Rattle.conf_lex.specs.Grammar.{Terminal, Epsilon, Seq, Alt, Repeat, Nested, ParseTree, Leaf, Left, Right, Deeper, DerivesLongest}
use Rattle.conf_lex.specs.Leaves.{symbol_leaf, between}
use Rattle.conf_lex.proofs.Checks.{or_cases}
use Rattle.conf_lex.proofs.Symbols.{is_symbol_word}
use Rattle.syntax_laws.proofs.Parts.{Small, more_room, placed_word, one_is, seq_is, either_is, nest_is, symbol_is, optional_is}
use Rattle.syntax_laws.proofs.Rows.{Seen, Row, Some as Some_row, both_of, many_told, listed_told}
use Rattle.conf_ast.specs.declared.filters.PairPart.TheVariants as pair_parts
use Rattle.conf_ast.specs.declared.filters.Lengths.TheVariants as lengths_variants
use Rattle.conf_ast.specs.declared.filters.Item.TheVariants as items
use Rattle.conf_ast.specs.declared.filters.MaskAtom.TheVariants as mask_atoms
use Rattle.expr_syntax.specs.Syntax.{rule, optional, is_num, num_range, pair_part, pair_item, lengths, prefix_item, item, mask_atom, mask_item}
use Rattle.expr_syntax.specs.Levels.{Level, Form, set_level, pair_level, lengths_level}
use Rattle.expr_syntax.specs.ItemView.{num_tree, high_tree, num_range_tree, pair_part_tree, with_comma, lengths_tree, lengths_part, item_tree, items_tree, mask_atom_tree, many_tree, mask_item_tree, mask_items_tree}
use Rattle.expr_syntax.proofs.ItemSteps.{one_more_item, one_more_mask_item}
use Rattle.expr_syntax.proofs.Tested.{solid_at}
use Rattle.syntax_laws.proofs.SortsOfWords.{num_is}

pub num_told : (t : ParseTree) → DerivesLongest rule t (Terminal is_num) → Seen num_tree t
num_told t h = let w = one_is rule t is_num h in let v = num_is w.word w.passes in (v.0, sym (w.is ∙ ap (λ (u : Word). Leaf u) v.1))

-- two parts and a comma between them
pub record Commas {X Y : Type 0} (f : X → ParseTree) (g : Y → ParseTree) (t : ParseTree) : Type 0 where
  pub first : X
  pub second : Y
  pub seen : with_comma (f first) (g second) ≡ t

pub comma_told : (n : ℕ) {X Y : Type 0} (f g : Form) (view : X → ParseTree) (see : Y → ParseTree) → ((b : ParseTree) → Small n b → DerivesLongest rule b f → Seen view b) → ((b : ParseTree) → Small n b → DerivesLongest rule b g → Seen see b) → (t : ParseTree) → Small (suc n) t → DerivesLongest rule t (Seq f (Seq (Terminal (symbol symbols.Comma)) g)) → Commas view see t
comma_told n f g view see told tell t s h =
    let p = seq_is rule n t f (Seq (Terminal (symbol symbols.Comma)) g) s h in
    let q = seq_is rule n p.right (Terminal (symbol symbols.Comma)) g (more_room n p.right p.right_small) p.right_fits in
    let comma = symbol_is rule q.left symbols.Comma refl q.left_fits in
    let a = told p.left p.left_small p.left_fits in
    let b = tell q.right q.right_small q.right_fits in
    record {
      first = a.0;
      second = b.0;
      seen = both_of _ _ p.left p.right a.1 (both_of (symbol_leaf symbols.Comma) (see b.0) q.left q.right (sym comma) b.1 ∙ sym q.is) ∙ sym p.is;
    }

-- what stands between an opening sign with its place and a closing one
pub record Between (n : ℕ) (first last : Symbol) (level : Level) (t : ParseTree) : Type 0 where
  pub at : ℕ
  pub inner : ParseTree
  pub is : t ≡ between (words.Placed at first) inner last
  pub small : Small n inner
  pub fits : DerivesLongest rule inner (rule level)

pub between_is : (n : ℕ) (first last : Symbol) (level : Level) (t : ParseTree) → is_placed first ≡ true → is_placed last ≡ false → Small (suc n) t → DerivesLongest rule t (Seq (Nested (symbol first) level) (Terminal (symbol last))) → Between n first last level t
between_is n first last level t placed plain s h =
    let p = seq_is rule n t (Nested (symbol first) level) (Terminal (symbol last)) s h in
    let i = nest_is rule n p.left (symbol first) level (more_room n p.left p.left_small) p.left_fits in
    let w = placed_word i.word first placed i.passes in
    record {
      at = w.0;
      inner = i.part;
      is = p.is ∙ both_of p.left p.right (Deeper (words.Placed w.0 first) i.part) (symbol_leaf last) (i.is ∙ ap (λ (u : Word). Deeper u i.part) w.1) (symbol_is rule p.right last plain p.right_fits);
      small = i.small;
      fits = i.fits;
    }

-- the same for an opening sign without a place
pub record Braced (n : ℕ) (first last : Symbol) (level : Level) (t : ParseTree) : Type 0 where
  pub inner : ParseTree
  pub is : t ≡ between (words.Symbol first) inner last
  pub small : Small n inner
  pub fits : DerivesLongest rule inner (rule level)

pub braced_is : (n : ℕ) (first last : Symbol) (level : Level) (t : ParseTree) → is_placed first ≡ false → is_placed last ≡ false → Small (suc n) t → DerivesLongest rule t (Seq (Nested (symbol first) level) (Terminal (symbol last))) → Braced n first last level t
braced_is n first last level t plain closed s h =
    let p = seq_is rule n t (Nested (symbol first) level) (Terminal (symbol last)) s h in
    let i = nest_is rule n p.left (symbol first) level (more_room n p.left p.left_small) p.left_fits in
    record {
      inner = i.part;
      is = p.is ∙ both_of p.left p.right (Deeper (words.Symbol first) i.part) (symbol_leaf last) (i.is ∙ ap (λ (u : Word). Deeper u i.part) (is_symbol_word i.word first plain i.passes)) (symbol_is rule p.right last closed p.right_fits);
      small = i.small;
      fits = i.fits;
    }

-- one of two symbols
pub either_symbol : (t : ParseTree) (a b : Symbol) → is_placed a ≡ false → is_placed b ≡ false → DerivesLongest rule t (Terminal (λ k. symbol a k || symbol b k)) → (t ≡ symbol_leaf a) ⊎ (t ≡ symbol_leaf b)
either_symbol t a b plain other h =
    let w = one_is rule t (λ k. symbol a k || symbol b k) h in
    elim (or_cases (symbol a (kind_of w.word)) (symbol b (kind_of w.word)) w.passes) [
      | inl x ↦ inl (w.is ∙ ap (λ (u : Word). Leaf u) (is_symbol_word w.word a plain x))
      | inr x ↦ inr (w.is ∙ ap (λ (u : Word). Leaf u) (is_symbol_word w.word b other x))
    ]

pub high_told : (n : ℕ) (t : ParseTree) → Small (suc n) t → DerivesLongest rule t (optional (Seq (Terminal (symbol symbols.Range)) (Terminal is_num))) → Seen high_tree t
high_told n t s h = elim (optional_is rule n t (Seq (Terminal (symbol symbols.Range)) (Terminal is_num)) s h) [
  | inl a ↦
      let p = seq_is rule n a.part (Terminal (symbol symbols.Range)) (Terminal is_num) (more_room n a.part a.small) a.fits in
      let x = num_told p.right p.right_fits in
      (Some x.0, ap (λ (u : ParseTree). Left u) (both_of (symbol_leaf symbols.Range) (num_tree x.0) p.left p.right (sym (symbol_is rule p.left symbols.Range refl p.left_fits)) x.1 ∙ sym p.is) ∙ sym a.is)
  | inr none ↦ (None, sym none)
]

pub part_told : (n : ℕ) (t : ParseTree) → Small (suc n) t → DerivesLongest rule t num_range → Seen num_range_tree t
part_told n t s h =
    let p = seq_is rule n t (Terminal is_num) (optional (Seq (Terminal (symbol symbols.Range)) (Terminal is_num))) s h in
    let low = num_told p.left p.left_fits in
    let high = high_told n p.right (more_room n p.right p.right_small) p.right_fits in
    (record { low = low.0; high = high.0 }, both_of (num_tree low.0) (high_tree high.0) p.left p.right low.1 high.1 ∙ sym p.is)

pair_part_told : (n : ℕ) (t : ParseTree) → Small n t → DerivesLongest rule t pair_part → Seen pair_part_tree t
pair_part_told n t s h = elim (either_is rule n t (Terminal (symbol symbols.Star)) num_range (more_room n t s) h) [
  | inl a ↦ (pair_parts.Any, ap (λ (u : ParseTree). Left u) (sym (symbol_is rule a.part symbols.Star refl a.fits)) ∙ sym a.is)
  | inr b ↦ let x = part_told n b.part (more_room n b.part b.small) b.fits in (pair_parts.Range x.0, ap (λ (u : ParseTree). Right u) x.1 ∙ sym b.is)
]

lengths_told : (n : ℕ) (t : ParseTree) → Small (suc n) t → DerivesLongest rule t lengths → Seen lengths_tree t
lengths_told n t s h = elim (either_is rule n t (Terminal (λ k. symbol symbols.Plus k || symbol symbols.Minus k)) (Seq (Nested (symbol symbols.OpenBrace) lengths_level) (Terminal (symbol symbols.CloseBrace))) s h) [
  | inl a ↦ elim (either_symbol a.part symbols.Plus symbols.Minus refl refl a.fits) [
    | inl x ↦ (lengths_variants.AndLonger, ap (λ (u : ParseTree). Left u) (sym x) ∙ sym a.is)
    | inr x ↦ (lengths_variants.AndShorter, ap (λ (u : ParseTree). Left u) (sym x) ∙ sym a.is)
  ]
  | inr b ↦
      let i = braced_is n symbols.OpenBrace symbols.CloseBrace lengths_level b.part refl refl (more_room n b.part b.small) b.fits in
      let c = comma_told n (Terminal is_num) (Terminal is_num) num_tree num_tree (λ u r f. num_told u f) (λ u r f. num_told u f) i.inner (more_room n i.inner i.small) i.fits in
      (lengths_variants.Between c.first c.second, ap (λ (u : ParseTree). Right (between (words.Symbol symbols.OpenBrace) u symbols.CloseBrace)) c.seen ∙ ap (λ (u : ParseTree). Right u) (sym i.is) ∙ sym b.is)
]

-- a prefix and its place
prefix_word : (w : Word) → prefix (kind_of w) ≡ true → (at : ℕ) × (net : Prefix) × (w ≡ words.Prefix at net)
prefix_word (words.Prefix at net) e = (at, net, refl)
prefix_word (words.Symbol symbols.Router) e = absurd cc
prefix_word (words.Placed at symbols.Router) e = absurd cc
prefix_word _ e = absurd cc

pub prefix_told : (t : ParseTree) → DerivesLongest rule t (Terminal prefix) → (at : ℕ) × (net : Prefix) × (t ≡ Leaf (words.Prefix at net))
prefix_told t h = let w = one_is rule t prefix h in let v = prefix_word w.word w.passes in (v.0, v.1, w.is ∙ ap (λ (u : Word). Leaf u) v.2)

lengths_part_told : (n : ℕ) (t : ParseTree) → Small (suc n) t → DerivesLongest rule t (optional lengths) → Seen lengths_part t
lengths_part_told n t s h = elim (optional_is rule n t lengths s h) [
  | inl a ↦ let x = lengths_told n a.part (more_room n a.part a.small) a.fits in (Some x.0, ap (λ (u : ParseTree). Left u) x.1 ∙ sym a.is)
  | inr none ↦ (None, sym none)
]

pub item_told : (n : ℕ) (t : ParseTree) → Small n t → DerivesLongest rule t item → Seen item_tree t
item_told n t s h = elim (either_is rule n t num_range (Alt pair_item prefix_item) (more_room n t s) h) [
  | inl a ↦ let x = part_told n a.part (more_room n a.part a.small) a.fits in (items.Range x.0, ap (λ (u : ParseTree). Left u) x.1 ∙ sym a.is)
  | inr b ↦ elim (either_is rule n b.part pair_item prefix_item (more_room n b.part b.small) b.fits) [
    | inl a ↦
        let i = between_is n symbols.OpenParenthesis symbols.CloseParenthesis pair_level a.part refl refl (more_room n a.part a.small) a.fits in
        let c = comma_told n pair_part pair_part pair_part_tree pair_part_tree (pair_part_told n) (pair_part_told n) i.inner (more_room n i.inner i.small) i.fits in
        let is = b.is ∙ ap (λ (u : ParseTree). Right u) (a.is ∙ ap (λ (u : ParseTree). Left u) i.is) in
        (items.Pair i.at c.first c.second, ap (λ (u : ParseTree). Right (Left (between (words.Placed i.at symbols.OpenParenthesis) u symbols.CloseParenthesis))) c.seen ∙ sym is)
    | inr c ↦
        let p = seq_is rule n c.part (Terminal prefix) (optional lengths) (more_room n c.part c.small) c.fits in
        let net = prefix_told p.left p.left_fits in
        let l = lengths_part_told n p.right (more_room n p.right p.right_small) p.right_fits in
        let is = b.is ∙ ap (λ (u : ParseTree). Right u) (c.is ∙ ap (λ (u : ParseTree). Right u) p.is) in
        (items.Prefix net.0 net.1 l.0, ap (λ (u : ParseTree). Right (Right u)) (both_of (Leaf (words.Prefix net.0 net.1)) (lengths_part l.0) p.left p.right (sym net.2) l.1) ∙ sym is)
  ]
]

pub items_told : (n : ℕ) (t : ParseTree) → Small (suc n) t → DerivesLongest rule t (rule set_level) → Some_row items_tree t
items_told n t s h = listed_told rule n item (solid_at item refl) refl item_tree (item_told n) items_tree (λ x. refl) one_more_item t s h

mask_atom_told : (n : ℕ) (t : ParseTree) → Small (suc n) t → DerivesLongest rule t mask_atom → Seen mask_atom_tree t
mask_atom_told n t s h = elim (either_is rule n t (Terminal (λ k. symbol symbols.Question k || symbol symbols.Star k)) num_range s h) [
  | inl a ↦ elim (either_symbol a.part symbols.Question symbols.Star refl refl a.fits) [
    | inl x ↦ (mask_atoms.One, ap (λ (u : ParseTree). Left u) (sym x) ∙ sym a.is)
    | inr x ↦ (mask_atoms.Any, ap (λ (u : ParseTree). Left u) (sym x) ∙ sym a.is)
  ]
  | inr b ↦ let x = part_told n b.part (more_room n b.part b.small) b.fits in (mask_atoms.Range x.0, ap (λ (u : ParseTree). Right u) x.1 ∙ sym b.is)
]

many_plus : (n : ℕ) (t : ParseTree) → Small (suc n) t → DerivesLongest rule t (optional (Terminal (symbol symbols.Plus))) → Seen many_tree t
many_plus n t s h = elim (optional_is rule n t (Terminal (symbol symbols.Plus)) s h) [
  | inl a ↦ (true, ap (λ (u : ParseTree). Left u) (sym (symbol_is rule a.part symbols.Plus refl a.fits)) ∙ sym a.is)
  | inr none ↦ (false, sym none)
]

mask_item_told : (n : ℕ) (t : ParseTree) → Small n t → DerivesLongest rule t mask_item → Seen mask_item_tree t
mask_item_told n t s h =
    let p = seq_is rule n t mask_atom (optional (Terminal (symbol symbols.Plus))) (more_room n t s) h in
    let a = mask_atom_told n p.left (more_room n p.left p.left_small) p.left_fits in
    let m = many_plus n p.right (more_room n p.right p.right_small) p.right_fits in
    (record { atom = a.0; many = m.0 }, both_of (mask_atom_tree a.0) (many_tree m.0) p.left p.right a.1 m.1 ∙ sym p.is)

pub mask_told : (n : ℕ) (t : ParseTree) → Small (suc n) t → DerivesLongest rule t (Repeat Epsilon mask_item) → Row mask_items_tree t
mask_told n t s h = many_told rule n mask_item (solid_at mask_item refl) refl mask_item_tree (mask_item_told n) mask_items_tree refl one_more_mask_item t s h
