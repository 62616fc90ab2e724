-- Reading literals, one step of the parser after another.
use Rattle.std.proofs.Common.{◌≡◌, ℕ, zero, suc, ◌+◌, true, false, List, [], ◌∷◌, refl, ap, ◌∙◌, arith, inl, inr}
use Rattle.conf_lex.specs.declared.symbol.Symbol.TheVariants as sym
use Rattle.conf_lex.specs.declared.word.Word.{Word}
use Rattle.conf_lex.specs.declared.word.Word.TheVariants as words
use Rattle.conf_lex.specs.Kind.{kind_of, symbol}
use Rattle.conf_lex.specs.Grammar.{ParseTree, Leaf, Pair, Left, begins, first_set, Bad, TooDeep}
use Rattle.conf_lex.specs.Reading.{Read, Parsed, Failed, Reader, and_then, word, both, read}
use Rattle.conf_lex.specs.PartShapes.{closed}
use Rattle.conf_lex.proofs.PartShapes.{bool_cases, closed_is}
use Rattle.expr_syntax.specs.Syntax.{rule, is_num, set, mask}
use Rattle.expr_syntax.specs.Levels.{set_level}
use Rattle.expr_syntax.specs.Rows.{nth, beyond}
use Rattle.expr_syntax.specs.ItemReaders.{items_at, mask_items_at}
use Rattle.expr_syntax.proofs.Tested.{is_checked}
use Rattle.expr_syntax.proofs.Picks.{picked, rest_read}
use Rattle.conf_syntax.specs.Syntax.{literal, is_value}
use Rattle.conf_syntax.specs.Readers.{literal_at}
use Rattle.conf_ast.specs.declared.configurations.Literal.{Literal}
use Rattle.conf_ast.specs.declared.configurations.Literal.TheVariants as literals
use Rattle.conf_syntax.specs.View.{placed_leaf, literal_tree, value_tree}
use Rattle.conf_syntax.proofs.Heads.{headed}

literal_checked : is_checked literal
literal_checked = refl

-- the word of a value's tree
abbrev word_of : ParseTree → Word
word_of (Left (Leaf w)) = w
word_of t = words.BadPrefix 0

-- what a word has the tree of is a value
pub value_passes : (v : Literal) (w : Word) → literal_tree v ≡ value_tree w → is_value (kind_of w) ≡ true
value_passes (literals.Number at value) w same = rw (← ap word_of same) refl
value_passes (literals.Text q) w same = rw (← ap word_of same) refl
value_passes (literals.Ip a) w same = rw (← ap word_of same) refl
value_passes (literals.Prefix at net) w same = rw (← ap word_of same) refl
value_passes (literals.True at) w same = rw (← ap word_of same) refl
value_passes (literals.False at) w same = rw (← ap word_of same) refl
value_passes (literals.Name n) w same = rw (← ap word_of same) refl
value_passes (literals.Pair at a b) w same = absurd cc
value_passes (literals.Set at items) w same = absurd cc
value_passes (literals.Mask at items) w same = absurd cc

pub value_read : (k : ℕ) (ws : List Word) (w : Word) (u : List Word) → ws ≡ w ∷ u → is_value (kind_of w) ≡ true → literal_at k ws ≡ Parsed (value_tree w) u
unfolding literal_at
value_read zero ws w u is passes = rw (is, passes) refl
value_read (suc k) ws w u is passes = rw (is, passes) refl

pub pair_is : (k at : ℕ) (ws u : List Word) → ws ≡ words.Placed at sym.OpenParenthesis ∷ u → literal_at k ws ≡ and_then (both (word is_num) (both (word (symbol sym.Comma)) (both (word is_num) (word (symbol sym.CloseParenthesis)))) u) (λ t v. Parsed (nth 1 (Pair (placed_leaf at sym.OpenParenthesis) t)) v)
unfolding literal_at
pair_is zero at ws u is = headed 1 0 (symbol sym.OpenParenthesis) literal _ _ literal_checked refl refl ws (words.Placed at sym.OpenParenthesis) u is refl
pair_is (suc k) at ws u is = headed 1 (suc k) (symbol sym.OpenParenthesis) literal _ _ literal_checked refl refl ws (words.Placed at sym.OpenParenthesis) u is refl

-- ---- sets

set_begun : (at : ℕ) (ws u : List Word) → ws ≡ words.Placed at sym.OpenBracket ∷ u → begins (first_set set) ws ≡ true
set_begun at ws u is = rw is refl

literal_set : (k at : ℕ) (ws u : List Word) → ws ≡ words.Placed at sym.OpenBracket ∷ u → literal_at k ws ≡ and_then (read rule k set ws) (λ t v. Parsed (nth 2 t) v)
unfolding literal_at
literal_set k at ws u is = picked 2 k literal set mask literal_checked refl refl ws (set_begun at ws u is)

pub set_deep : (k at : ℕ) (ws u : List Word) → k ≡ 0 → ws ≡ words.Placed at sym.OpenBracket ∷ u → literal_at k ws ≡ Failed TooDeep ws
set_deep zero at ws u none is = literal_set 0 at ws u is ∙ rw is refl
set_deep (suc k) at ws u none is = absurd (omega arith)

set_read : (k b at : ℕ) (ws u : List Word) → b + 1 ≡ k → ws ≡ words.Placed at sym.OpenBracket ∷ u → read rule k set ws ≡ closed (words.Placed at sym.OpenBracket) (items_at b) sym.CloseBracket u
unfolding items_at
set_read zero b at ws u below is = absurd (omega arith)
set_read (suc k) b at ws u below is =
    let same : k ≡ b = omega arith in
    rw (is, ← same) (closed_is (words.Placed at sym.OpenBracket) sym.CloseBracket (read rule k (rule set_level)) u)

pub set_is : (k b at : ℕ) (ws u : List Word) → b + 1 ≡ k → ws ≡ words.Placed at sym.OpenBracket ∷ u → literal_at k ws ≡ and_then (closed (words.Placed at sym.OpenBracket) (items_at b) sym.CloseBracket u) (λ t v. Parsed (nth 2 t) v)
set_is k b at ws u below is = literal_set k at ws u is ∙ ap (λ (x : Read). and_then x (λ t v. Parsed (nth 2 t) v)) (set_read k b at ws u below is)

-- ---- masks, whose elements open no level

-- behind the opening word
unfoldable pub mask_behind : ℕ → Reader
mask_behind at ws = and_then (and_then (mask_items_at 0 ws) (λ m v. Parsed (Pair (Leaf (words.Placed at sym.OpenMask)) m) v)) (λ a v. and_then (word (symbol sym.CloseMask) v) (λ c end. Parsed (Pair a c) end))

mask_begun : (at : ℕ) (ws u : List Word) → ws ≡ words.Placed at sym.OpenMask ∷ u → begins (first_set mask) ws ≡ true
mask_begun at ws u is = rw is refl

mask_read : (k at : ℕ) (ws u : List Word) → ws ≡ words.Placed at sym.OpenMask ∷ u → read rule k mask ws ≡ mask_behind at u
unfolding mask_items_at mask_behind
mask_read zero at ws u is = rw is refl
mask_read (suc k) at ws u is = rw is refl

pub mask_is : (k at : ℕ) (ws u : List Word) → ws ≡ words.Placed at sym.OpenMask ∷ u → literal_at k ws ≡ and_then (and_then (and_then (mask_items_at 0 u) (λ m v. Parsed (Pair (Leaf (words.Placed at sym.OpenMask)) m) v)) (λ a v. and_then (word (symbol sym.CloseMask) v) (λ c end. Parsed (Pair a c) end))) (λ t v. Parsed (beyond 3 t) v)
unfolding literal_at mask_behind
mask_is k at ws u is = rest_read 3 k literal literal_checked refl ws (mask_begun at ws u is) ∙ ap (λ (x : Read). and_then x (λ t v. Parsed (beyond 3 t) v)) (mask_read k at ws u is)

-- ---- the others

pub literal_bad : (k : ℕ) (ws : List Word) → begins is_value ws ≡ false → begins (symbol sym.OpenParenthesis) ws ≡ false → begins (symbol sym.OpenBracket) ws ≡ false → begins (symbol sym.OpenMask) ws ≡ false → literal_at k ws ≡ Failed Bad ws
unfolding literal_at
literal_bad zero [] a b c d = refl
literal_bad (suc k) [] a b c d = refl
literal_bad zero (w ∷ ws) a b c d = rw (a, b, c, d) refl
literal_bad (suc k) (w ∷ ws) a b c d = rw (a, b, c, d) refl

-- what is read within no level is read within some
pub more_levels : (k : ℕ) (ws : List Word) (t : ParseTree) (u : List Word) → literal_at 0 ws ≡ Parsed t u → literal_at k ws ≡ Parsed t u
unfolding literal_at
more_levels zero ws t u got = got
more_levels (suc k) [] t u got = got
more_levels (suc k) (w ∷ ws) t u got = elim (bool_cases (symbol sym.OpenBracket (kind_of w))) [
  | inl here ↦ absurd (never here)
  | inr none ↦
      let same : read rule (suc k) literal (w ∷ ws) ≡ read rule 0 literal (w ∷ ws) = rw none refl in
      same ∙ got
]
  where
    never : symbol sym.OpenBracket (kind_of w) ≡ true → ⊥
    never here = let deep : read rule 0 literal (w ∷ ws) ≡ Failed TooDeep (w ∷ ws) = picked 2 0 literal set mask literal_checked refl refl (w ∷ ws) (rw here refl) ∙ rw here refl in absurd cc
