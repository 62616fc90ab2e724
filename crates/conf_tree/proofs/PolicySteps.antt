-- Reading policies, one step of the parser after another.
use Rattle.std.proofs.Common.{◌≡◌, ℕ, zero, suc, false, List, [], ◌∷◌, refl}
use Rattle.conf_lex.specs.declared.symbol.Symbol.TheVariants as sym
use Rattle.conf_lex.specs.declared.word.Word.{Word}
use Rattle.conf_lex.specs.declared.word.Word.TheVariants as words
use Rattle.conf_ast.specs.declared.named.Name.{Name}
use Rattle.conf_lex.specs.Kind.{name, symbol}
use Rattle.conf_lex.specs.Grammar.{Pair, Left, Right, begins}
use Rattle.conf_lex.specs.Reading.{Parsed, and_then, word, both}
use Rattle.conf_lex.specs.Leaves.{symbol_leaf, name_leaf}
use Rattle.expr_syntax.specs.Readers.{expr_at}
use Rattle.filt_syntax.specs.StatementReaders.{block_at}
use Rattle.expr_syntax.specs.Rows.{nth, beyond}
use Rattle.expr_syntax.proofs.Picks.{maps2}
use Rattle.conf_syntax.specs.View.{placed_leaf}
use Rattle.conf_tree.specs.Readers.{policy_at}
use Rattle.conf_syntax.proofs.Heads.{maps4}

pub policy_all : (k : ℕ) (ws u : List Word) → ws ≡ words.Symbol sym.All ∷ u → policy_at k ws ≡ Parsed (nth 0 (symbol_leaf sym.All)) u
unfolding policy_at
policy_all zero ws u is = rw is refl
policy_all (suc k) ws u is = rw is refl

pub policy_none : (k : ℕ) (ws u : List Word) → ws ≡ words.Symbol sym.None ∷ u → policy_at k ws ≡ Parsed (nth 0 (symbol_leaf sym.None)) u
unfolding policy_at
policy_none zero ws u is = rw is refl
policy_none (suc k) ws u is = rw is refl

pub policy_named : (k at : ℕ) (n : Name) (ws u v : List Word) → ws ≡ words.Placed at sym.Filter ∷ u → u ≡ words.Name n.at n.start n.len ∷ v → policy_at k ws ≡ Parsed (nth 1 (Pair (placed_leaf at sym.Filter) (Left (name_leaf n)))) v
unfolding policy_at
policy_named zero at n ws u v is named = rw (is, named) refl
policy_named (suc k) at n ws u v is named = rw (is, named) refl

pub policy_block : (k at : ℕ) (ws u : List Word) → ws ≡ words.Placed at sym.Filter ∷ u → begins name u ≡ false → policy_at k ws ≡ and_then (block_at k u) (λ b v. Parsed (nth 1 (Pair (placed_leaf at sym.Filter) (Right b))) v)
unfolding policy_at block_at
policy_block zero at ws u is none = rw (is, none) (maps4 (block_at 0 u) (λ b. Right b) (λ t. Pair (placed_leaf at sym.Filter) t) (λ t. Left t) (λ t. Right t))
policy_block (suc k) at ws u is none = rw (is, none) (maps4 (block_at (suc k) u) (λ b. Right b) (λ t. Pair (placed_leaf at sym.Filter) t) (λ t. Left t) (λ t. Right t))

-- what begins no other policy is one behind `where`, or none
pub policy_where : (k : ℕ) (ws : List Word) → begins (symbol sym.All) ws ≡ false → begins (symbol sym.None) ws ≡ false → begins (symbol sym.Filter) ws ≡ false → policy_at k ws ≡ and_then (both (word (symbol sym.Where)) (expr_at k) ws) (λ t u. Parsed (beyond 2 t) u)
unfolding policy_at expr_at
policy_where zero [] a b c = refl
policy_where (suc k) [] a b c = refl
policy_where zero (w ∷ ws) a b c = rw (a, b, c) (maps2 (both (word (symbol sym.Where)) (expr_at 0) (w ∷ ws)) (λ t. Right t) (λ t. Right t))
policy_where (suc k) (w ∷ ws) a b c = rw (a, b, c) (maps2 (both (word (symbol sym.Where)) (expr_at (suc k)) (w ∷ ws)) (λ t. Right t) (λ t. Right t))
