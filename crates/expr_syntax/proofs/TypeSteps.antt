-- The steps of reading a type.
use Rattle.std.proofs.Common.{◌≡◌, ℕ, zero, suc, false, List, [], ◌∷◌, refl, inl, inr}
use Rattle.conf_lex.specs.declared.symbol.Symbol.TheVariants as sym
use Rattle.conf_lex.specs.declared.word.Word.{Word}
use Rattle.conf_lex.specs.declared.word.Word.TheVariants as words
use Rattle.conf_lex.specs.Kind.{kind_of, symbol}
use Rattle.conf_lex.specs.Grammar.{Left, begins}
use Rattle.conf_lex.specs.Reading.{Parsed, and_then, word}
use Rattle.conf_lex.proofs.PartShapes.{bool_cases}
use Rattle.expr_syntax.specs.Syntax.{has_sets, has_no_sets}
use Rattle.expr_syntax.specs.declared.variable_type.Member.{Member}
use Rattle.expr_syntax.specs.declared.variable_type.Member.TheVariants as members
use Rattle.expr_syntax.specs.Types.{member_symbol, member_type, set_type}
use Rattle.expr_syntax.specs.Readers.{vtype_at}

pub type_set : (k : ℕ) (m : Member) (ws u v : List Word) → ws ≡ words.Symbol (member_symbol m) ∷ u → u ≡ words.Symbol sym.Set ∷ v → vtype_at k ws ≡ Parsed (set_type (member_symbol m)) v
unfolding vtype_at
type_set zero members.Int ws u v is set = rw (is, set) refl
type_set zero members.Pair ws u v is set = rw (is, set) refl
type_set zero members.Prefix ws u v is set = rw (is, set) refl
type_set (suc k) members.Int ws u v is set = rw (is, set) refl
type_set (suc k) members.Pair ws u v is set = rw (is, set) refl
type_set (suc k) members.Prefix ws u v is set = rw (is, set) refl

pub type_alone : (k : ℕ) (m : Member) (ws u : List Word) → ws ≡ words.Symbol (member_symbol m) ∷ u → begins (symbol sym.Set) u ≡ false → vtype_at k ws ≡ Parsed (member_type (member_symbol m)) u
unfolding vtype_at
type_alone zero members.Int ws u is none = rw (is, none) refl
type_alone zero members.Pair ws u is none = rw (is, none) refl
type_alone zero members.Prefix ws u is none = rw (is, none) refl
type_alone (suc k) members.Int ws u is none = rw (is, none) refl
type_alone (suc k) members.Pair ws u is none = rw (is, none) refl
type_alone (suc k) members.Prefix ws u is none = rw (is, none) refl

pub type_other : (k : ℕ) (ws : List Word) → begins has_sets ws ≡ false → vtype_at k ws ≡ and_then (word has_no_sets ws) (λ t u. Parsed (Left t) u)
unfolding vtype_at
type_other zero [] none = refl
type_other (suc k) [] none = refl
type_other zero (w ∷ ws) none = elim (bool_cases (has_no_sets (kind_of w))) [
  | inl here ↦ rw here refl
  | inr other ↦ rw (other, none) refl
]
type_other (suc k) (w ∷ ws) none = elim (bool_cases (has_no_sets (kind_of w))) [
  | inl here ↦ rw here refl
  | inr other ↦ rw (other, none) refl
]
