use Rattle.std.proofs.Common.{◌≡◌, ℕ, Bool, true, false, [], ◌∷◌, refl}
use Rattle.conf_lex.specs.declared.symbol.Symbol.{Symbol}
use Rattle.conf_lex.specs.declared.symbol.Symbol.TheVariants as sym
use Rattle.conf_lex.specs.declared.word.Word.TheVariants as words
use Rattle.conf_lex.specs.Symbols.{is_placed}
use Rattle.conf_lex.specs.Grammar.{begins}
use Rattle.conf_lex.proofs.Symbols.{other_symbol}
use Rattle.conf_syntax.specs.Syntax.{is_value}
use Rattle.conf_syntax.proofs.literal.truth.Goals as goal

no_truth : (at : ℕ) (s : Symbol) → (s ≡ sym.True → ⊥) → (s ≡ sym.False → ⊥) → begins is_value (words.Placed at s ∷ []) ≡ false
no_truth at s h0 h1 = by_place (is_placed s) refl
  where
    by_place : (b : Bool) → is_placed s ≡ b → begins is_value (words.Placed at s ∷ []) ≡ false
    by_place true here = rw (here, other_symbol s sym.True h0, other_symbol s sym.False h1) refl
    by_place false here = rw here refl

pub returns-in_default : goal.returns-in_default
returns-in_default c = no_truth c.args.at c.args.symbol c.in_default.not-True c.in_default.not-False
