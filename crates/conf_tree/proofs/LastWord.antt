-- The last of several words is one symbol or isn't.
use Rattle.std.proofs.Common.{◌≡◌, ◌↔◌, IsTrue, Bool, false, List, [], ◌∷◌, ◌++◌, length, sym, ◌∙◌, ap, arith}
use Rattle.std.proofs.lemmas.Bool.{false≢true}
use Rattle.std.proofs.lemmas.List.{length-append}
use Rattle.conf_lex.specs.declared.symbol.Symbol.{Symbol}
use Rattle.conf_lex.specs.declared.word.Word.{Word}
use Rattle.conf_lex.specs.declared.word.Word.TheVariants as words
use Rattle.conf_lex.specs.Symbols.{is_placed}
use Rattle.conf_lex.specs.Kind.{kind_of, symbol}
use Rattle.conf_lex.proofs.Symbols.{is_symbol_word, symbol_same}
use Rattle.conf_syntax.proofs.Ends.{last_same}
use Rattle.conf_tree.specs.Sentence.{EndsIn}

pub last_one : (a b : List Word) (v w : Word) → a ++ v ∷ [] ≡ b ++ w ∷ [] → v ≡ w
last_one = last_same

pub last_ends : (ws front : List Word) (w : Word) (s : Symbol) (b : Bool) → is_placed s ≡ false → ws ≡ front ++ w ∷ [] → b ≡ symbol s (kind_of w) → IsTrue b ↔ EndsIn s ws (λ f. Unit {0})
last_ends ws front w s b plain cut e = (
  λ yes. (front, cut ∙ ap (λ (x : Word). front ++ x ∷ []) (is_symbol_word w s plain (sym e ∙ yes)), tt),
  λ ends.
      let same : w ≡ words.Symbol s = last_one front ends.0 w (words.Symbol s) (sym cut ∙ ends.1) in
      e ∙ ap (λ (x : Word). symbol s (kind_of x)) same ∙ symbol_same s plain,
)

pub nothing_ends : (ws : List Word) (s : Symbol) (P : List Word → Type 0) → length ws ≡ 0 → IsTrue false ↔ EndsIn s ws P
nothing_ends ws s P none = (
  λ yes. absurd (false≢true yes),
  λ ends. absurd (omega (arith, none, ap (λ (l : List Word). length l) ends.1, length-append ends.0 (words.Symbol s ∷ []))),
)
