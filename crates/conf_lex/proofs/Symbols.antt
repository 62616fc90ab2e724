-- A symbol has one kind of word.
use Rattle.std.proofs.Common.{◌≡◌, ℕ, Bool, true, false, refl, sym, ap, ◌∙◌, List, ◌∷◌, MatchOption}
use Rattle.std.specs.Bool.{then_some}
use Rattle.std.specs.Borrow.{Bor}
use Rattle.conf_lex.specs.Grammar.{begins}
use denote.Enum.Bare.{sameb, same_true, true_same}
use Rattle.conf_ast.specs.contracts.attribute.Attribute as attribute_type
use Rattle.conf_lex.specs.contracts.symbol.Symbol as symbol_type
use Rattle.conf_ast.specs.declared.attribute.Attribute.{Attribute}
use Rattle.conf_lex.specs.declared.symbol.Symbol.{Symbol}
use Rattle.conf_lex.specs.declared.word.Word.{Word}
use Rattle.conf_lex.specs.declared.word.Word.TheVariants as words
use Rattle.conf_lex.specs.Symbols.{is_placed}
use Rattle.conf_lex.specs.Kind.{kind_of, IsAttribute, IsSymbol, attribute, symbol}

pub same_symbol : (s r : Symbol) → symbol s (IsSymbol r) ≡ true → s ≡ r
same_symbol s r e = sym (same_true symbol_type.the_type tt r s e)

symbol-refl : (s : Symbol) → symbol s (IsSymbol s) ≡ true
symbol-refl s = true_same symbol_type.the_type s s refl

same_bools : (a b : Bool) → (a ≡ true → b ≡ true) → (b ≡ true → a ≡ true) → a ≡ b
same_bools true b f g = sym (f refl)
same_bools false true f g = g refl
same_bools false false f g = refl

-- a symbol that carries no place is of its kind
pub symbol_same : (s : Symbol) → is_placed s ≡ false → symbol s (kind_of (words.Symbol s)) ≡ true
symbol_same s plain = rw plain (symbol-refl s)

-- and one that carries its place
pub placed_same : (at : ℕ) (s : Symbol) → is_placed s ≡ true → symbol s (kind_of (words.Placed at s)) ≡ true
placed_same at s placed = rw placed (symbol-refl s)

placed_or_not : (s wanted : Symbol) (b : Bool) → is_placed s ≡ b → is_placed wanted ≡ false → symbol wanted (IsSymbol s) ≡ symbol wanted (kind_of (words.Symbol s))
placed_or_not s wanted false here plain = rw here refl
placed_or_not s wanted true here plain = rw here (same_bools _ _ (λ e. absurd (let same = same_symbol wanted s e in let other : is_placed s ≡ false = rw (← same) plain in cc)) (λ e. absurd cc))

-- the test of a symbol that carries no place
pub symbol_test : (w : Word) (s wanted : Symbol) → w ≡ words.Symbol s → is_placed wanted ≡ false → sameb symbol_type.the_type s wanted ≡ symbol wanted (kind_of w)
symbol_test w s wanted is plain = rw is (placed_or_not s wanted (is_placed s) refl plain)

pub not_placed : (at : ℕ) (s wanted : Symbol) (b : Bool) → is_placed s ≡ b → is_placed wanted ≡ true → symbol wanted (IsSymbol s) ≡ symbol wanted (kind_of (words.Placed at s))
not_placed at s wanted true here placed = rw here refl
not_placed at s wanted false here placed = rw here (same_bools _ _ (λ e. absurd (let same = same_symbol wanted s e in let other : is_placed s ≡ true = rw (← same) placed in cc)) (λ e. absurd cc))

-- and of one that carries its place
pub placed_test : (w : Word) (at : ℕ) (s wanted : Symbol) → w ≡ words.Placed at s → is_placed wanted ≡ true → sameb symbol_type.the_type s wanted ≡ symbol wanted (kind_of w)
placed_test w at s wanted is placed = rw is (not_placed at s wanted (is_placed s) refl placed)

-- the word that is of a symbol's kind
pub is_symbol_word : (w : Word) (wanted : Symbol) → is_placed wanted ≡ false → symbol wanted (kind_of w) ≡ true → w ≡ words.Symbol wanted
is_symbol_word (words.Symbol s) wanted plain e = ap (λ (r : Symbol). words.Symbol r) (sym (same_symbol wanted s (placed_or_not s wanted (is_placed s) refl plain ∙ e)))
is_symbol_word (words.Placed at s) wanted plain e = absurd (no (is_placed s) refl)
  where
    no : (b : Bool) → is_placed s ≡ b → ⊥
    no true here = let same : wanted ≡ s = same_symbol wanted s (rw here at e) in let other : is_placed s ≡ false = rw (← same) plain in cc
    no false here = let f = rw here at e in cc
is_symbol_word _ wanted plain e = absurd cc

pub same_word : (w : Word) (at : ℕ) (s wanted : Symbol) → w ≡ words.Placed at s → sameb symbol_type.the_type s wanted ≡ true → w ≡ words.Placed at wanted
same_word w at s wanted is e = is ∙ ap (λ (r : Symbol). words.Placed at r) (same_true symbol_type.the_type tt s wanted e)

pub other_word : (w : Word) (wanted : Symbol) → is_placed wanted ≡ true → ((at : ℕ) (s : Symbol) → w ≡ words.Placed at s → ⊥) → symbol wanted (kind_of w) ≡ false
other_word (words.Placed at s) wanted placed h = absurd (h at s refl)
other_word (words.Symbol s) wanted placed h = no (is_placed s) refl
  where
    no : (b : Bool) → is_placed s ≡ b → symbol wanted (kind_of (words.Symbol s)) ≡ false
    no true here = rw here refl
    no false here = rw here (same_bools _ _ (λ e. absurd (let same : wanted ≡ s = same_symbol wanted s e in let other : is_placed s ≡ true = rw (← same) placed in cc)) (λ e. absurd cc))
other_word _ wanted placed h = refl

-- the answers of the two tests
pub after_some : (ws : List Word) (wanted : Symbol) (w : Word) (rest : Bor (List Word)) (b : Bool) → is_placed wanted ≡ false → ws ≡ w ∷ rest.now → b ≡ symbol wanted (kind_of w) → MatchOption (then_some b rest) (begins (symbol wanted) ws ≡ false) (λ r. ws ≡ words.Symbol wanted ∷ r.now)
after_some ws wanted w rest true plain is e = is ∙ ap (λ (x : Word). x ∷ rest.now) (is_symbol_word w wanted plain (sym e))
after_some ws wanted w rest false plain is e = rw is (sym e)

pub placed_some : (w : Word) (wanted : Symbol) (at : ℕ) (s : Symbol) (b : Bool) → is_placed wanted ≡ true → w ≡ words.Placed at s → b ≡ sameb symbol_type.the_type s wanted → MatchOption (then_some b at) (symbol wanted (kind_of w) ≡ false) (λ a. w ≡ words.Placed a wanted)
placed_some w wanted at s true placed is e = same_word w at s wanted is (sym e)
placed_some w wanted at s false placed is e = sym (placed_test w at s wanted is placed) ∙ sym e

-- ---- a symbol that isn't the wanted one

no_symbol : (s wanted : Symbol) (b : Bool) → (s ≡ wanted → ⊥) → symbol wanted (IsSymbol s) ≡ b → b ≡ false
no_symbol s wanted true h e = absurd (h (sym (same_symbol wanted s e)))
no_symbol s wanted false h e = refl

pub other_symbol : (s wanted : Symbol) → (s ≡ wanted → ⊥) → symbol wanted (IsSymbol s) ≡ false
other_symbol s wanted h = let e : symbol wanted (IsSymbol s) ≡ symbol wanted (IsSymbol s) = refl in e ∙ no_symbol s wanted (symbol wanted (IsSymbol s)) h refl

pub other_plain : (s wanted : Symbol) → (s ≡ wanted → ⊥) → symbol wanted (kind_of (words.Symbol s)) ≡ false
other_plain s wanted h = by_place (is_placed s) refl
  where
    by_place : (b : Bool) → is_placed s ≡ b → symbol wanted (kind_of (words.Symbol s)) ≡ false
    by_place true here = rw here refl
    by_place false here = rw here (other_symbol s wanted h)

pub other_placed : (at : ℕ) (s wanted : Symbol) → (s ≡ wanted → ⊥) → symbol wanted (kind_of (words.Placed at s)) ≡ false
other_placed at s wanted h = by_place (is_placed s) refl
  where
    by_place : (b : Bool) → is_placed s ≡ b → symbol wanted (kind_of (words.Placed at s)) ≡ false
    by_place true here = rw here (other_symbol s wanted h)
    by_place false here = rw here refl

-- a word that is no symbol without a place
pub plain_alone : (w : Word) → ((s : Symbol) → w ≡ words.Symbol s → ⊥) → (wanted : Symbol) → is_placed wanted ≡ false → symbol wanted (kind_of w) ≡ false
plain_alone (words.Symbol s) h wanted plain = absurd (h s refl)
plain_alone (words.Placed at s) h wanted plain = by_place (is_placed s) refl
  where
    by_place : (b : Bool) → is_placed s ≡ b → symbol wanted (kind_of (words.Placed at s)) ≡ false
    by_place false here = rw here refl
    by_place true here = rw here (no_symbol s wanted (symbol wanted (IsSymbol s)) (λ e. absurd (let other : is_placed s ≡ false = rw e plain in cc)) refl)
plain_alone _ h wanted plain = refl

-- ---- attributes

pub same_attribute : (a b : Attribute) → attribute a (IsAttribute b) ≡ true → b ≡ a
same_attribute a b e = same_true attribute_type.the_type tt b a e

-- an attribute is of its kind
pub attribute_same : (a : Attribute) → attribute a (IsAttribute a) ≡ true
attribute_same a = true_same attribute_type.the_type a a refl

pub attribute_some : (w : Word) (wanted : Attribute) (at : ℕ) (a : Attribute) (b : Bool) → w ≡ words.Attribute at a → b ≡ sameb attribute_type.the_type a wanted → MatchOption (then_some b at) (attribute wanted (kind_of w) ≡ false) (λ i. w ≡ words.Attribute i wanted)
attribute_some w wanted at a true is e = is ∙ ap (λ (x : Attribute). words.Attribute at x) (same_attribute wanted a (sym e))
attribute_some w wanted at a false is e = rw is (sym e)

pub no_attribute : (w : Word) (wanted : Attribute) → ((at : ℕ) (a : Attribute) → w ≡ words.Attribute at a → ⊥) → attribute wanted (kind_of w) ≡ false
no_attribute (words.Attribute at a) wanted h = absurd (h at a refl)
no_attribute (words.Symbol s) wanted h = by_place (is_placed s) refl
  where
    by_place : (b : Bool) → is_placed s ≡ b → attribute wanted (kind_of (words.Symbol s)) ≡ false
    by_place true here = rw here refl
    by_place false here = rw here refl
no_attribute (words.Placed at s) wanted h = by_place (is_placed s) refl
  where
    by_place : (b : Bool) → is_placed s ≡ b → attribute wanted (kind_of (words.Placed at s)) ≡ false
    by_place true here = rw here refl
    by_place false here = rw here refl
no_attribute _ wanted h = refl
