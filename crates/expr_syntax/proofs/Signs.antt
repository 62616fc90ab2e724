-- Which words the symbols of expressions are.
use Rattle.std.proofs.Common.{◌≡◌, ℕ, false, List, [], ◌∷◌, refl}
use Rattle.conf_ast.specs.declared.attribute.Attribute.{Attribute}
use Rattle.conf_ast.specs.declared.attribute.Constant.{Constant}
use Rattle.conf_lex.specs.declared.symbol.Symbol.{Symbol}
use Rattle.conf_lex.specs.declared.symbol.Symbol.TheVariants as sym
use Rattle.conf_lex.specs.declared.word.Word.{Word}
use Rattle.conf_lex.specs.declared.word.Word.TheVariants as words
use Rattle.bits_ip.specs.declared.address.Addr.{Addr}
use Rattle.bits_ip.specs.declared.prefix.Prefix.{Prefix}
use Rattle.conf_lex.specs.Symbols.{is_placed}
use Rattle.conf_lex.specs.Kind.{kind_of, symbol}
use Rattle.conf_lex.specs.Grammar.{begins}
use Rattle.conf_lex.proofs.Symbols.{other_plain, other_placed}
use Rattle.expr_syntax.specs.Syntax.{is_atom, is_method, is_property, is_mul_op, is_add_op, is_compare_op, is_logical_op}

-- no word is this symbol
abbrev Isnt : Symbol → Symbol → Type 0
Isnt s wanted = s ≡ wanted → ⊥

-- no symbol without a place comes next
abbrev NoPlain : List Word → Type 0
NoPlain ws = (s : Symbol) → is_placed s ≡ false → begins (symbol s) ws ≡ false

pub no_logical_op : (ws : List Word) → NoPlain ws → begins is_logical_op ws ≡ false
no_logical_op [] h = refl
no_logical_op (w ∷ ws) h = rw (h sym.And refl, h sym.Or refl) refl

pub other_logical_op : (s : Symbol) → Isnt s sym.And → Isnt s sym.Or → is_logical_op (kind_of (words.Symbol s)) ≡ false
other_logical_op s h0 h1 = rw (other_plain s sym.And h0, other_plain s sym.Or h1) refl

pub no_compare_op : (ws : List Word) → NoPlain ws → begins is_compare_op ws ≡ false
no_compare_op [] h = refl
no_compare_op (w ∷ ws) h = rw (h sym.Equal refl, h sym.NotEqual refl, h sym.Less refl, h sym.LessOrEqual refl, h sym.Greater refl, h sym.GreaterOrEqual refl, h sym.Matches refl, h sym.MatchesNot refl) refl

pub other_compare_op : (s : Symbol) → Isnt s sym.Equal → Isnt s sym.NotEqual → Isnt s sym.Less → Isnt s sym.LessOrEqual → Isnt s sym.Greater → Isnt s sym.GreaterOrEqual → Isnt s sym.Matches → Isnt s sym.MatchesNot → is_compare_op (kind_of (words.Symbol s)) ≡ false
other_compare_op s h0 h1 h2 h3 h4 h5 h6 h7 = rw (other_plain s sym.Equal h0, other_plain s sym.NotEqual h1, other_plain s sym.Less h2, other_plain s sym.LessOrEqual h3, other_plain s sym.Greater h4, other_plain s sym.GreaterOrEqual h5, other_plain s sym.Matches h6, other_plain s sym.MatchesNot h7) refl

pub no_add_op : (ws : List Word) → NoPlain ws → begins is_add_op ws ≡ false
no_add_op [] h = refl
no_add_op (w ∷ ws) h = rw (h sym.Plus refl, h sym.Minus refl) refl

pub other_add_op : (s : Symbol) → Isnt s sym.Plus → Isnt s sym.Minus → is_add_op (kind_of (words.Symbol s)) ≡ false
other_add_op s h0 h1 = rw (other_plain s sym.Plus h0, other_plain s sym.Minus h1) refl

pub no_mul_op : (ws : List Word) → NoPlain ws → begins is_mul_op ws ≡ false
no_mul_op [] h = refl
no_mul_op (w ∷ ws) h = rw (h sym.Star refl, h sym.Slash refl) refl

pub other_mul_op : (s : Symbol) → Isnt s sym.Star → Isnt s sym.Slash → is_mul_op (kind_of (words.Symbol s)) ≡ false
other_mul_op s h0 h1 = rw (other_plain s sym.Star h0, other_plain s sym.Slash h1) refl

pub no_property : (ws : List Word) → NoPlain ws → begins is_property ws ≡ false
no_property [] h = refl
no_property (w ∷ ws) h = rw (h sym.Len refl, h sym.First refl, h sym.Last refl, h sym.Ip refl) refl

pub other_property : (s : Symbol) → Isnt s sym.Len → Isnt s sym.First → Isnt s sym.Last → Isnt s sym.Ip → is_property (kind_of (words.Symbol s)) ≡ false
other_property s h0 h1 h2 h3 = rw (other_plain s sym.Len h0, other_plain s sym.First h1, other_plain s sym.Last h2, other_plain s sym.Ip h3) refl

pub other_method : (s : Symbol) → Isnt s sym.Prepend → Isnt s sym.Add → Isnt s sym.Delete → Isnt s sym.Filter → (at : ℕ) → is_method (kind_of (words.Placed at s)) ≡ false
other_method s h0 h1 h2 h3 at = rw (other_placed at s sym.Prepend h0, other_placed at s sym.Add h1, other_placed at s sym.Delete h2, other_placed at s sym.Filter h3) refl

pub placed_method : (w : Word) (at : ℕ) (s : Symbol) → w ≡ words.Placed at s → ((a : ℕ) → is_method (kind_of (words.Placed a s)) ≡ false) → is_method (kind_of w) ≡ false
placed_method w at s is none = rw is (none at)

plain_atom : (s : Symbol) → is_atom (kind_of (words.Symbol s)) ≡ false
plain_atom sym.Router = refl
plain_atom _ = refl

pub not_atom : (w : Word) → ((at value : ℕ) → w ≡ words.Number at value → ⊥) → ((at start len : ℕ) → w ≡ words.Text at start len → ⊥) → ((at : ℕ) (addr : Addr) → w ≡ words.Ip at addr → ⊥) → ((at : ℕ) (net : Prefix) → w ≡ words.Prefix at net → ⊥) → ((at : ℕ) (attribute : Attribute) → w ≡ words.Attribute at attribute → ⊥) → ((at : ℕ) (constant : Constant) → w ≡ words.Constant at constant → ⊥) → ((at : ℕ) (s : Symbol) → w ≡ words.Placed at s → ⊥) → is_atom (kind_of w) ≡ false
not_atom (words.Number at value) a b c d e f g = absurd (a at value refl)
not_atom (words.Text at start len) a b c d e f g = absurd (b at start len refl)
not_atom (words.Ip at addr) a b c d e f g = absurd (c at addr refl)
not_atom (words.Prefix at net) a b c d e f g = absurd (d at net refl)
not_atom (words.Attribute at attribute) a b c d e f g = absurd (e at attribute refl)
not_atom (words.Constant at constant) a b c d e f g = absurd (f at constant refl)
not_atom (words.Placed at s) a b c d e f g = absurd (g at s refl)
not_atom (words.Symbol s) a b c d e f g = plain_atom s
not_atom _ a b c d e f g = refl
