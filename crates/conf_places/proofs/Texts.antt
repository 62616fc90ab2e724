-- The words of a text stand where its tokens do.
use Rattle.std.proofs.Common.{◌≡◌, ℕ, zero, suc, ◌+◌, ◌-◌, ◌<◌, arith, Bool, true, false, ◌&&◌, cond, if◌then◌else◌, List, [], ◌∷◌, ◌++◌, length, map, Option, Some, None, refl, ap, subst, sym as flip}
use Rattle.bits_ip.specs.declared.address.Addr.{Addr}
use Rattle.conf_scan.specs.Lex.{Lexes}
use Rattle.conf_scan.specs.Spans.{IsSpan}
use Rattle.conf_lex.specs.Attributes.{attribute_of, constant_of}
use Rattle.conf_lex.specs.Symbols.{symbol_of, is_placed, is_else, is_colon, is_slash}
use Rattle.conf_lex.specs.Words.{word_of, kind_word, constant_or_name, named_word, spelled_word, is_prefix, first_word, slashed, or_alone, token_symbol, words_from, words_of}
use Rattle.conf_scan.specs.Spans.{slice_of}
use Rattle.conf_ast.specs.declared.attribute.Attribute.{Attribute}
use Rattle.conf_ast.specs.declared.attribute.Constant.{Constant}
use Rattle.conf_lex.specs.declared.symbol.Symbol.{Symbol}
use Rattle.conf_lex.specs.declared.symbol.Symbol.TheVariants as symbols
use Rattle.conf_scan.specs.declared.token.Token.{Token}
use Rattle.conf_scan.specs.declared.token.TokenKind.{TokenKind}
use Rattle.conf_scan.specs.declared.token.TokenKind.TheVariants as kinds
use Rattle.conf_lex.specs.declared.word.Word.{Word}
use Rattle.conf_lex.specs.declared.word.Word.TheVariants as words
use Rattle.conf_words.specs.Significant.{significant, is_significant, behind, significant_words}
use Rattle.conf_words.specs.declared.significant.Region.{Region}
use Rattle.conf_words.specs.declared.significant.Region.TheVariants as regions
use Rattle.conf_tree.specs.Read.{IsConfigText}
use Rattle.conf_tree.specs.View.{statements_tree}
use Rattle.conf_ast.specs.declared.configurations.Statement.{Statement}
use Rattle.conf_ast.specs.Configurations.{configuration_of}
use Rattle.conf_places.specs.Configurations.{places}
use Rattle.conf_places.specs.Words.{IsTokenPlace, of_word, of_words}
use Rattle.conf_places.proofs.Every.{Every, join}
use Rattle.conf_places.proofs.Statements.{declarations_on}
use Rattle.conf_places.proofs.Trees.{on_tree}

module _ (P : ℕ → Type 0) where
  abbrev Placed : Word → Type 0
  Placed w = Every P (of_word w)

  symbol_placed : (b : Bool) (at : ℕ) (s : Symbol) → P at → Placed (if b then words.Placed at s else words.Symbol s)
  symbol_placed true at s p = (p, tt)
  symbol_placed false at s p = tt

  constant_placed : (t : Token) (c : Option Constant) → P t.at → Placed (constant_or_name t c)
  constant_placed t None p = (p, tt)
  constant_placed t (Some c) p = (p, tt)

  named_placed : (t : Token) (slice : List ℕ) (a : Option Attribute) → P t.at → Placed (named_word t slice a)
  named_placed t slice None p = constant_placed t (constant_of slice) p
  named_placed t slice (Some a) p = (p, tt)

  spelled_placed : (t : Token) (slice : List ℕ) (s : Option Symbol) → P t.at → Placed (spelled_word t slice s)
  spelled_placed t slice None p = named_placed t slice (attribute_of slice) p
  spelled_placed t slice (Some s) p = symbol_placed (is_placed s) t.at s p

  kind_placed : (text : List ℕ) (t : Token) (kind : TokenKind) → P t.at → Placed (kind_word text t kind)
  kind_placed text t kinds.QuotedName p = (p, tt)
  kind_placed text t kinds.Text p = (p, tt)
  kind_placed text t (kinds.Number n) p = (p, tt)
  kind_placed text t (kinds.Ip addr) p = (p, tt)
  kind_placed text t _ p = spelled_placed t (slice_of text t) (symbol_of (slice_of text t)) p

  prefix_placed : (b : Bool) (at n : ℕ) (addr : Addr) → P at → Placed (if b then words.Prefix at (record { addr = addr; len = n }) else words.BadPrefix at)
  prefix_placed true at n addr p = (p, tt)
  prefix_placed false at n addr p = (p, tt)

  either_placed : (at : ℕ) (first : TokenKind) (slash : Bool) (last : TokenKind) (alone : Word) → P at → Placed alone → Placed (or_alone (slashed at first slash last) alone).0
  either_placed at (kinds.Ip addr) true (kinds.Number n) alone p w = prefix_placed (is_prefix addr n) at n addr p
  either_placed at _ _ _ alone p w = w

  else_placed : (b : Bool) (first other : Word × ℕ) → Placed first.0 → Placed other.0 → Placed (if b then first else other).0
  else_placed true first other v w = v
  else_placed false first other v w = w

  pub first_placed : (text : List ℕ) (t : Token) (ts : List Token) → P t.at → Placed (first_word text t ts).0
  first_placed text t [] p = kind_placed text t t.kind p
  first_placed text t (u ∷ []) p = else_placed (is_else (token_symbol text t) && is_colon (token_symbol text u)) (words.Symbol symbols.ElseColon, 2) (word_of text t, 1) tt (kind_placed text t t.kind p)
  first_placed text t (u ∷ v ∷ ts) p =
      else_placed (is_else (token_symbol text t) && is_colon (token_symbol text u)) (words.Symbol symbols.ElseColon, 2) (or_alone (slashed t.at t.kind (is_slash (token_symbol text u)) v.kind) (word_of text t)) tt
      (either_placed t.at t.kind (is_slash (token_symbol text u)) v.kind (word_of text t) p (kind_placed text t t.kind p))

  pub from_placed : (text : List ℕ) (i skip : ℕ) (ts : List Token) → Every (λ (t : Token). P t.at) ts → Every (λ (x : ℕ × Word). Placed x.1) (words_from text i skip ts)
  from_placed text i skip [] h = tt
  from_placed text i (suc skip) (t ∷ ts) h = from_placed text (i + 1) skip ts h.1
  from_placed text i zero (t ∷ ts) h = (first_placed text t ts h.0, from_placed text (i + 1) ((first_word text t ts).1 - 1) ts h.1)

  kept : (b : Bool) (p : ℕ × Word) (rest : List (ℕ × Word)) → Placed p.1 → Every (λ (x : ℕ × Word). Placed x.1) rest → Every (λ (x : ℕ × Word). Placed x.1) (cond b (p ∷ rest) rest)
  kept true p rest w h = (w, h)
  kept false p rest w h = h

  significant_placed : (region : Region) (ps : List (ℕ × Word)) → Every (λ (x : ℕ × Word). Placed x.1) ps → Every (λ (x : ℕ × Word). Placed x.1) (significant region ps)
  significant_placed region [] h = tt
  significant_placed region (p ∷ ps) h = kept (is_significant region p.1) p (significant (behind region p.1) ps) h.0 (significant_placed (behind region p.1) ps h.1)

  all_words : (ps : List (ℕ × Word)) → Every (λ (x : ℕ × Word). Placed x.1) ps → Every P (of_words (map (λ (p : ℕ × Word). p.1) ps))
  all_words [] h = tt
  all_words (p ∷ ps) h = join P (of_word p.1) (of_words (map (λ (q : ℕ × Word). q.1) ps)) h.0 (all_words ps h.1)

  pub words_placed : (text : List ℕ) (tokens : List Token) → Every (λ (t : Token). P t.at) tokens → Every P (of_words (significant_words text tokens))
  words_placed text tokens h = all_words (significant regions.Statements (words_of text tokens)) (significant_placed regions.Statements (words_of text tokens) (from_placed text 0 0 tokens h))

-- ---- tokens

pub shifted : {X : Type 0} (front back : List X) (x : X) → front ++ x ∷ back ≡ (front ++ x ∷ []) ++ back
shifted [] back x = refl
shifted {X} (y ∷ front) back x = ap (λ (xs : List X). y ∷ xs) (shifted front back x)

-- a token of the text begins where each of these does
each_token : (text : List ℕ) (front back : List Token) → Lexes 0 text (front ++ back) → Every (λ (t : Token). IsTokenPlace text t.at) back
each_token text front [] h = tt
each_token text front (t ∷ back) h =
    ((front, back, t, h, refl), each_token text (front ++ t ∷ []) back (subst (λ (ts : List Token). Lexes 0 text ts) (shifted front back t) h))

-- where a text is a configuration a token of it begins at each place of it
pub at_tokens : (text : List ℕ) (ss : List Statement) → IsConfigText text (statements_tree ss) → Every (λ d. Every (IsTokenPlace text) (places d)) (configuration_of ss)
at_tokens text ss h =
    let placed = words_placed (IsTokenPlace text) text h.0 (each_token text [] h.0 h.1) in
    declarations_on (IsTokenPlace text) ss h.2.fits
    (on_tree (IsTokenPlace text) (statements_tree ss) (subst (λ (ws : List Word). Every (IsTokenPlace text) (of_words ws)) (flip h.2.whole) placed))

-- which is a byte of it
pub within : ((text : List ℕ) (front back : List Token) (t : Token) → Lexes 0 text (front ++ t ∷ back) → IsSpan text t) → (text : List ℕ) (at : ℕ) → IsTokenPlace text at → at < length text
within slices text at h =
    let span = slices text h.0 h.1 h.2 h.3 in
    subst (λ (n : ℕ). n < length text) h.4 (omega (arith, span.some, span.within))
