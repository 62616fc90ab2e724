-- For private contracts alone: words that can't stand behind others, and words that can, as far as
-- the last of these and the brackets among them tell.
-- Not modelled: which words these are then (`conf_syntax::is_apart`, `is_joined`), and all others.
-- From: own, of the grammars of `expr_syntax` and of `specs/Syntax`.
-- Example: `define A = [ 10.0.0.0/8 ,` ends in a set, and `= [ 10.0.0.0/8` in one of its items.
use Rattle.std.specs.Prelude.{◌≡◌, Bool, true, false, ◌||◌, List, [], ◌∷◌, ◌++◌}
use Rattle.std.specs.List.{list_any}
use Rattle.conf_lex.specs.declared.symbol.Symbol.TheVariants as sym
use Rattle.conf_lex.specs.declared.word.Word.{Word}
use Rattle.conf_lex.specs.Kind.{Kind, kind_of, symbol, address, prefix}

-- one of the words is of such a kind
abbrev pub has : (Kind → Bool) → List Word → Bool
has p words = list_any (λ w. p (kind_of w)) words

-- the words of protocols in whose place others are known
abbrev pub is_option : Kind → Bool
is_option k = symbol sym.Neighbor k || symbol sym.Next k || symbol sym.Limit k || symbol sym.Warn k
    || symbol sym.Blackhole k

-- Behind the end of a statement, an address and a prefix no address stands, and a prefix only where
-- it begins a label of a `case`.
abbrev pub is_end : Kind → Bool
is_end k = symbol sym.Semicolon k || symbol sym.CloseBrace k || address k || prefix k

-- nor does an address stand behind `route`
abbrev pub is_last : Kind → Bool
is_last k = is_end k || symbol sym.Route k

-- ---- sets

abbrev pub is_bracket : Kind → Bool
is_bracket k = symbol sym.OpenBracket k || symbol sym.CloseBracket k

-- the last bracket of the words opens a set
pub record IsInSet (words : List Word) : Type 0 where
  pub front : List Word
  pub opener : Word
  pub behind : List Word
  pub cut : words ≡ front ++ opener ∷ behind
  pub opens : symbol sym.OpenBracket (kind_of opener) ≡ true
  pub none : has is_bracket behind ≡ false

-- the ends of the items that are a prefix or a pair
abbrev pub is_item_end : Kind → Bool
is_item_end k = prefix k || symbol sym.Plus k || symbol sym.Minus k || symbol sym.CloseBrace k
    || symbol sym.CloseParenthesis k

-- the words end like such an item
pub record EndsItem (words : List Word) : Type 0 where
  pub front : List Word
  pub last : Word
  pub cut : words ≡ front ++ last ∷ []
  pub is : is_item_end (kind_of last) ≡ true

-- ---- routes

-- the words end in `route` and a prefix
pub record EndsNet (words : List Word) : Type 0 where
  pub front : List Word
  pub opener : Word
  pub net : Word
  pub cut : words ≡ (front ++ opener ∷ []) ++ net ∷ []
  pub opens : symbol sym.Route (kind_of opener) ≡ true
  pub is : prefix (kind_of net) ≡ true
