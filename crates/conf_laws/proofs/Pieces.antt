-- Words and how they are written, of which each configuration can be completed.
use Rattle.std.proofs.Common.{◌≡◌, ℕ, ◌-◌, Bool, true, false, cond, List, [], ◌∷◌, ◌++◌, Option, Some, None, refl, sym, ap, ◌∙◌, arith}
use Rattle.std.specs.Prelude.{codes}
use Rattle.std.specs.Prelude.{decimal}
use Rattle.std.proofs.lemmas.Fmt.{decimal_digit}
use Rattle.bits_ip.specs.Text.{v4_text}
use Rattle.bits_ip.specs.declared.address.Addr.TheVariants.{V4}
use Rattle.conf_lex.specs.Attributes.{attribute_of, constant_of}
use Rattle.conf_lex.specs.Symbols.{symbol_of, is_placed, is_else, is_colon, is_slash}
use Rattle.conf_lex.specs.Words.{symbol_word}
use Rattle.conf_scan.specs.Shapes.{IsShape, IsDigits}
use Rattle.conf_scan.specs.declared.scan.Lexeme.TheVariants as lexemes
use Rattle.conf_ast.specs.declared.attribute.Attribute.{Attribute}
use Rattle.conf_ast.specs.declared.attribute.Attribute.TheVariants as attributes
use Rattle.conf_lex.specs.declared.symbol.Symbol.{Symbol}
use Rattle.conf_lex.specs.declared.symbol.Symbol.TheVariants as symbols
use Rattle.conf_scan.specs.declared.token.TokenKind.{TokenKind}
use Rattle.conf_scan.specs.declared.token.TokenKind.TheVariants as kinds
use Rattle.conf_lex.specs.declared.word.Word.{Word}
use Rattle.conf_lex.specs.declared.word.Word.TheVariants as words
use Rattle.conf_lex.specs.Kind.{Kind, IsAddress, IsAttribute, IsSymbol, kind_of}
use Rattle.conf_words.specs.declared.significant.Region.{Region}
use Rattle.conf_laws.proofs.Marks.{Mark, sym_of, alone, constant_kind, named_kind, unquoted, spelled_kind, colon_first, slash_first, sort_first, behind_one, folded, first_kind, behind_kind, is_significant_kind, heard}
use Rattle.conf_laws.specs.Spaced.{IsSpelling, AreSpellings}

abbrev pub is_ip : TokenKind → Bool
is_ip (kinds.Ip addr) = true
is_ip _ = false

abbrev pub is_number : Option TokenKind → Bool
is_number (Some (kinds.Number n)) = true
is_number _ = false

pub no_ip : (k : TokenKind) (b : Bool) (o : Option TokenKind) → is_ip k ≡ false → folded k b o ≡ None
no_ip (kinds.Ip addr) b o e = absurd cc
no_ip kinds.Name b o e = refl
no_ip kinds.QuotedName b o e = refl
no_ip (kinds.Number n) b o e = refl
no_ip kinds.Text b o e = refl
no_ip kinds.Punctuation b o e = refl

-- what is heard where a word of this kind comes first
abbrev pub heard_then : Region → Kind → List Mark → List Kind
heard_then r k rest = cond (is_significant_kind r k) (k ∷ heard (behind_kind r k) 0 rest) (heard (behind_kind r k) 0 rest)

-- a word and its tokens
abbrev pub Piece : Type 0
Piece = Word × List Mark

pub record IsPiece (p : Piece) : Type 0 where
  pub spelled : AreSpellings p.1
  pub heard : (r : Region) (rest : List Mark) → slash_first rest ≡ false → heard r 0 (p.1 ++ rest) ≡ heard_then r (kind_of p.0) rest
  pub no_slash : (rest : List Mark) → slash_first (p.1 ++ rest) ≡ false
  pub no_number : (rest : List Mark) → is_number (sort_first (p.1 ++ rest)) ≡ false
  pub colon : (rest : List Mark) → colon_first (p.1 ++ rest) ≡ true → kind_of p.0 ≡ IsSymbol symbols.Colon

abbrev pub Good : Type 0
Good = (p : Piece) × IsPiece p

one_heard : (r : Region) (m : Mark) (rest : List Mark) (k : Kind) → first_kind m rest ≡ (k, 1) → heard r 0 (m ∷ rest) ≡ heard_then r k rest
one_heard r m rest k e = ap (λ (j : Kind × ℕ). cond (is_significant_kind r j.0) (j.0 ∷ heard (behind_kind r j.0) (j.1 - 1) rest) (heard (behind_kind r j.0) (j.1 - 1) rest)) e

plain_first : (m : Mark) (rest : List Mark) → is_else (sym_of m) ≡ false → is_ip m.1 ≡ false → first_kind m rest ≡ (alone m.0 m.1, 1)
plain_first m rest plain no_addr = rw (plain, no_ip m.1 (slash_first rest) (sort_first (behind_one rest)) no_addr) refl

symbol_kind : (s : Symbol) (b : Bool) → is_placed s ≡ b → kind_of (symbol_word 0 s) ≡ IsSymbol s
symbol_kind s true is = rw (is, is) refl
symbol_kind s false is = rw (is, is) refl

colon_is : (s : Symbol) → is_colon (Some s) ≡ true → s ≡ symbols.Colon
colon_is symbols.Colon e = refl
colon_is _ e = absurd cc

-- a word or sign of the grammars, spelled so
pub word_piece : (s : Symbol) (slice : List ℕ) → symbol_of slice ≡ Some s → IsShape lexemes.Word slice (32 ∷ []) → is_else (Some s) ≡ false → is_slash (Some s) ≡ false → IsPiece (symbol_word 0 s, (slice, kinds.Name) ∷ [])
word_piece s slice is shape no_else slash = record {
  spelled = (record { sort = lexemes.Word; shape = shape; value = tt }, tt);
  heard = λ r rest calm. one_heard r (slice, kinds.Name) rest (kind_of (symbol_word 0 s)) (plain_first (slice, kinds.Name) rest (ap is_else is ∙ no_else) refl ∙ ap (λ (k : Kind). (k, 1)) (ap (spelled_kind (unquoted slice)) is ∙ sym (symbol_kind s (is_placed s) refl)));
  no_slash = λ rest. ap is_slash is ∙ slash;
  no_number = λ rest. refl;
  colon = λ rest e. symbol_kind s (is_placed s) refl ∙ ap IsSymbol (colon_is s (ap is_colon (sym is) ∙ e));
}

pub sign_piece : (s : Symbol) (slice : List ℕ) → symbol_of slice ≡ Some s → IsShape lexemes.Punctuation slice (32 ∷ []) → is_else (Some s) ≡ false → is_slash (Some s) ≡ false → IsPiece (symbol_word 0 s, (slice, kinds.Punctuation) ∷ [])
sign_piece s slice is shape no_else slash = record {
  spelled = (record { sort = lexemes.Punctuation; shape = shape; value = tt }, tt);
  heard = λ r rest calm. one_heard r (slice, kinds.Punctuation) rest (kind_of (symbol_word 0 s)) (plain_first (slice, kinds.Punctuation) rest (ap is_else is ∙ no_else) refl ∙ ap (λ (k : Kind). (k, 1)) (ap (spelled_kind (unquoted slice)) is ∙ sym (symbol_kind s (is_placed s) refl)));
  no_slash = λ rest. ap is_slash is ∙ slash;
  no_number = λ rest. refl;
  colon = λ rest e. symbol_kind s (is_placed s) refl ∙ ap IsSymbol (colon_is s (ap is_colon (sym is) ∙ e));
}

-- an attribute, spelled so
pub attribute_piece : (a : Attribute) (slice : List ℕ) → symbol_of slice ≡ None → attribute_of slice ≡ Some a → IsShape lexemes.Word slice (32 ∷ []) → IsPiece (words.Attribute 0 a, (slice, kinds.Name) ∷ [])
attribute_piece a slice none is shape = record {
  spelled = (record { sort = lexemes.Word; shape = shape; value = tt }, tt);
  heard = λ r rest calm. one_heard r (slice, kinds.Name) rest (IsAttribute a) (plain_first (slice, kinds.Name) rest (ap is_else none) refl ∙ ap (λ (k : Kind). (k, 1)) (ap (spelled_kind (unquoted slice)) none ∙ ap (named_kind (constant_kind (constant_of slice))) is));
  no_slash = λ rest. ap is_slash none;
  no_number = λ rest. refl;
  colon = λ rest e. absurd (let never : is_colon None ≡ true = ap is_colon (sym none) ∙ e in cc);
}

-- ---- the pieces

pub quoted_piece : IsPiece (words.Name 0 0 0, (codes "'a'", kinds.QuotedName) ∷ [])
quoted_piece = record {
  spelled = (record { sort = lexemes.QuotedName; shape = record { name = 97 ∷ []; whole = refl; some = omega arith; bytes = refl }; value = tt }, tt);
  heard = λ r rest calm. refl;
  no_slash = λ rest. refl;
  no_number = λ rest. refl;
  colon = λ rest e. absurd cc;
}

pub text_piece : IsPiece (words.Text 0 0 0, (34 ∷ 34 ∷ [], kinds.Text) ∷ [])
text_piece = record {
  spelled = (record { sort = lexemes.Text; shape = record { text = []; whole = refl; bytes = refl }; value = tt }, tt);
  heard = λ r rest calm. refl;
  no_slash = λ rest. refl;
  no_number = λ rest. refl;
  colon = λ rest e. absurd cc;
}

zero_dotted : IsShape lexemes.Ipv4 (codes "0.0.0.0") (32 ∷ [])
zero_dotted = (48 ∷ [], codes "0.0.0", zero_digit, refl, (48 ∷ [], codes "0.0", zero_digit, refl, (48 ∷ [], 48 ∷ [], zero_digit, refl, zero_digit)))
  where
    zero_digit : IsDigits (48 ∷ [])
    zero_digit = (omega arith, refl)

zero_spelling : IsSpelling (codes "0.0.0.0", kinds.Ip (V4 0))
zero_spelling = record { sort = lexemes.Ipv4; shape = zero_dotted; value = (omega arith, zero_text) }
  where
    zero_text : codes "0.0.0.0" ≡ v4_text 0
    zero_text = let zero : decimal 0 ≡ 48 ∷ [] = decimal_digit 0 (omega arith) in rw zero refl

pub address_piece : IsPiece (words.Ip 0 (V4 0), (codes "0.0.0.0", kinds.Ip (V4 0)) ∷ [])
address_piece = record {
  spelled = (zero_spelling, tt);
  heard = λ r rest calm. one_heard r (codes "0.0.0.0", kinds.Ip (V4 0)) rest IsAddress (rw calm refl);
  no_slash = λ rest. refl;
  no_number = λ rest. refl;
  colon = λ rest e. absurd cc;
}

pub prefix_piece : IsPiece (words.Prefix 0 (record { addr = V4 0; len = 0 }), (codes "0.0.0.0", kinds.Ip (V4 0)) ∷ (47 ∷ [], kinds.Punctuation) ∷ (48 ∷ [], kinds.Number 0) ∷ [])
unfolding symbol_of
prefix_piece = record {
  spelled = (zero_spelling, (record { sort = lexemes.Punctuation; shape = (refl, λ e. refl); value = tt }, (record { sort = lexemes.Decimal; shape = (omega arith, refl); value = record { some = omega arith; value = refl; fits = omega arith } }, tt)));
  heard = λ r rest calm. refl;
  no_slash = λ rest. refl;
  no_number = λ rest. refl;
  colon = λ rest e. absurd cc;
}

pub spelled_as : symbol_of (codes "as") ≡ Some symbols.As
unfolding symbol_of
spelled_as = refl

pub spelled_id : symbol_of (codes "id") ≡ Some symbols.Id
unfolding symbol_of
spelled_id = refl

pub spelled_table : symbol_of (codes "table") ≡ Some symbols.Table
unfolding symbol_of
spelled_table = refl

pub spelled_metric : symbol_of (codes "metric") ≡ Some symbols.Metric
unfolding symbol_of
spelled_metric = refl

pub spelled_communities : symbol_of (codes "communities") ≡ Some symbols.Communities
unfolding symbol_of
spelled_communities = refl

pub no_symbol_bgp_med : symbol_of (codes "bgp_med") ≡ None
unfolding symbol_of
no_symbol_bgp_med = refl

pub spelled_bgp_med : attribute_of (codes "bgp_med") ≡ Some attributes.BgpMed
unfolding attribute_of
spelled_bgp_med = refl

pub spelled_address : symbol_of (codes "address") ≡ Some symbols.Address
unfolding symbol_of
spelled_address = refl

pub spelled_time : symbol_of (codes "time") ≡ Some symbols.Time
unfolding symbol_of
spelled_time = refl

pub spelled_retry : symbol_of (codes "retry") ≡ Some symbols.Retry
unfolding symbol_of
spelled_retry = refl

pub spelled_hop : symbol_of (codes "hop") ≡ Some symbols.Hop
unfolding symbol_of
spelled_hop = refl

pub spelled_self : symbol_of (codes "self") ≡ Some symbols.SelfWord
unfolding symbol_of
spelled_self = refl

pub spelled_yes : symbol_of (codes "yes") ≡ Some symbols.Yes
unfolding symbol_of
spelled_yes = refl

pub spelled_static : symbol_of (codes "static") ≡ Some symbols.Static
unfolding symbol_of
spelled_static = refl

pub spelled_then : symbol_of (codes "then") ≡ Some symbols.Then
unfolding symbol_of
spelled_then = refl

pub spelled_do : symbol_of (codes "do") ≡ Some symbols.Do
unfolding symbol_of
spelled_do = refl

pub spelled_bool : symbol_of (codes "bool") ≡ Some symbols.Bool
unfolding symbol_of
spelled_bool = refl

pub spelled_in : symbol_of (codes "in") ≡ Some symbols.In
unfolding symbol_of
spelled_in = refl

pub spelled_all : symbol_of (codes "all") ≡ Some symbols.All
unfolding symbol_of
spelled_all = refl

pub spelled_blackhole : symbol_of (codes "blackhole") ≡ Some symbols.Blackhole
unfolding symbol_of
spelled_blackhole = refl

pub spelled_warn : symbol_of (codes "warn") ≡ Some symbols.Warn
unfolding symbol_of
spelled_warn = refl

pub spelled_len : symbol_of (codes "len") ≡ Some symbols.Len
unfolding symbol_of
spelled_len = refl

pub spelled_true : symbol_of (codes "true") ≡ Some symbols.True
unfolding symbol_of
spelled_true = refl

pub no_symbol_net : symbol_of (codes "net") ≡ None
unfolding symbol_of
no_symbol_net = refl

pub spelled_net : attribute_of (codes "net") ≡ Some attributes.Net
unfolding attribute_of
spelled_net = refl

pub spelled_empty : symbol_of (codes "empty") ≡ Some symbols.Empty
unfolding symbol_of
spelled_empty = refl

pub spelled_ipv4 : symbol_of (codes "ipv4") ≡ Some symbols.Ipv4
unfolding symbol_of
spelled_ipv4 = refl

pub sign_semicolon : symbol_of (codes ";") ≡ Some symbols.Semicolon
unfolding symbol_of
sign_semicolon = refl

pub sign_openbrace : symbol_of (codes "{") ≡ Some symbols.OpenBrace
unfolding symbol_of
sign_openbrace = refl

pub sign_closebrace : symbol_of (codes "}") ≡ Some symbols.CloseBrace
unfolding symbol_of
sign_closebrace = refl

pub sign_openparenthesis : symbol_of (codes "(") ≡ Some symbols.OpenParenthesis
unfolding symbol_of
sign_openparenthesis = refl

pub sign_closeparenthesis : symbol_of (codes ")") ≡ Some symbols.CloseParenthesis
unfolding symbol_of
sign_closeparenthesis = refl

pub sign_comma : symbol_of (codes ",") ≡ Some symbols.Comma
unfolding symbol_of
sign_comma = refl

pub sign_closebracket : symbol_of (codes "]") ≡ Some symbols.CloseBracket
unfolding symbol_of
sign_closebracket = refl

pub sign_closemask : symbol_of (codes "=]") ≡ Some symbols.CloseMask
unfolding symbol_of
sign_closemask = refl

pub sign_colon : symbol_of (codes ":") ≡ Some symbols.Colon
unfolding symbol_of
sign_colon = refl

pub sign_star : symbol_of (codes "*") ≡ Some symbols.Star
unfolding symbol_of
sign_star = refl

pub sign_equal : symbol_of (codes "=") ≡ Some symbols.Equal
unfolding symbol_of
sign_equal = refl

-- every word that a completion may need
abbrev pub pieces : List Good
pieces =
    (_, quoted_piece) ∷ (_, text_piece) ∷ (_, address_piece) ∷ (_, prefix_piece)
    ∷ (_, word_piece symbols.As (codes "as") (spelled_as) (refl, refl) refl refl)
    ∷ (_, word_piece symbols.Id (codes "id") (spelled_id) (refl, refl) refl refl)
    ∷ (_, word_piece symbols.Table (codes "table") (spelled_table) (refl, refl) refl refl)
    ∷ (_, word_piece symbols.Metric (codes "metric") (spelled_metric) (refl, refl) refl refl)
    ∷ (_, word_piece symbols.Communities (codes "communities") (spelled_communities) (refl, refl) refl refl)
    ∷ (_, attribute_piece attributes.BgpMed (codes "bgp_med") no_symbol_bgp_med spelled_bgp_med (refl, refl))
    ∷ (_, word_piece symbols.Address (codes "address") (spelled_address) (refl, refl) refl refl)
    ∷ (_, word_piece symbols.Time (codes "time") (spelled_time) (refl, refl) refl refl)
    ∷ (_, word_piece symbols.Retry (codes "retry") (spelled_retry) (refl, refl) refl refl)
    ∷ (_, word_piece symbols.Hop (codes "hop") (spelled_hop) (refl, refl) refl refl)
    ∷ (_, word_piece symbols.SelfWord (codes "self") (spelled_self) (refl, refl) refl refl)
    ∷ (_, word_piece symbols.Yes (codes "yes") (spelled_yes) (refl, refl) refl refl)
    ∷ (_, word_piece symbols.Static (codes "static") (spelled_static) (refl, refl) refl refl)
    ∷ (_, word_piece symbols.Then (codes "then") (spelled_then) (refl, refl) refl refl)
    ∷ (_, word_piece symbols.Do (codes "do") (spelled_do) (refl, refl) refl refl)
    ∷ (_, word_piece symbols.Bool (codes "bool") (spelled_bool) (refl, refl) refl refl)
    ∷ (_, word_piece symbols.In (codes "in") (spelled_in) (refl, refl) refl refl)
    ∷ (_, word_piece symbols.All (codes "all") (spelled_all) (refl, refl) refl refl)
    ∷ (_, word_piece symbols.Blackhole (codes "blackhole") (spelled_blackhole) (refl, refl) refl refl)
    ∷ (_, word_piece symbols.Warn (codes "warn") (spelled_warn) (refl, refl) refl refl)
    ∷ (_, word_piece symbols.Len (codes "len") (spelled_len) (refl, refl) refl refl)
    ∷ (_, word_piece symbols.True (codes "true") (spelled_true) (refl, refl) refl refl)
    ∷ (_, attribute_piece attributes.Net (codes "net") no_symbol_net spelled_net (refl, refl))
    ∷ (_, word_piece symbols.Empty (codes "empty") (spelled_empty) (refl, refl) refl refl)
    ∷ (_, word_piece symbols.Ipv4 (codes "ipv4") (spelled_ipv4) (refl, refl) refl refl)
    ∷ (_, sign_piece symbols.Semicolon (codes ";") (sign_semicolon) (refl, λ e. refl) refl refl)
    ∷ (_, sign_piece symbols.OpenBrace (codes "{") (sign_openbrace) (refl, λ e. refl) refl refl)
    ∷ (_, sign_piece symbols.CloseBrace (codes "}") (sign_closebrace) (refl, λ e. refl) refl refl)
    ∷ (_, sign_piece symbols.OpenParenthesis (codes "(") (sign_openparenthesis) (refl, λ e. refl) refl refl)
    ∷ (_, sign_piece symbols.CloseParenthesis (codes ")") (sign_closeparenthesis) (refl, λ e. refl) refl refl)
    ∷ (_, sign_piece symbols.Comma (codes ",") (sign_comma) (refl, λ e. refl) refl refl)
    ∷ (_, sign_piece symbols.CloseBracket (codes "]") (sign_closebracket) (refl, λ e. refl) refl refl)
    ∷ (_, sign_piece symbols.CloseMask (codes "=]") (sign_closemask) (refl, λ e. refl) refl refl)
    ∷ (_, sign_piece symbols.Colon (codes ":") (sign_colon) (refl, λ e. refl) refl refl)
    ∷ (_, sign_piece symbols.Star (codes "*") (sign_star) (refl, λ e. refl) refl refl)
    ∷ (_, sign_piece symbols.Equal (codes "=") (sign_equal) (refl, λ e. refl) refl refl)
    ∷ []
