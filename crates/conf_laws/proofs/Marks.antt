-- What a text says, by the kinds and the bytes of its tokens alone.
use Rattle.std.proofs.Common.{◌≡◌, ℕ, zero, suc, ◌+◌, ◌-◌, ◌≤◌, Bool, true, false, cond, ◌&&◌, List, [], ◌∷◌, ◌++◌, length, map, slice_index_or, Option, Some, None, refl, sym, ap, ◌∙◌, arith}
use Rattle.std.specs.Prelude.{if◌then◌else◌}
use Rattle.bits_ip.specs.declared.address.Addr.{Addr}
use Rattle.conf_lex.specs.Attributes.{attribute_of, constant_of}
use Rattle.conf_lex.specs.Symbols.{symbol_of, is_placed, is_else, is_colon, is_slash}
use Rattle.conf_lex.specs.Words.{kind_symbol, token_symbol, is_prefix, symbol_word, spelled_word, named_word, constant_or_name, kind_word, word_of, prefix_word, slashed, or_alone, first_word, words_from}
use Rattle.conf_scan.specs.Spans.{slice_of}
use Rattle.conf_ast.specs.declared.attribute.Attribute.{Attribute}
use Rattle.conf_ast.specs.declared.attribute.Constant.{Constant}
use Rattle.conf_lex.specs.declared.symbol.Symbol.{Symbol}
use Rattle.conf_lex.specs.declared.symbol.Symbol.TheVariants as symbols
use Rattle.conf_scan.specs.declared.token.Token.{Token}
use Rattle.conf_scan.specs.declared.token.TokenKind.{TokenKind}
use Rattle.conf_scan.specs.declared.token.TokenKind.TheVariants as token_kinds
use Rattle.conf_lex.specs.declared.word.Word.{Word}
use Rattle.conf_lex.specs.Kind.{Kind, IsNumber, IsName, IsText, IsAddress, IsPrefix, IsNoPrefix, IsAttribute, IsConstant, IsSymbol, kind_of, name, symbol}
use Rattle.conf_words.specs.Significant.{behind, is_significant, significant}
use Rattle.conf_laws.specs.Alike.{IsAlike, AreAlike}
use Rattle.conf_words.specs.declared.significant.Region.{Region}
use Rattle.conf_words.specs.declared.significant.Region.TheVariants as regions
use Rattle.conf_laws.proofs.KindTrees.{kinds_of}

-- ---- marks

-- the bytes and the kind of a token
abbrev pub Mark : Type 0
Mark = List ℕ × TokenKind

abbrev pub mark : List ℕ → Token → Mark
mark text t = (slice_of text t, t.kind)

abbrev pub marks : List ℕ → List Token → List Mark
marks text ts = map (mark text) ts

pub marks_both : (text : List ℕ) (xs ys : List Token) → marks text (xs ++ ys) ≡ marks text xs ++ marks text ys
marks_both text [] ys = refl
marks_both text (x ∷ xs) ys = ap (λ (l : List Mark). mark text x ∷ l) (marks_both text xs ys)

pub one_mark : (text other : List ℕ) (t u : Token) → IsAlike text t other u → mark text t ≡ mark other u
one_mark text other t u is = rw (is.bytes, is.kind) refl

pub same_marks : (text other : List ℕ) (ts us : List Token) → AreAlike text ts other us → marks text ts ≡ marks other us
same_marks text other [] [] are = refl
same_marks text other [] (u ∷ us) are = absurd are
same_marks text other (t ∷ ts) [] are = absurd are
same_marks text other (t ∷ ts) (u ∷ us) are = rw (one_mark text other t u are.0, same_marks text other ts us are.1) refl

-- ---- the kind of a word, by its marks

abbrev pub sym_of : Mark → Option Symbol
sym_of m = kind_symbol m.0 m.1

abbrev pub constant_kind : Option Constant → Kind
constant_kind None = IsName
constant_kind (Some c) = IsConstant

abbrev pub named_kind : Kind → Option Attribute → Kind
named_kind k None = k
named_kind k (Some a) = IsAttribute a

-- of a name that is no symbol
abbrev pub unquoted : List ℕ → Kind
unquoted slice = named_kind (constant_kind (constant_of slice)) (attribute_of slice)

-- of a spelling, by what it is if it is no symbol
abbrev pub spelled_kind : Kind → Option Symbol → Kind
spelled_kind k None = k
spelled_kind k (Some s) = IsSymbol s

abbrev pub alone : List ℕ → TokenKind → Kind
alone slice token_kinds.QuotedName = IsName
alone slice token_kinds.Text = IsText
alone slice (token_kinds.Number n) = IsNumber
alone slice (token_kinds.Ip addr) = IsAddress
alone slice token_kinds.Name = spelled_kind (unquoted slice) (symbol_of slice)
alone slice token_kinds.Punctuation = spelled_kind (unquoted slice) (symbol_of slice)

abbrev pub prefix_kind : Addr → ℕ → Kind
prefix_kind addr n = if is_prefix addr n then IsPrefix else IsNoPrefix

abbrev pub colon_first : List Mark → Bool
colon_first [] = false
colon_first (m ∷ ms) = is_colon (sym_of m)

abbrev pub slash_first : List Mark → Bool
slash_first [] = false
slash_first (m ∷ ms) = is_slash (sym_of m)

abbrev pub sort_first : List Mark → Option TokenKind
sort_first [] = None
sort_first (m ∷ ms) = Some m.1

abbrev pub behind_one : List Mark → List Mark
behind_one [] = []
behind_one (m ∷ ms) = ms

abbrev pub folded : TokenKind → Bool → Option TokenKind → Option Kind
folded (token_kinds.Ip addr) true (Some (token_kinds.Number n)) = Some (prefix_kind addr n)
folded _ _ _ = None

abbrev pub or_kind : Option Kind → Kind → Kind × ℕ
or_kind None k = (k, 1)
or_kind (Some j) k = (j, 3)

-- the kind of the word that begins with a mark, and of how many it is made
abbrev pub first_kind : Mark → List Mark → Kind × ℕ
first_kind m ms =
    if is_else (sym_of m) && colon_first ms then (IsSymbol symbols.ElseColon, 2)
    else or_kind (folded m.1 (slash_first ms) (sort_first (behind_one ms))) (alone m.0 m.1)

abbrev Link : Word × ℕ → Kind × ℕ → Type 0
Link x k = (kind_of x.0 ≡ k.0) × (x.1 ≡ k.1)

link_if : (b : Bool) (x y : Word × ℕ) (u v : Kind × ℕ) → Link x u → Link y v → Link (if b then x else y) (if b then u else v)
link_if true x y u v l m = l
link_if false x y u v l m = m

symbol_kind : (i : ℕ) (s : Symbol) (b : Bool) → is_placed s ≡ b → kind_of (symbol_word i s) ≡ IsSymbol s
symbol_kind i s true is = rw (is, is) refl
symbol_kind i s false is = rw (is, is) refl

constant_is : (t : Token) (o : Option Constant) → kind_of (constant_or_name t o) ≡ constant_kind o
constant_is t None = refl
constant_is t (Some c) = refl

named_is : (t : Token) (slice : List ℕ) (o : Option Attribute) → kind_of (named_word t slice o) ≡ named_kind (constant_kind (constant_of slice)) o
named_is t slice None = constant_is t (constant_of slice)
named_is t slice (Some a) = refl

spelled_is : (t : Token) (slice : List ℕ) (o : Option Symbol) → kind_of (spelled_word t slice o) ≡ spelled_kind (unquoted slice) o
spelled_is t slice None = named_is t slice (attribute_of slice)
spelled_is t slice (Some s) = symbol_kind t.at s (is_placed s) refl

alone_is : (text : List ℕ) (t : Token) (k : TokenKind) → kind_of (kind_word text t k) ≡ alone (slice_of text t) k
alone_is text t token_kinds.QuotedName = refl
alone_is text t token_kinds.Text = refl
alone_is text t (token_kinds.Number n) = refl
alone_is text t (token_kinds.Ip addr) = refl
alone_is text t token_kinds.Name = spelled_is t (slice_of text t) (symbol_of (slice_of text t))
alone_is text t token_kinds.Punctuation = spelled_is t (slice_of text t) (symbol_of (slice_of text t))

prefix_is : (i : ℕ) (addr : Addr) (n : ℕ) (b : Bool) → is_prefix addr n ≡ b → kind_of (prefix_word i addr n) ≡ prefix_kind addr n
prefix_is i addr n true is = rw is refl
prefix_is i addr n false is = rw is refl

folded_is : (i : ℕ) (k : TokenKind) (b : Bool) (j : TokenKind) (w : Word) (l : Kind) → kind_of w ≡ l → Link (or_alone (slashed i k b j) w) (or_kind (folded k b (Some j)) l)
folded_is i (token_kinds.Ip addr) true (token_kinds.Number n) w l e = (prefix_is i addr n (is_prefix addr n) refl, refl)
folded_is i (token_kinds.Ip addr) true token_kinds.Name w l e = (e, refl)
folded_is i (token_kinds.Ip addr) true token_kinds.QuotedName w l e = (e, refl)
folded_is i (token_kinds.Ip addr) true (token_kinds.Ip a) w l e = (e, refl)
folded_is i (token_kinds.Ip addr) true token_kinds.Text w l e = (e, refl)
folded_is i (token_kinds.Ip addr) true token_kinds.Punctuation w l e = (e, refl)
folded_is i (token_kinds.Ip addr) false j w l e = (e, refl)
folded_is i token_kinds.Name b j w l e = (e, refl)
folded_is i token_kinds.QuotedName b j w l e = (e, refl)
folded_is i (token_kinds.Number n) b j w l e = (e, refl)
folded_is i token_kinds.Text b j w l e = (e, refl)
folded_is i token_kinds.Punctuation b j w l e = (e, refl)

pub no_second : (k : TokenKind) (b : Bool) → folded k b None ≡ None
no_second (token_kinds.Ip addr) true = refl
no_second (token_kinds.Ip addr) false = refl
no_second token_kinds.Name b = refl
no_second token_kinds.QuotedName b = refl
no_second (token_kinds.Number n) b = refl
no_second token_kinds.Text b = refl
no_second token_kinds.Punctuation b = refl

pub no_slash : (k : TokenKind) (o : Option TokenKind) → folded k false o ≡ None
no_slash (token_kinds.Ip addr) o = refl
no_slash token_kinds.Name o = refl
no_slash token_kinds.QuotedName o = refl
no_slash (token_kinds.Number n) o = refl
no_slash token_kinds.Text o = refl
no_slash token_kinds.Punctuation o = refl

no_colon : (b : Bool) → (b && false) ≡ false
no_colon true = refl
no_colon false = refl

single_is : (m : Mark) (ms : List Mark) (x : Word × ℕ) → ms ≡ [] → Link x (alone m.0 m.1, 1) → Link x (first_kind m ms)
single_is m ms x none l = rw (none, no_colon (is_else (sym_of m)), no_second m.1 false) l

first_is : (text : List ℕ) (t : Token) (ts : List Token) → Link (first_word text t ts) (first_kind (mark text t) (marks text ts))
first_is text t [] = single_is (mark text t) [] (word_of text t, 1) refl (alone_is text t t.kind, refl)
first_is text t (u ∷ []) =
    link_if (is_else (token_symbol text t) && is_colon (token_symbol text u)) _ _ _ _ (refl, refl)
    (rw (no_second t.kind (is_slash (token_symbol text u))) (alone_is text t t.kind, refl))
first_is text t (u ∷ v ∷ ts) =
    link_if (is_else (token_symbol text t) && is_colon (token_symbol text u)) _ _ _ _ (refl, refl)
    (folded_is t.at t.kind (is_slash (token_symbol text u)) v.kind (word_of text t) (alone (slice_of text t) t.kind) (alone_is text t t.kind))

-- ---- what is said, by kinds

abbrev pub behind_kind : Region → Kind → Region
behind_kind regions.Statements k = cond (symbol symbols.Log k) regions.Log (cond (symbol symbols.Protocol k) regions.Protocol regions.Statements)
behind_kind regions.Log k = cond (symbol symbols.Semicolon k) regions.Statements regions.Log
behind_kind regions.Protocol k = cond (symbol symbols.Device k) regions.Device regions.Statements
behind_kind regions.Device k = cond (name k) regions.Named (cond (symbol symbols.OpenBrace k) (regions.Inside 0) regions.Statements)
behind_kind regions.Named k = cond (symbol symbols.OpenBrace k) (regions.Inside 0) regions.Statements
behind_kind (regions.Inside zero) k = cond (symbol symbols.CloseBrace k) regions.Statements (cond (symbol symbols.OpenBrace k) (regions.Inside 1) (regions.Inside 0))
behind_kind (regions.Inside (suc n)) k = cond (symbol symbols.CloseBrace k) (regions.Inside n) (cond (symbol symbols.OpenBrace k) (regions.Inside (suc (suc n))) (regions.Inside (suc n)))

abbrev pub is_significant_kind : Region → Kind → Bool
is_significant_kind regions.Log k = symbol symbols.Semicolon k
is_significant_kind (regions.Inside zero) k = symbol symbols.CloseBrace k
is_significant_kind (regions.Inside (suc n)) k = false
is_significant_kind _ k = true

behind_is : (r : Region) (w : Word) → behind r w ≡ behind_kind r (kind_of w)
behind_is regions.Statements w = refl
behind_is regions.Log w = refl
behind_is regions.Protocol w = refl
behind_is regions.Device w = refl
behind_is regions.Named w = refl
behind_is (regions.Inside zero) w = refl
behind_is (regions.Inside (suc n)) w = refl

says_is : (r : Region) (w : Word) → is_significant r w ≡ is_significant_kind r (kind_of w)
says_is regions.Statements w = refl
says_is regions.Log w = refl
says_is regions.Protocol w = refl
says_is regions.Device w = refl
says_is regions.Named w = refl
says_is (regions.Inside zero) w = refl
says_is (regions.Inside (suc n)) w = refl

-- the kinds of the words that say something
abbrev pub heard : Region → ℕ → List Mark → List Kind
heard r skip [] = []
heard r (suc skip) (m ∷ ms) = heard r skip ms
heard r zero (m ∷ ms) =
    cond (is_significant_kind r (first_kind m ms).0) ((first_kind m ms).0 ∷ heard (behind_kind r (first_kind m ms).0) ((first_kind m ms).1 - 1) ms)
    (heard (behind_kind r (first_kind m ms).0) ((first_kind m ms).1 - 1) ms)

abbrev significant_kinds : List (ℕ × Word) → List Kind
significant_kinds ps = kinds_of (map (λ p. p.1) ps)

heard_one : (b c : Bool) (p : ℕ × Word) (ps : List (ℕ × Word)) (k : Kind) (ks : List Kind) → b ≡ c → kind_of p.1 ≡ k → significant_kinds ps ≡ ks → significant_kinds (cond b (p ∷ ps) ps) ≡ cond c (k ∷ ks) ks
heard_one true c p ps k ks e f g = rw (sym e) (rw (f, g) refl)
heard_one false c p ps k ks e f g = rw (sym e) g

pub heard_is : (text : List ℕ) (r : Region) (i skip : ℕ) (ts : List Token) → significant_kinds (significant r (words_from text i skip ts)) ≡ heard r skip (marks text ts)
heard_is text r i skip [] = refl
heard_is text r i (suc skip) (t ∷ ts) = heard_is text r (i + 1) skip ts
heard_is text r i zero (t ∷ ts) =
    let l = first_is text t ts in
    let w = (first_word text t ts).0 in
    let k = first_kind (mark text t) (marks text ts) in
    let tail : significant_kinds (significant (behind r w) (words_from text (i + 1) ((first_word text t ts).1 - 1) ts)) ≡ heard (behind_kind r k.0) (k.1 - 1) (marks text ts) =
    heard_is text (behind r w) (i + 1) ((first_word text t ts).1 - 1) ts
    ∙ ap (λ (q : Region). heard q ((first_word text t ts).1 - 1) (marks text ts)) (behind_is r w ∙ ap (behind_kind r) l.0)
    ∙ ap (λ (n : ℕ). heard (behind_kind r k.0) (n - 1) (marks text ts)) l.1 in
    heard_one (is_significant r w) (is_significant_kind r k.0) (i, w) _ k.0 _ (says_is r w ∙ ap (is_significant_kind r) l.0) l.0 tail

-- ---- a front

-- the kinds heard of a front, with what stands behind it
abbrev pub front_heard : Region → ℕ → List Mark → List Mark → List Kind
front_heard r skip [] rest = []
front_heard r (suc skip) (m ∷ ms) rest = front_heard r skip ms rest
front_heard r zero (m ∷ ms) rest =
    cond (is_significant_kind r (first_kind m (ms ++ rest)).0)
    ((first_kind m (ms ++ rest)).0 ∷ front_heard (behind_kind r (first_kind m (ms ++ rest)).0) ((first_kind m (ms ++ rest)).1 - 1) ms rest)
    (front_heard (behind_kind r (first_kind m (ms ++ rest)).0) ((first_kind m (ms ++ rest)).1 - 1) ms rest)

-- the region behind it, and how many marks behind it belong to the word before
abbrev pub state : Region → ℕ → List Mark → List Mark → Region × ℕ
state r skip [] rest = (r, skip)
state r (suc skip) (m ∷ ms) rest = state r skip ms rest
state r zero (m ∷ ms) rest = state (behind_kind r (first_kind m (ms ++ rest)).0) ((first_kind m (ms ++ rest)).1 - 1) ms rest

cond_both : (b : Bool) (k : Kind) (xs ys : List Kind) → cond b (k ∷ (xs ++ ys)) (xs ++ ys) ≡ cond b (k ∷ xs) xs ++ ys
cond_both true k xs ys = refl
cond_both false k xs ys = refl

pub heard_both : (r : Region) (skip : ℕ) (front rest : List Mark) → heard r skip (front ++ rest) ≡ front_heard r skip front rest ++ heard (state r skip front rest).0 (state r skip front rest).1 rest
heard_both r skip [] rest = refl
heard_both r (suc skip) (m ∷ ms) rest = heard_both r skip ms rest
heard_both r zero (m ∷ ms) rest =
    let k = first_kind m (ms ++ rest) in
    ap (λ (l : List Kind). cond (is_significant_kind r k.0) (k.0 ∷ l) l) (heard_both (behind_kind r k.0) (k.1 - 1) ms rest)
    ∙ cond_both (is_significant_kind r k.0) k.0 (front_heard (behind_kind r k.0) (k.1 - 1) ms rest) _

-- ---- a place

-- a word that says something begins the marks, unless there are none
abbrev pub IsNext : Region × ℕ → List Mark → Type 0
IsNext at [] = Unit {0}
IsNext at (m ∷ ms) = (at.1 ≡ 0) × (is_significant_kind at.0 (first_kind m ms).0 ≡ true)

-- the front of the marks that ends before the word in this place
pub record At (r : Region) (skip i : ℕ) (ms : List Mark) (place start : ℕ) : Type 0 where
  pub front : List Mark
  pub rest : List Mark
  pub cut : ms ≡ front ++ rest
  pub at : start ≡ i + length front
  pub count : length (front_heard r skip front rest) ≡ place
  pub next : IsNext (state r skip front rest) rest

at_more : (r : Region) (i : ℕ) (m : Mark) (ms : List Mark) (q : Region) (n place start : ℕ) → q ≡ behind_kind r (first_kind m ms).0 → n ≡ (first_kind m ms).1 → (b : Bool) → is_significant_kind r (first_kind m ms).0 ≡ b → At q (n - 1) (i + 1) ms place start → At r zero i (m ∷ ms) (cond b (suc place) place) start
at_more r i m ms q n place start region size b is_significant a =
    let k = first_kind m ms in
    let same : first_kind m (a.front ++ a.rest) ≡ k = ap (first_kind m) (sym a.cut) in
    record {
      front = m ∷ a.front;
      rest = a.rest;
      cut = ap (λ (l : List Mark). m ∷ l) a.cut;
      at = omega (arith, a.at);
      count = rw same (counted b is_significant (rw (← region, ← size) a.count));
      next = rw same (rw (← region, ← size) a.next);
    }
  where
    counted : (b : Bool) → is_significant_kind r (first_kind m ms).0 ≡ b → length (front_heard (behind_kind r (first_kind m ms).0) ((first_kind m ms).1 - 1) a.front a.rest) ≡ place
        → length (cond (is_significant_kind r (first_kind m ms).0) ((first_kind m ms).0 ∷ front_heard (behind_kind r (first_kind m ms).0) ((first_kind m ms).1 - 1) a.front a.rest) (front_heard (behind_kind r (first_kind m ms).0) ((first_kind m ms).1 - 1) a.front a.rest)) ≡ cond b (suc place) place
    counted true is e = rw is (ap suc e)
    counted false is e = rw is e

abbrev starts_of : List (ℕ × Word) → List ℕ
starts_of ps = map (λ p. p.0) ps

at_none : (r : Region) (skip i end place : ℕ) → end ≡ i + 0 → place ≤ 0 → At r skip i [] place (slice_index_or [] place end)
at_none r skip i end zero is low = record { front = []; rest = []; cut = refl; at = is; count = refl; next = tt }
at_none r skip i end (suc place) is low = absurd (omega (arith, low))

at_word : (text : List ℕ) (r : Region) (i : ℕ) (t : Token) (ts : List Token) (end place : ℕ) (ps : List (ℕ × Word)) (b : Bool) → is_significant r (first_word text t ts).0 ≡ b
    → ((n : ℕ) → n ≤ length ps → At (behind r (first_word text t ts).0) ((first_word text t ts).1 - 1) (i + 1) (marks text ts) n (slice_index_or (starts_of ps) n end))
    → place ≤ length (cond b ((i, (first_word text t ts).0) ∷ ps) ps)
    → At r zero i (marks text (t ∷ ts)) place (slice_index_or (starts_of (cond b ((i, (first_word text t ts).0) ∷ ps) ps)) place end)
at_word text r i t ts end zero ps true is_significant more low =
    let l = first_is text t ts in
    record { front = []; rest = marks text (t ∷ ts); cut = refl; at = omega arith; count = refl; next = (refl, ap (is_significant_kind r) (sym l.0) ∙ sym (says_is r (first_word text t ts).0) ∙ is_significant) }
at_word text r i t ts end (suc place) ps true is_significant more low =
    let l = first_is text t ts in
    let w = (first_word text t ts).0 in
    at_more r i (mark text t) (marks text ts) (behind r w) (first_word text t ts).1 place _ (behind_is r w ∙ ap (behind_kind r) l.0) l.1 true (ap (is_significant_kind r) (sym l.0) ∙ sym (says_is r w) ∙ is_significant) (more place (omega (arith, low)))
at_word text r i t ts end place ps false is_significant more low =
    let l = first_is text t ts in
    let w = (first_word text t ts).0 in
    at_more r i (mark text t) (marks text ts) (behind r w) (first_word text t ts).1 place _ (behind_is r w ∙ ap (behind_kind r) l.0) l.1 false (ap (is_significant_kind r) (sym l.0) ∙ sym (says_is r w) ∙ is_significant) (more place low)

pub place_at : (text : List ℕ) (r : Region) (i skip : ℕ) (ts : List Token) (end place : ℕ) → end ≡ i + length ts → place ≤ length (significant r (words_from text i skip ts)) → At r skip i (marks text ts) place (slice_index_or (starts_of (significant r (words_from text i skip ts))) place end)
place_at text r i skip [] end place is low = at_none r skip i end place is low
place_at text r i (suc skip) (t ∷ ts) end place is low =
    let a = place_at text r (i + 1) skip ts end place (omega (arith, is)) low in
    record { front = mark text t ∷ a.front; rest = a.rest; cut = ap (λ (l : List Mark). mark text t ∷ l) a.cut; at = omega (arith, a.at); count = a.count; next = a.next }
place_at text r i zero (t ∷ ts) end place is low =
    at_word text r i t ts end place (significant (behind r (first_word text t ts).0) (words_from text (i + 1) ((first_word text t ts).1 - 1) ts)) (is_significant r (first_word text t ts).0) refl
    (λ n few. place_at text (behind r (first_word text t ts).0) (i + 1) ((first_word text t ts).1 - 1) ts end n (omega (arith, is)) few)
    low
