-- A text read word by word.
use Rattle.std.proofs.Common.{◌≡◌, ℕ, ◌+◌, ◌-◌, ◌≤◌, Bool, true, false, cond, ◌&&◌, List, [], ◌∷◌, drop, Option, Some, None, refl, sym, ap, subst, ◌∙◌, arith}
use Rattle.std.specs.Bool.{then_some}
use Rattle.std.specs.Prelude.{MatchOption}
use Rattle.std.proofs.lemmas.Bool.{false≢true}
use Rattle.bits_ip.specs.declared.address.Addr.{Addr}
use Rattle.conf_ast.specs.declared.attribute.Attribute.{Attribute}
use Rattle.conf_ast.specs.declared.attribute.Constant.{Constant}
use Rattle.conf_scan.specs.declared.lexer.Spot.{Spot}
use Rattle.conf_lex.specs.declared.symbol.Symbol.{Symbol}
use Rattle.conf_lex.specs.declared.symbol.Symbol.TheVariants as symbols
use Rattle.conf_scan.specs.declared.token.Token.{Token}
use Rattle.conf_scan.specs.declared.token.TokenKind.{TokenKind}
use Rattle.conf_scan.specs.declared.token.TokenKind.TheVariants as kinds
use Rattle.conf_lex.specs.declared.word.Word.{Word}
use Rattle.conf_lex.specs.declared.word.Word.TheVariants as words
use Rattle.conf_lex.specs.Attributes.{attribute_of, constant_of}
use Rattle.conf_lex.specs.Symbols.{symbol_of, is_placed, is_else, is_colon, is_slash}
use Rattle.conf_lex.specs.Words.{kind_symbol, token_symbol, constant_or_name, named_word, spelled_word, kind_word, word_of, prefix_word, or_alone, slashed, first_word, words_from}
use Rattle.conf_scan.specs.Spans.{slice_of}
use Rattle.conf_lex.specs.Walks.{IsWordStep}
use Rattle.conf_scan.specs.Spots.{IsStep, LexesFrom}
use Rattle.conf_lex.specs.Inside.{begins_colon, number_of, first_number, first_length, IsColonStep, IsNumberStep, IsLengthStep}
use Rattle.conf_lex.proofs.Folded.{words_behind, drop_one}
use Rattle.conf_scan.proofs.Spots.{step_back, step_lexes, step_stops}

-- ---- the tokens of a word

-- what the tokens are, that stand behind a place where two or three do
two_back : (text : List ℕ) (from middle to : Spot) (t u : Token) (ts : List Token) → IsStep text from t middle → IsStep text middle u to → LexesFrom text from ts → (more : List Token) × (ts ≡ t ∷ u ∷ more) × LexesFrom text to more
two_back text from middle to t u ts first second lexes =
    let one = step_back text from middle t ts first lexes in
    let two = step_back text middle to u one.0 second one.2 in
    (two.0, one.1 ∙ ap (λ (l : List Token). t ∷ l) two.1, two.2)

three_back : (text : List ℕ) (from early late to : Spot) (t u v : Token) (ts : List Token) → IsStep text from t early → IsStep text early u late → IsStep text late v to → LexesFrom text from ts → (more : List Token) × (ts ≡ t ∷ u ∷ v ∷ more) × LexesFrom text to more
three_back text from early late to t u v ts first second third lexes =
    let two = two_back text from early late t u ts first second lexes in
    let one = step_back text late to v two.0 third two.2 in
    (one.0, two.1 ∙ ap (λ (l : List Token). t ∷ u ∷ l) one.1, one.2)

-- ---- one word

-- the words of tokens of which the first begins a word of so many
pub first_words : (text : List ℕ) (i : ℕ) (t : Token) (ts : List Token) (word : Word) (n : ℕ) → first_word text t ts ≡ (word, n) → 1 ≤ n → words_from text i 0 (t ∷ ts) ≡ (i, word) ∷ words_from text (i + n) 0 (drop n (t ∷ ts))
first_words text i t ts word n is some =
    let P : Word × ℕ → List (ℕ × Word) = λ w. (i, w.0) ∷ words_from text (i + 1) (w.1 - 1) ts in
    let place : i + 1 + (n - 1) ≡ i + n = omega (arith, some) in
    ap P is ∙ ap (λ (ws : List (ℕ × Word)). (i, word) ∷ ws)
    (words_behind text (i + 1) (n - 1) ts ∙ ap (λ (m : ℕ). words_from text m 0 (drop (n - 1) ts)) place ∙ ap (λ (l : List Token). words_from text (i + n) 0 l) (drop_one n t ts some))

-- a token alone
pub word_alone : (text : List ℕ) (from to : Spot) (t : Token) → IsStep text from t to → ((more : List Token) → LexesFrom text to more → first_word text t more ≡ (word_of text t, 1)) → IsWordStep text from (word_of text t) to
word_alone text from to t step alone =
    record {
      made = t ∷ [];
      lexes = λ more rest. step_lexes text from to t more step rest;
      back = λ ts lexes. step_back text from to t ts step lexes;
      stops = λ more place rest. step_stops text from to t more place step rest;
      words = λ i more rest. first_words text i t more (word_of text t) 1 (alone more rest) (omega arith);
      spot = step.spot;
      rises = step.rises;
    }

colon_first : (text : List ℕ) (t u : Token) (more : List Token) → is_else (token_symbol text t) ≡ true → is_colon (token_symbol text u) ≡ true → first_word text t (u ∷ more) ≡ (words.Symbol symbols.ElseColon, 2)
colon_first text t u [] e c = rw (e, c) refl
colon_first text t u (v ∷ more) e c = rw (e, c) refl

-- `else` and a colon
pub word_colon : (text : List ℕ) (from middle to : Spot) (t : Token) → is_else (token_symbol text t) ≡ true → IsStep text from t middle → IsColonStep text middle to → IsWordStep text from (words.Symbol symbols.ElseColon) to
word_colon text from middle to t e step colon =
    let u = colon.token in
    record {
      made = t ∷ u ∷ [];
      lexes = λ more rest. step_lexes text from middle t (u ∷ more) step (step_lexes text middle to u more colon.step rest);
      back = λ ts lexes. two_back text from middle to t u ts step colon.step lexes;
      stops = λ more place rest. step_stops text from middle t (u ∷ more) place step (step_stops text middle to u more place colon.step rest);
      words = λ i more rest. first_words text i t (u ∷ more) (words.Symbol symbols.ElseColon) 2 (colon_first text t u more e colon.colon) (omega arith);
      spot = colon.step.spot;
      rises = omega (arith, step.rises, colon.step.rises);
    }

slashed_of : (text : List ℕ) (t u v : Token) (addr : Addr) (n : ℕ) → t.kind ≡ kinds.Ip addr → is_slash (token_symbol text u) ≡ true → v.kind ≡ kinds.Number n → slashed t.at t.kind (is_slash (token_symbol text u)) v.kind ≡ Some (prefix_word t.at addr n)
slashed_of text t u v addr n kind slash number = rw (kind, slash, number) refl

no_else : (text : List ℕ) (t : Token) (addr : Addr) → t.kind ≡ kinds.Ip addr → is_else (token_symbol text t) ≡ false
no_else text t addr kind = ap (λ (k : TokenKind). is_else (kind_symbol (slice_of text t) k)) kind

slash_first : (text : List ℕ) (t u v : Token) (more : List Token) (addr : Addr) (n : ℕ) → t.kind ≡ kinds.Ip addr → is_slash (token_symbol text u) ≡ true → v.kind ≡ kinds.Number n → first_word text t (u ∷ v ∷ more) ≡ (prefix_word t.at addr n, 3)
slash_first text t u v more addr n kind slash number =
    ap (λ (b : Bool). cond (b && is_colon (token_symbol text u)) (words.Symbol symbols.ElseColon, 2) (or_alone (slashed t.at t.kind (is_slash (token_symbol text u)) v.kind) (word_of text t))) (no_else text t addr kind)
    ∙ ap (λ (o : Option Word). or_alone o (word_of text t)) (slashed_of text t u v addr n kind slash number)

-- an address, a slash and a number
pub word_slashed : (text : List ℕ) (from middle to : Spot) (t : Token) (addr : Addr) (n : ℕ) → t.kind ≡ kinds.Ip addr → IsStep text from t middle → IsLengthStep text middle n to → IsWordStep text from (prefix_word t.at addr n) to
word_slashed text from middle to t addr n kind step behind =
    let u = behind.token in let v = behind.number.token in
    record {
      made = t ∷ u ∷ v ∷ [];
      lexes = λ more rest. step_lexes text from middle t (u ∷ v ∷ more) step (step_lexes text middle behind.middle u (v ∷ more) behind.step (step_lexes text behind.middle to v more behind.number.step rest));
      back = λ ts lexes. three_back text from middle behind.middle to t u v ts step behind.step behind.number.step lexes;
      stops = λ more place rest. step_stops text from middle t (u ∷ v ∷ more) place step (step_stops text middle behind.middle u (v ∷ more) place behind.step (step_stops text behind.middle to v more place behind.number.step rest));
      words = λ i more rest. first_words text i t (u ∷ v ∷ more) (prefix_word t.at addr n) 3 (slash_first text t u v more addr n kind behind.slash behind.number.number) (omega arith);
      spot = behind.number.step.spot;
      rises = omega (arith, step.rises, behind.step.rises, behind.number.step.rises);
    }

-- ---- what a token's word says of it

spelled_else : (t : Token) (slice : List ℕ) (o : Option Symbol) → is_else o ≡ true → spelled_word t slice o ≡ words.Symbol symbols.Else
spelled_else t slice (Some symbols.Else) is = refl
spelled_else t slice (Some _) is = absurd (false≢true is)
spelled_else t slice None is = absurd (false≢true is)

else_kind : (text : List ℕ) (t : Token) (kind : TokenKind) → is_else (kind_symbol (slice_of text t) kind) ≡ true → kind_word text t kind ≡ words.Symbol symbols.Else
else_kind text t kinds.Name is = spelled_else t (slice_of text t) (symbol_of (slice_of text t)) is
else_kind text t kinds.Punctuation is = spelled_else t (slice_of text t) (symbol_of (slice_of text t)) is
else_kind text t _ is = absurd (false≢true is)

placed_else : (at : ℕ) (symbol other : Symbol) (b : Bool) → cond b (words.Placed at symbol) (words.Symbol symbol) ≡ words.Symbol other → symbol ≡ other
placed_else at symbol other true is = absurd (cc)
placed_else at symbol other false is = cc

placed_never : (at place : ℕ) (symbol : Symbol) (addr : Addr) (b : Bool) → cond b (words.Placed at symbol) (words.Symbol symbol) ≡ words.Ip place addr → ⊥
placed_never at place symbol addr true is = cc
placed_never at place symbol addr false is = cc

-- a name, an attribute or a constant is no symbol and no address
constant_no_symbol : (t : Token) (o : Option Constant) (s : Symbol) → constant_or_name t o ≡ words.Symbol s → ⊥
constant_no_symbol t None s is = cc
constant_no_symbol t (Some c) s is = cc

named_no_symbol : (t : Token) (slice : List ℕ) (o : Option Attribute) (s : Symbol) → named_word t slice o ≡ words.Symbol s → ⊥
named_no_symbol t slice None s is = constant_no_symbol t (constant_of slice) s is
named_no_symbol t slice (Some a) s is = cc

constant_no_address : (t : Token) (o : Option Constant) (at : ℕ) (addr : Addr) → constant_or_name t o ≡ words.Ip at addr → ⊥
constant_no_address t None at addr is = cc
constant_no_address t (Some c) at addr is = cc

named_no_address : (t : Token) (slice : List ℕ) (o : Option Attribute) (at : ℕ) (addr : Addr) → named_word t slice o ≡ words.Ip at addr → ⊥
named_no_address t slice None at addr is = constant_no_address t (constant_of slice) at addr is
named_no_address t slice (Some a) at addr is = cc

spelled_back : (t : Token) (slice : List ℕ) (o : Option Symbol) → spelled_word t slice o ≡ words.Symbol symbols.Else → is_else o ≡ true
spelled_back t slice None is = absurd (named_no_symbol t slice (attribute_of slice) symbols.Else is)
spelled_back t slice (Some symbol) is = ap (λ (s : Symbol). is_else (Some s)) (placed_else t.at symbol symbols.Else (is_placed symbol) is)

spelled_never : (t : Token) (slice : List ℕ) (o : Option Symbol) (at : ℕ) (addr : Addr) → spelled_word t slice o ≡ words.Ip at addr → ⊥
spelled_never t slice None at addr is = named_no_address t slice (attribute_of slice) at addr is
spelled_never t slice (Some symbol) at addr is = placed_never t.at at symbol addr (is_placed symbol) is

kind_else : (text : List ℕ) (t : Token) (kind : TokenKind) → kind_word text t kind ≡ words.Symbol symbols.Else → is_else (kind_symbol (slice_of text t) kind) ≡ true
kind_else text t kinds.Name is = spelled_back t (slice_of text t) (symbol_of (slice_of text t)) is
kind_else text t kinds.Punctuation is = spelled_back t (slice_of text t) (symbol_of (slice_of text t)) is
kind_else text t kinds.QuotedName is = absurd (cc)
kind_else text t kinds.Text is = absurd (cc)
kind_else text t (kinds.Number n) is = absurd (cc)
kind_else text t (kinds.Ip addr) is = absurd (cc)

kind_ip : (text : List ℕ) (t : Token) (kind : TokenKind) (at : ℕ) (addr : Addr) → kind_word text t kind ≡ words.Ip at addr → (kind ≡ kinds.Ip addr) × (t.at ≡ at)
kind_ip text t kinds.Name at addr is = absurd (spelled_never t (slice_of text t) (symbol_of (slice_of text t)) at addr is)
kind_ip text t kinds.Punctuation at addr is = absurd (spelled_never t (slice_of text t) (symbol_of (slice_of text t)) at addr is)
kind_ip text t kinds.QuotedName at addr is = absurd (cc)
kind_ip text t kinds.Text at addr is = absurd (cc)
kind_ip text t (kinds.Number n) at addr is = absurd (cc)
kind_ip text t (kinds.Ip other) at addr is = (cc, cc)

slashed_none : (text : List ℕ) (t : Token) (kind : TokenKind) → ((at : ℕ) (addr : Addr) → kind_word text t kind ≡ words.Ip at addr → ⊥) → (b : Bool) (k : TokenKind) → slashed t.at kind b k ≡ None
slashed_none text t (kinds.Ip addr) never b k = absurd (never t.at addr refl)
slashed_none text t _ never b k = refl

-- ---- a token that is a word alone

none_alone : (o : Option Word) (alone : Word) → o ≡ None → or_alone o alone ≡ (alone, 1)
none_alone o alone none = ap (λ (p : Option Word). or_alone p alone) none

not_both : (a b : Bool) (x y : Word × ℕ) → (a && b) ≡ false → cond (a && b) x y ≡ y
not_both a b x y none = ap (λ (c : Bool). cond c x y) none

alone_first : (text : List ℕ) (t : Token) (ts : List Token) → (is_else (token_symbol text t) && begins_colon text ts) ≡ false → ((b : Bool) (k : TokenKind) → slashed t.at t.kind b k ≡ None) → first_word text t ts ≡ (word_of text t, 1)
alone_first text t [] other none = refl
alone_first text t (u ∷ []) other none = not_both (is_else (token_symbol text t)) (is_colon (token_symbol text u)) _ _ other
alone_first text t (u ∷ v ∷ ts) other none =
    not_both (is_else (token_symbol text t)) (is_colon (token_symbol text u)) _ _ other
    ∙ none_alone (slashed t.at t.kind (is_slash (token_symbol text u)) v.kind) (word_of text t) (none (is_slash (token_symbol text u)) v.kind)

and_no : (a b : Bool) → a ≡ false → (a && b) ≡ false
and_no a b is = ap (λ (c : Bool). c && b) is

and_nor : (a b : Bool) → b ≡ false → (a && b) ≡ false
and_nor true b is = is
and_nor false b is = refl

not_else : (text : List ℕ) (t : Token) (b : Bool) → is_else (token_symbol text t) ≡ b → (word_of text t ≡ words.Symbol symbols.Else → ⊥) → is_else (token_symbol text t) ≡ false
not_else text t true is never = absurd (never (else_kind text t t.kind is))
not_else text t false is never = is

-- neither an address nor `else`
pub word_plain : (text : List ℕ) (from to : Spot) (t : Token) (word : Word) → IsStep text from t to → word ≡ word_of text t → ((at : ℕ) (addr : Addr) → word ≡ words.Ip at addr → ⊥) → (word ≡ words.Symbol symbols.Else → ⊥) → IsWordStep text from word to
word_plain text from to t word step is address other =
    let P : Word → Type 0 = λ w. IsWordStep text from w to in
    let plain = not_else text t (is_else (token_symbol text t)) refl (λ same. other (is ∙ same)) in
    subst P (sym is) (word_alone text from to t step
    (λ more rest. alone_first text t more (and_no (is_else (token_symbol text t)) (begins_colon text more) plain) (slashed_none text t t.kind (λ at addr same. address at addr (is ∙ same)))))

symbol_ip : (symbol : Symbol) (at : ℕ) (addr : Addr) → words.Symbol symbol ≡ words.Ip at addr → ⊥
symbol_ip symbol at addr same = cc

symbol_inner : (symbol other : Symbol) → words.Symbol symbol ≡ words.Symbol other → symbol ≡ other
symbol_inner symbol other same = cc

-- a symbol that isn't `else`
pub word_sign : (text : List ℕ) (from to : Spot) (t : Token) (symbol : Symbol) → IsStep text from t to → word_of text t ≡ words.Symbol symbol → (symbol ≡ symbols.Else → ⊥) → IsWordStep text from (words.Symbol symbol) to
word_sign text from to t symbol step is other = word_plain text from to t (words.Symbol symbol) step (sym is) (λ at addr same. symbol_ip symbol at addr same) (λ same. other (symbol_inner symbol symbols.Else same))

-- `else` without a colon
pub word_else : (text : List ℕ) (from to : Spot) (t : Token) → IsStep text from t to → word_of text t ≡ words.Symbol symbols.Else → ((ts : List Token) → LexesFrom text to ts → begins_colon text ts ≡ false) → IsWordStep text from (words.Symbol symbols.Else) to
word_else text from to t step is none =
    let P : Word → Type 0 = λ w. IsWordStep text from w to in
    subst P is (word_alone text from to t step
    (λ more rest. alone_first text t more (and_nor (is_else (token_symbol text t)) (begins_colon text more) (none more rest)) (slashed_none text t t.kind (λ at addr same. symbol_ip symbols.Else at addr (sym is ∙ same)))))

-- and with one
pub word_else_colon : (text : List ℕ) (from middle to : Spot) (t : Token) → IsStep text from t middle → word_of text t ≡ words.Symbol symbols.Else → IsColonStep text middle to → IsWordStep text from (words.Symbol symbols.ElseColon) to
word_else_colon text from middle to t step is colon = word_colon text from middle to t (kind_else text t t.kind is) step colon

bare_kind : (text : List ℕ) (at : ℕ) (addr : Addr) (b : Bool) (k : TokenKind) → cond b (number_of k) None ≡ None → slashed at (kinds.Ip addr) b k ≡ None
bare_kind text at addr false k none = refl
bare_kind text at addr true (kinds.Number n) none = absurd (cc)
bare_kind text at addr true _ none = refl

bare_first : (text : List ℕ) (t : Token) (addr : Addr) (ts : List Token) → t.kind ≡ kinds.Ip addr → first_length text ts ≡ None → first_word text t ts ≡ (word_of text t, 1)
bare_first text t addr [] kind none = refl
bare_first text t addr (u ∷ []) kind none = not_both (is_else (token_symbol text t)) (is_colon (token_symbol text u)) _ _ (and_no (is_else (token_symbol text t)) (is_colon (token_symbol text u)) (no_else text t addr kind))
bare_first text t addr (u ∷ v ∷ ts) kind none =
    not_both (is_else (token_symbol text t)) (is_colon (token_symbol text u)) _ _ (and_no (is_else (token_symbol text t)) (is_colon (token_symbol text u)) (no_else text t addr kind))
    ∙ none_alone (slashed t.at t.kind (is_slash (token_symbol text u)) v.kind) (word_of text t)
    (ap (λ (k : TokenKind). slashed t.at k (is_slash (token_symbol text u)) v.kind) kind ∙ bare_kind text t.at addr (is_slash (token_symbol text u)) v.kind none)

-- an address without a slash and a number
pub word_bare : (text : List ℕ) (from to : Spot) (t : Token) (at : ℕ) (addr : Addr) → IsStep text from t to → word_of text t ≡ words.Ip at addr → ((ts : List Token) → LexesFrom text to ts → first_length text ts ≡ None) → IsWordStep text from (words.Ip at addr) to
word_bare text from to t at addr step is none =
    let P : Word → Type 0 = λ w. IsWordStep text from w to in
    subst P is (word_alone text from to t step (λ more rest. bare_first text t addr more (kind_ip text t t.kind at addr is).0 (none more rest)))

-- and with them
pub word_prefix : (text : List ℕ) (from middle to : Spot) (t : Token) (at : ℕ) (addr : Addr) (n : ℕ) → IsStep text from t middle → word_of text t ≡ words.Ip at addr → IsLengthStep text middle n to → IsWordStep text from (prefix_word at addr n) to
word_prefix text from middle to t at addr n step is behind =
    let parts = kind_ip text t t.kind at addr is in
    let P : ℕ → Type 0 = λ m. IsWordStep text from (prefix_word m addr n) to in
    subst P parts.1 (word_slashed text from middle to t addr n parts.0 step behind)

-- ---- what stands next

pub no_colon : (text : List ℕ) (from to : Spot) (t : Token) → IsStep text from t to → is_colon (token_symbol text t) ≡ false → (ts : List Token) → LexesFrom text from ts → begins_colon text ts ≡ false
no_colon text from to t step none ts lexes = let back = step_back text from to t ts step lexes in ap (λ (l : List Token). begins_colon text l) back.1 ∙ none

pub no_number : (text : List ℕ) (from to : Spot) (t : Token) → IsStep text from t to → number_of t.kind ≡ None → (ts : List Token) → LexesFrom text from ts → first_number ts ≡ None
no_number text from to t step none ts lexes = let back = step_back text from to t ts step lexes in ap (λ (l : List Token). first_number l) back.1 ∙ none

pub number_kind : (kind : TokenKind) (n : ℕ) → number_of kind ≡ Some n → kind ≡ kinds.Number n
number_kind (kinds.Number m) n is = cc
number_kind _ n is = absurd (cc)

pub no_slash : (text : List ℕ) (from to : Spot) (t : Token) → IsStep text from t to → is_slash (token_symbol text t) ≡ false → (ts : List Token) → LexesFrom text from ts → first_length text ts ≡ None
no_slash text from to t step none ts lexes =
    let back = step_back text from to t ts step lexes in
    ap (λ (l : List Token). first_length text l) back.1 ∙ ap (λ (b : Bool). cond b (first_number back.0) None) none

none_both : (b : Bool) → ◌≡◌ {A = Option ℕ} (cond b None None) None
none_both true = refl
none_both false = refl

pub no_length : (text : List ℕ) (from to : Spot) (t : Token) → IsStep text from t to → ((us : List Token) → LexesFrom text to us → first_number us ≡ None) → (ts : List Token) → LexesFrom text from ts → first_length text ts ≡ None
no_length text from to t step none ts lexes =
    let back = step_back text from to t ts step lexes in
    ap (λ (l : List Token). first_length text l) back.1 ∙ ap (λ (o : Option ℕ). cond (is_slash (token_symbol text t)) o None) (none back.0 back.2) ∙ none_both (is_slash (token_symbol text t))

pub if_slash : (text : List ℕ) (from middle : Spot) (t : Token) (found : Option (ℕ × Spot)) → IsStep text from t middle → is_slash (token_symbol text t) ≡ true
    → MatchOption found ((ts : List Token) → LexesFrom text middle ts → first_number ts ≡ None) (λ next. IsNumberStep text middle next.0 next.1)
    → MatchOption found ((ts : List Token) → LexesFrom text from ts → first_length text ts ≡ None) (λ next. IsLengthStep text from next.0 next.1)
if_slash text from middle t None step slash none = no_length text from middle t step none
if_slash text from middle t (Some next) step slash number = record { token = t; middle = middle; step = step; slash = slash; number = number }

pub if_colon : (text : List ℕ) (from to : Spot) (t : Token) (b : Bool) → IsStep text from t to → is_colon (token_symbol text t) ≡ b
    → MatchOption (then_some b to) ((ts : List Token) → LexesFrom text from ts → begins_colon text ts ≡ false) (λ end. IsColonStep text from end)
if_colon text from to t true step colon = record { token = t; step = step; colon = colon }
if_colon text from to t false step colon = no_colon text from to t step colon
