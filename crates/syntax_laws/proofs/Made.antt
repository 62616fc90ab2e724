-- Of which tokens the words of a text are made.
use Rattle.std.proofs.Common.{◌≡◌, ℕ, suc, zero, ◌+◌, ◌-◌, ◌≤◌, Bool, true, false, cond, ◌&&◌, List, [], ◌∷◌, ◌++◌, length, take, drop, Option, Some, None, refl, sym, ◌∙◌, ap, subst, arith}
use Rattle.std.proofs.lemmas.Bool.{and_parts, false≢true}
use Rattle.std.proofs.lemmas.List.{take-append-drop, length-take, length-drop}
use Rattle.bits_ip.specs.declared.address.Addr.{Addr}
use Rattle.conf_lex.specs.declared.symbol.Symbol.{Symbol}
use Rattle.conf_lex.specs.declared.symbol.Symbol.TheVariants as symbols
use Rattle.conf_scan.specs.declared.token.Token.{Token}
use Rattle.conf_scan.specs.declared.token.TokenKind.{TokenKind}
use Rattle.conf_scan.specs.declared.token.TokenKind.TheVariants as kinds
use Rattle.conf_lex.specs.declared.word.Word.{Word}
use Rattle.conf_lex.specs.declared.word.Word.TheVariants as words
use Rattle.conf_lex.specs.Symbols.{is_else, is_colon, is_slash}
use Rattle.conf_lex.specs.Words.{kind_symbol, token_symbol, word_of, prefix_word, or_alone, slashed, first_word, words_from, words_of}
use Rattle.conf_scan.specs.Spans.{slice_of}
use Rattle.syntax_laws.specs.Made.{IsMadeOf, Alone, ElseColon, Slashed, MakeUp}
use Rattle.conf_lex.proofs.Folded.{first_size, words_behind, drop_one}

-- which symbol a test has found

else_is : (o : Option Symbol) → is_else o ≡ true → o ≡ Some symbols.Else
else_is (Some symbols.Else) is = refl
else_is _ is = absurd (false≢true is)

colon_is : (o : Option Symbol) → is_colon o ≡ true → o ≡ Some symbols.Colon
colon_is (Some symbols.Colon) is = refl
colon_is _ is = absurd (false≢true is)

slash_is : (o : Option Symbol) → is_slash o ≡ true → o ≡ Some symbols.Slash
slash_is (Some symbols.Slash) is = refl
slash_is _ is = absurd (false≢true is)

-- the first word

made_if : (P : Word × ℕ → Type 0) (b : Bool) (x y : Word × ℕ) → (b ≡ true → P x) → P y → P (cond b x y)
made_if P true x y one other = one refl
made_if P false x y one other = other

abbrev Makes : List ℕ → List Token → Word × ℕ → Type 0
Makes text tokens word = IsMadeOf text (take word.1 tokens) word.0

else_colon : (text : List ℕ) (t u : Token) (ts : List Token) → (is_else (token_symbol text t) && is_colon (token_symbol text u)) ≡ true → Makes text (t ∷ u ∷ ts) (words.Symbol symbols.ElseColon, 2)
else_colon text t u ts is =
    let parts = and_parts (is_else (token_symbol text t)) (is_colon (token_symbol text u)) is in
    ElseColon t u refl (else_is (token_symbol text t) parts.0) (colon_is (token_symbol text u) parts.1) refl

or_slashed : (text : List ℕ) (t u v : Token) (ts : List Token) (k : TokenKind) (b : Bool) (l : TokenKind) → t.kind ≡ k → is_slash (token_symbol text u) ≡ b → v.kind ≡ l
    → Makes text (t ∷ u ∷ v ∷ ts) (or_alone (slashed t.at k b l) (word_of text t))
or_slashed text t u v ts (kinds.Ip addr) true (kinds.Number n) ip slash number = Slashed t u v addr n refl ip (slash_is (token_symbol text u) slash) number refl
or_slashed text t u v ts (kinds.Ip addr) true _ ip slash number = Alone t refl refl
or_slashed text t u v ts (kinds.Ip addr) false l ip slash number = Alone t refl refl
or_slashed text t u v ts _ b l ip slash number = Alone t refl refl

first_made : (text : List ℕ) (t : Token) (ts : List Token) → Makes text (t ∷ ts) (first_word text t ts)
first_made text t [] = Alone t refl refl
first_made text t (u ∷ []) =
    made_if (Makes text (t ∷ u ∷ [])) (is_else (token_symbol text t) && is_colon (token_symbol text u)) (words.Symbol symbols.ElseColon, 2) (word_of text t, 1)
    (λ is. else_colon text t u [] is) (Alone t refl refl)
first_made text t (u ∷ v ∷ ts) =
    made_if (Makes text (t ∷ u ∷ v ∷ ts)) (is_else (token_symbol text t) && is_colon (token_symbol text u)) (words.Symbol symbols.ElseColon, 2) (or_alone (slashed t.at t.kind (is_slash (token_symbol text u)) v.kind) (word_of text t))
    (λ is. else_colon text t u (v ∷ ts) is) (or_slashed text t u v ts t.kind (is_slash (token_symbol text u)) v.kind refl refl refl)

-- all words

words_next : (text : List ℕ) (i : ℕ) (t : Token) (ts : List Token) (n : ℕ) → n ≡ (first_word text t ts).1 → words_from text (i + 1) ((first_word text t ts).1 - 1) ts ≡ words_from text (i + n) 0 (drop n (t ∷ ts))
words_next text i t ts n is =
    let size = first_size text t ts in
    let place : i + 1 + ((first_word text t ts).1 - 1) ≡ i + n = omega (arith, size.0, is) in
    words_behind text (i + 1) ((first_word text t ts).1 - 1) ts ∙ ap (λ (m : ℕ). words_from text m 0 (drop ((first_word text t ts).1 - 1) ts)) place
    ∙ ap (λ (l : List Token). words_from text (i + n) 0 l) (drop_one (first_word text t ts).1 t ts size.0 ∙ ap (λ (m : ℕ). drop m (t ∷ ts)) (sym is))

make_up : (k : ℕ) (text : List ℕ) (i : ℕ) (ts : List Token) → length ts ≤ k → MakeUp text i ts (words_from text i 0 ts)
make_up k text i [] few = refl
make_up zero text i (t ∷ ts) few = absurd (omega (arith, few))
make_up (suc k) text i (t ∷ ts) few =
    let n = (first_word text t ts).1 in
    let size = first_size text t ts in
    let len : (first_word text t ts).1 ≡ length (take (first_word text t ts).1 (t ∷ ts)) = omega (arith, length-take (first_word text t ts).1 (t ∷ ts), size.1) in
    let shorter : length (drop (first_word text t ts).1 (t ∷ ts)) ≤ k = omega (arith, length-drop (first_word text t ts).1 (t ∷ ts), size.0, few) in
    let P : ℕ → Type 0 = λ m. MakeUp text (i + m) (drop (first_word text t ts).1 (t ∷ ts)) (words_from text (i + 1) ((first_word text t ts).1 - 1) ts) in
    let Q : List (ℕ × Word) → Type 0 = λ ws. MakeUp text (i + (first_word text t ts).1) (drop (first_word text t ts).1 (t ∷ ts)) ws in
    let more = make_up k text (i + (first_word text t ts).1) (drop (first_word text t ts).1 (t ∷ ts)) shorter in (
      take (first_word text t ts).1 (t ∷ ts),
      drop (first_word text t ts).1 (t ∷ ts),
      sym (take-append-drop (first_word text t ts).1 (t ∷ ts)),
      refl,
      first_made text t ts,
      subst P len (subst Q (sym (words_next text i t ts (first_word text t ts).1 refl)) more),
    )

pub tokens_make_up : (text : List ℕ) (tokens : List Token) → MakeUp text 0 tokens (words_of text tokens)
tokens_make_up text tokens = make_up (length tokens) text 0 tokens (omega arith)

-- a token that is no later part of a word begins one

record IsFirst (text : List ℕ) (t : Token) : Type 0 where
  no_colon : is_colon (token_symbol text t) ≡ false
  no_slash : is_slash (token_symbol text t) ≡ false
  no_number : (n : ℕ) → t.kind ≡ kinds.Number n → ⊥

no_slash_none : (i : ℕ) (k l : TokenKind) → slashed i k false l ≡ None
no_slash_none i (kinds.Ip addr) l = refl
no_slash_none i _ l = refl

no_number_none : (i : ℕ) (k : TokenKind) (b : Bool) (l : TokenKind) → ((n : ℕ) → l ≡ kinds.Number n → ⊥) → slashed i k b l ≡ None
no_number_none i (kinds.Ip addr) true (kinds.Number n) none = absurd (none n refl)
no_number_none i (kinds.Ip addr) true _ none = refl
no_number_none i (kinds.Ip addr) false l none = refl
no_number_none i _ b l none = refl

most_if : (m : ℕ) (b : Bool) (x y : Word × ℕ) → (b ≡ true → x.1 ≤ m) → y.1 ≤ m → (cond b x y).1 ≤ m
most_if m true x y one other = one refl
most_if m false x y one other = other

most_or : (o : Option Word) (alone : Word) → (or_alone o alone).1 ≤ 3
most_or None alone = omega arith
most_or (Some folded) alone = omega arith

one_or : (o : Option Word) (alone : Word) → o ≡ None → (or_alone o alone).1 ≤ 1
one_or None alone is = omega arith
one_or (Some folded) alone is = absurd cc

no_colon_no : (a b : Bool) → b ≡ false → (a && b) ≡ true → ⊥
no_colon_no true b none is = false≢true (sym none ∙ is)
no_colon_no false b none is = false≢true is

size_before : (text : List ℕ) (f : Token) (front : List Token) (t : Token) (ts : List Token) → IsFirst text t → (first_word text f (front ++ t ∷ ts)).1 ≤ suc (length front)
size_before text f [] t [] first =
    most_if 1 (is_else (token_symbol text f) && is_colon (token_symbol text t)) (words.Symbol symbols.ElseColon, 2) (word_of text f, 1)
    (λ is. absurd (no_colon_no (is_else (token_symbol text f)) (is_colon (token_symbol text t)) first.no_colon is)) (omega arith)
size_before text f [] t (v ∷ ts) first =
    let none : slashed f.at f.kind (is_slash (token_symbol text t)) v.kind ≡ None = ap (λ (b : Bool). slashed f.at f.kind b v.kind) first.no_slash ∙ no_slash_none f.at f.kind v.kind in
    most_if 1 (is_else (token_symbol text f) && is_colon (token_symbol text t)) (words.Symbol symbols.ElseColon, 2) (or_alone (slashed f.at f.kind (is_slash (token_symbol text t)) v.kind) (word_of text f))
    (λ is. absurd (no_colon_no (is_else (token_symbol text f)) (is_colon (token_symbol text t)) first.no_colon is))
    (one_or (slashed f.at f.kind (is_slash (token_symbol text t)) v.kind) (word_of text f) none)
size_before text f (u ∷ []) t ts first =
    let none = no_number_none f.at f.kind (is_slash (token_symbol text u)) t.kind first.no_number in
    let one = one_or (slashed f.at f.kind (is_slash (token_symbol text u)) t.kind) (word_of text f) none in
    most_if 2 (is_else (token_symbol text f) && is_colon (token_symbol text u)) (words.Symbol symbols.ElseColon, 2) (or_alone (slashed f.at f.kind (is_slash (token_symbol text u)) t.kind) (word_of text f))
    (λ is. omega arith) (omega (arith, one))
size_before text f (u ∷ v ∷ front) t ts first =
    let three : (first_word text f (u ∷ v ∷ (front ++ t ∷ ts))).1 ≤ 3 =
    most_if 3 (is_else (token_symbol text f) && is_colon (token_symbol text u)) (words.Symbol symbols.ElseColon, 2) (or_alone (slashed f.at f.kind (is_slash (token_symbol text u)) v.kind) (word_of text f))
    (λ is. omega arith) (most_or (slashed f.at f.kind (is_slash (token_symbol text u)) v.kind) (word_of text f)) in
    omega (arith, three)

begins_word : (text : List ℕ) (i k : ℕ) (front : List Token) (t : Token) (ts : List Token) → IsFirst text t → k ≤ length front
    → (before : List (ℕ × Word)) × (words_from text i k (front ++ t ∷ ts) ≡ before ++ words_from text (i + length front) 0 (t ∷ ts))
begins_word text i zero [] t ts first few =
    let same : i ≡ i + length {A = Token} [] = omega arith in
    ([], ap (λ (n : ℕ). words_from text n 0 (t ∷ ts)) same)
begins_word text i (suc k) [] t ts first few = absurd (omega (arith, few))
begins_word text i (suc k) (f ∷ front) t ts first few =
    let more = begins_word text (i + 1) k front t ts first (omega (arith, few)) in
    let place : i + 1 + length front ≡ i + length (f ∷ front) = omega arith in
    (more.0, more.1 ∙ ap (λ (n : ℕ). more.0 ++ words_from text n 0 (t ∷ ts)) place)
begins_word text i zero (f ∷ front) t ts first few =
    let word = first_word text f (front ++ t ∷ ts) in
    let size = size_before text f front t ts first in
    let more = begins_word text (i + 1) ((first_word text f (front ++ t ∷ ts)).1 - 1) front t ts first (omega (arith, size)) in
    let place : i + 1 + length front ≡ i + length (f ∷ front) = omega arith in
    ((i, (first_word text f (front ++ t ∷ ts)).0) ∷ more.0, ap (λ (l : List (ℕ × Word)). (i, (first_word text f (front ++ t ∷ ts)).0) ∷ l) (more.1 ∙ ap (λ (n : ℕ). more.0 ++ words_from text n 0 (t ∷ ts)) place))

-- an address, a slash and a number

symbol_of_kind : (text : List ℕ) (t : Token) (k : TokenKind) → t.kind ≡ k → token_symbol text t ≡ kind_symbol (slice_of text t) k
symbol_of_kind text t k is = ap (λ (l : TokenKind). kind_symbol (slice_of text t) l) is

ip_first : (text : List ℕ) (t : Token) (addr : Addr) → t.kind ≡ kinds.Ip addr → IsFirst text t
ip_first text t addr ip =
    let none : token_symbol text t ≡ None = symbol_of_kind text t (kinds.Ip addr) ip in
    record { no_colon = ap is_colon none; no_slash = ap is_slash none; no_number = λ n is. let same : kinds.Ip addr ≡ kinds.Number n = sym ip ∙ is in cc }

slashed_first : (text : List ℕ) (t u v : Token) (addr : Addr) (n : ℕ) (ts : List Token) → t.kind ≡ kinds.Ip addr → token_symbol text u ≡ Some symbols.Slash → v.kind ≡ kinds.Number n
    → first_word text t (u ∷ v ∷ ts) ≡ (prefix_word t.at addr n, 3)
slashed_first text t u v addr n ts ip slash number =
    ap (λ (k : TokenKind). cond (is_else (kind_symbol (slice_of text t) k) && is_colon (token_symbol text u)) (words.Symbol symbols.ElseColon, 2) (or_alone (slashed t.at k (is_slash (token_symbol text u)) v.kind) (word_of text t))) ip
    ∙ ap (λ (o : Option Symbol). or_alone (slashed t.at (kinds.Ip addr) (is_slash o) v.kind) (word_of text t)) slash
    ∙ ap (λ (k : TokenKind). or_alone (slashed t.at (kinds.Ip addr) true k) (word_of text t)) number

pub slashed_word : (text : List ℕ) (front back : List Token) (t u v : Token) (addr : Addr) (n : ℕ) → t.kind ≡ kinds.Ip addr → token_symbol text u ≡ Some symbols.Slash → v.kind ≡ kinds.Number n
    → (before : List (ℕ × Word)) × (words_of text (front ++ t ∷ u ∷ v ∷ back) ≡ before ++ (length front, prefix_word t.at addr n) ∷ words_from text (length front + 3) 0 back)
slashed_word text front back t u v addr n ip slash number =
    let begun = begins_word text 0 0 front t (u ∷ v ∷ back) (ip_first text t addr ip) (omega arith) in
    let i = length front in
    let start : 0 + length front ≡ length front = omega arith in
    let word = slashed_first text t u v addr n back ip slash number in
    let place : length front + 1 + 1 + 1 ≡ length front + 3 = omega arith in (
      begun.0,
      begun.1 ∙ ap (λ (m : ℕ). begun.0 ++ words_from text m 0 (t ∷ u ∷ v ∷ back)) start
          ∙ ap (λ (w : Word × ℕ). begun.0 ++ (length front, w.0) ∷ words_from text (length front + 1) (w.1 - 1) (u ∷ v ∷ back)) word
          ∙ ap (λ (m : ℕ). begun.0 ++ (length front, prefix_word t.at addr n) ∷ words_from text m 0 back) place,
    )

-- `else` and a colon

else_first : (text : List ℕ) (t : Token) → token_symbol text t ≡ Some symbols.Else → IsFirst text t
else_first text t is = record {
  no_colon = ap is_colon is;
  no_slash = ap is_slash is;
  no_number = λ n number. let same : ◌≡◌ {A = Option Symbol} None (Some symbols.Else) = sym (symbol_of_kind text t (kinds.Number n) number) ∙ is in cc;
}

colon_first : (text : List ℕ) (t u : Token) (ts : List Token) → token_symbol text t ≡ Some symbols.Else → token_symbol text u ≡ Some symbols.Colon
    → first_word text t (u ∷ ts) ≡ (words.Symbol symbols.ElseColon, 2)
colon_first text t u [] els colon =
    ap (λ (o : Option Symbol). cond (is_else o && is_colon (token_symbol text u)) (words.Symbol symbols.ElseColon, 2) (word_of text t, 1)) els
    ∙ ap (λ (o : Option Symbol). cond (is_colon o) (words.Symbol symbols.ElseColon, 2) (word_of text t, 1)) colon
colon_first text t u (v ∷ ts) els colon =
    ap (λ (o : Option Symbol). cond (is_else o && is_colon (token_symbol text u)) (words.Symbol symbols.ElseColon, 2) (or_alone (slashed t.at t.kind (is_slash (token_symbol text u)) v.kind) (word_of text t))) els
    ∙ ap (λ (o : Option Symbol). cond (is_colon o) (words.Symbol symbols.ElseColon, 2) (or_alone (slashed t.at t.kind (is_slash (token_symbol text u)) v.kind) (word_of text t))) colon

pub else_colon_word : (text : List ℕ) (front back : List Token) (t u : Token) → token_symbol text t ≡ Some symbols.Else → token_symbol text u ≡ Some symbols.Colon
    → (before : List (ℕ × Word)) × (words_of text (front ++ t ∷ u ∷ back) ≡ before ++ (length front, words.Symbol symbols.ElseColon) ∷ words_from text (length front + 2) 0 back)
else_colon_word text front back t u els colon =
    let begun = begins_word text 0 0 front t (u ∷ back) (else_first text t els) (omega arith) in
    let start : 0 + length front ≡ length front = omega arith in
    let word = colon_first text t u back els colon in
    let place : length front + 1 + 1 ≡ length front + 2 = omega arith in (
      begun.0,
      begun.1 ∙ ap (λ (m : ℕ). begun.0 ++ words_from text m 0 (t ∷ u ∷ back)) start
          ∙ ap (λ (w : Word × ℕ). begun.0 ++ (length front, w.0) ∷ words_from text (length front + 1) (w.1 - 1) (u ∷ back)) word
          ∙ ap (λ (m : ℕ). begun.0 ++ (length front, words.Symbol symbols.ElseColon) ∷ words_from text m 0 back) place,
    )
