-- A text has one reading.
use Rattle.std.proofs.Common.{◌≡◌, ℕ, suc, zero, ◌+◌, ◌<◌, ◌≤◌, Bool, true, false, cond, not, ◌&&◌, ◌||◌, ◌==◌, List, [], ◌∷◌, ◌++◌, length, take, drop, Option, Some, None, refl, sym, ◌∙◌, ap, subst, arith, inl, inr, append-nil}
use Rattle.std.specs.Prelude.{count_by, nat_le, max}
use Rattle.std.specs.List.{prefix_len, take_while}
use Rattle.std.proofs.lemmas.List.Sums.{sum_by-cons}
use Rattle.std.proofs.lemmas.Bool.{cases_Bool, and_parts, and_from, not-true, false≢true, leb-true, le-leb}
use Rattle.std.proofs.lemmas.Bool.Decides.{nat_tests}
use Rattle.std.proofs.lemmas.List.{take-append-drop, length-append, length-take, length-drop, drop-drop}
use Rattle.std.specs.Option.{option_map}
use Rattle.std.specs.Str.Parse.{digits_value}
use Rattle.bits_ip.specs.Text.{IsAddrText}
use Rattle.bits_ip.specs.declared.address.Addr.{Addr}
use Rattle.bits_ip.specs.declared.address.Addr.TheVariants.{V4, V6}
use Rattle.bits_ip.proofs.Nets.{addr_texts_agree}
use Rattle.conf_scan.specs.declared.scan.Lexeme.{Lexeme}
use Rattle.conf_scan.specs.declared.scan.Lexeme.TheVariants as lexemes
use Rattle.conf_scan.specs.declared.token.Token.{Token}
use Rattle.conf_scan.specs.declared.token.TokenKind.{TokenKind}
use Rattle.conf_scan.specs.declared.token.TokenKind.TheVariants as kinds
use Rattle.conf_scan.specs.Shapes.{is_blank, is_sign, is_name_byte, is_colons_byte, first_passes, IsToken, IsValue, IsNumber, IsHexNumber, IsGap, IsSeparator, Blank, Line, Block}
use Rattle.conf_scan.specs.Fronts.{begins_comment, begins_colons, sign_len, has_sign, front, Tells}
use Rattle.conf_scan.specs.Lex.{IsNext, Lexes, HasNoSeparator, HasNoToken, IsStuck, Stops}
use Rattle.conf_scan.proofs.Runs.{len_yes, len_no, run_yes, behind_yes}
use Rattle.conf_scan.proofs.Reached.{is_mark_first, plain_mark, no_colons_at, front_plain, sign_test}
use Rattle.conf_scan.proofs.Tokens.{front_token, no_token, one_token, shape_some}
use Rattle.conf_scan.proofs.Between.{gap_once, some_piece}

-- where a separator begins there is no token

abbrev begins_no_separator : List ℕ → Bool
begins_no_separator slice = first_passes (λ c. not (is_blank c) && not (c == 35)) slice

both_no : (s t : Bool) → s ≡ false → t ≡ false → (s || t) ≡ true → ⊥
both_no true t e f is = false≢true (sym e)
both_no false t e f is = false≢true (sym f ∙ is)

and_last : (a : Bool) {b : Bool} → b ≡ false → (a && b) ≡ false
and_last true e = e
and_last false e = refl

all_none : (comment seven two one : Bool) → seven ≡ false → two ≡ false → one ≡ false → ◌≡◌ {A = Option ℕ} (cond comment None (cond seven (Some 7) (cond two (Some 2) (cond one (Some 1) None)))) None
all_none true seven two one a b c = refl
all_none false seven two one a b c = rw (a, b, c) refl

clash : (b : ℕ) → (is_blank b || (b == 35)) ≡ true → (not (is_blank b) && not (b == 35)) ≡ true → ⊥
clash b is isnt =
    let parts = and_parts (not (is_blank b)) (not (b == 35)) isnt in
    both_no (is_blank b) (b == 35) (not-true (is_blank b) parts.0) (not-true (b == 35) parts.1) is

no_sign_at : (b : ℕ) (bytes : List ℕ) → (is_blank b || (b == 35)) ≡ true → is_sign (b ∷ bytes) ≡ false
no_sign_at b bytes is = elim (cases_Bool (is_sign (b ∷ bytes))) [
  | inl sign ↦ absurd (clash b is (sign_test begins_no_separator (b ∷ bytes) refl refl refl sign))
  | inr none ↦ none
]

sign_len_none : (b : ℕ) (bytes : List ℕ) → (is_blank b || (b == 35)) ≡ true → sign_len (b ∷ bytes) ≡ None
sign_len_none b bytes is =
    let seven = and_last _ (no_sign_at b (take 6 bytes) is) in
    let two = and_last _ (no_sign_at b (take 1 bytes) is) in
    let one = and_last _ (no_sign_at b (take 0 bytes) is) in
    all_none (begins_comment (b ∷ bytes)) (has_sign 7 (b ∷ bytes)) (has_sign 2 (b ∷ bytes)) (has_sign 1 (b ∷ bytes)) seven two one

blank_first : (b : ℕ) → (is_blank b || (b == 35)) ≡ true → (is_mark_first b ≡ true) × (is_colons_byte b ≡ false)
blank_first b is = (grind (arith, nat_tests), grind (arith, nat_tests))

front_at_mark : (b : ℕ) (bytes : List ℕ) → is_mark_first b ≡ true → is_colons_byte b ≡ false → sign_len (b ∷ bytes) ≡ None → front (b ∷ bytes) ≡ None
front_at_mark b bytes mark colons none = front_plain (b ∷ bytes) (no_colons_at b bytes colons) ∙ plain_mark b bytes mark ∙ ap (option_map (λ n. (lexemes.Punctuation, n))) none

front_at_separator : (piece rest : List ℕ) → IsSeparator piece rest → front (piece ++ rest) ≡ None
front_at_separator piece rest (Blank b whole is) =
    let test : (is_blank b || (b == 35)) ≡ true = ap (λ (t : Bool). t || (b == 35)) is in
    let first = blank_first b test in
    ap (λ (l : List ℕ). front (l ++ rest)) whole ∙ front_at_mark b rest first.0 first.1 (sign_len_none b rest test)
front_at_separator piece rest (Line bytes whole all ends) =
    ap (λ (l : List ℕ). front (l ++ rest)) whole ∙ front_at_mark 35 (bytes ++ rest) refl refl (sign_len_none 35 (bytes ++ rest) refl)
front_at_separator piece rest (Block bytes whole first) =
    ap (λ (l : List ℕ). front (l ++ rest)) whole ∙ front_at_mark 47 (42 ∷ (bytes ++ 42 ∷ 47 ∷ []) ++ rest) refl refl refl

pub token_no_separator : (text : List ℕ) (sort : Lexeme) (slice rest : List ℕ) → IsToken text sort slice rest → HasNoSeparator text
token_no_separator text sort slice rest token piece more whole is = no_token text (ap front whole ∙ front_at_separator piece more is) sort slice rest token

-- what a token says

pub word_kind : (slice : List ℕ) (k : TokenKind) → IsValue lexemes.Word slice k → k ≡ kinds.Name
word_kind slice kinds.Name is = refl
word_kind slice _ is = absurd is

quote_kind : (slice : List ℕ) (k : TokenKind) → IsValue lexemes.QuotedName slice k → k ≡ kinds.QuotedName
quote_kind slice kinds.QuotedName is = refl
quote_kind slice _ is = absurd is

text_kind : (slice : List ℕ) (k : TokenKind) → IsValue lexemes.Text slice k → k ≡ kinds.Text
text_kind slice kinds.Text is = refl
text_kind slice _ is = absurd is

pub mark_kind : (slice : List ℕ) (k : TokenKind) → IsValue lexemes.Punctuation slice k → k ≡ kinds.Punctuation
mark_kind slice kinds.Punctuation is = refl
mark_kind slice _ is = absurd is

pub decimal_kind : (slice : List ℕ) (k : TokenKind) → IsValue lexemes.Decimal slice k → (n : ℕ) × (k ≡ kinds.Number n) × IsNumber 10 slice n
decimal_kind slice (kinds.Number n) is = (n, refl, is)
decimal_kind slice _ is = absurd is

pub hexadecimal_kind : (slice : List ℕ) (k : TokenKind) → IsValue lexemes.Hexadecimal slice k → (n : ℕ) × (k ≡ kinds.Number n) × IsHexNumber slice n
hexadecimal_kind slice (kinds.Number n) is = (n, refl, is)
hexadecimal_kind slice _ is = absurd is

pub dotted_kind : (slice : List ℕ) (k : TokenKind) → IsValue lexemes.Ipv4 slice k → (n : ℕ) × (k ≡ kinds.Ip (V4 n)) × IsAddrText slice (V4 n)
dotted_kind slice (kinds.Ip (V4 n)) is = (n, refl, is)
dotted_kind slice _ is = absurd is

pub colons_kind : (slice : List ℕ) (k : TokenKind) → IsValue lexemes.Ipv6 slice k → (n : ℕ) × (k ≡ kinds.Ip (V6 n)) × IsAddrText slice (V6 n)
colons_kind slice (kinds.Ip (V6 n)) is = (n, refl, is)
colons_kind slice _ is = absurd is

pub hex_same : (slice : List ℕ) (m n : ℕ) → IsHexNumber slice m → IsHexNumber slice n → m ≡ n
hex_same slice m n one other =
    let spelled : 48 ∷ 120 ∷ one.digits ≡ 48 ∷ 120 ∷ other.digits = sym one.whole ∙ other.whole in
    let digits : one.digits ≡ other.digits = cc in
    sym one.number.value ∙ ap (digits_value 16) digits ∙ other.number.value

pub value_once : (sort : Lexeme) (slice : List ℕ) (k l : TokenKind) → IsValue sort slice k → IsValue sort slice l → k ≡ l
value_once lexemes.Word slice k l one other = word_kind slice k one ∙ sym (word_kind slice l other)
value_once lexemes.QuotedName slice k l one other = quote_kind slice k one ∙ sym (quote_kind slice l other)
value_once lexemes.Decimal slice k l one other =
    let a = decimal_kind slice k one in let b = decimal_kind slice l other in
    a.1 ∙ ap (λ (n : ℕ). kinds.Number n) (sym a.2.value ∙ b.2.value) ∙ sym b.1
value_once lexemes.Hexadecimal slice k l one other =
    let a = hexadecimal_kind slice k one in let b = hexadecimal_kind slice l other in
    a.1 ∙ ap (λ (n : ℕ). kinds.Number n) (hex_same slice a.0 b.0 a.2 b.2) ∙ sym b.1
value_once lexemes.Ipv4 slice k l one other =
    let a = dotted_kind slice k one in let b = dotted_kind slice l other in
    a.1 ∙ ap (λ (x : Addr). kinds.Ip x) (addr_texts_agree slice (V4 a.0) (V4 b.0) a.2 b.2) ∙ sym b.1
value_once lexemes.Ipv6 slice k l one other =
    let a = colons_kind slice k one in let b = colons_kind slice l other in
    a.1 ∙ ap (λ (x : Addr). kinds.Ip x) (addr_texts_agree slice (V6 a.0) (V6 b.0) a.2 b.2) ∙ sym b.1
value_once lexemes.Text slice k l one other = text_kind slice k one ∙ sym (text_kind slice l other)
value_once lexemes.Punctuation slice k l one other = mark_kind slice k one ∙ sym (mark_kind slice l other)

-- one token

token_by : (text : List ℕ) (o : Option (Lexeme × ℕ)) → front text ≡ o → (sort other : Lexeme) (slice rest front' back : List ℕ) → IsToken text sort slice rest → IsToken text other front' back → (sort ≡ other) × (slice ≡ front') × (rest ≡ back)
token_by text None is sort other slice rest front' back one two = absurd (no_token text is sort slice rest one)
token_by text (Some found) is sort other slice rest front' back one two =
    let a = one_token text found.0 found.1 is sort slice rest one in
    let b = one_token text found.0 found.1 is other front' back two in
    (a.0 ∙ sym b.0, a.1 ∙ sym b.1, a.2 ∙ sym b.2)

-- two tokens at the front of one text are one
pub token_once : (text : List ℕ) (sort other : Lexeme) (slice rest front' back : List ℕ) → IsToken text sort slice rest → IsToken text other front' back → (sort ≡ other) × (slice ≡ front') × (rest ≡ back)
token_once text sort other slice rest front' back one two = token_by text (front text) refl sort other slice rest front' back one two

nil_no_separator : HasNoSeparator []
nil_no_separator piece rest whole is = absurd (omega (arith, ap (λ (l : List ℕ). length l) whole, length-append piece rest, some_piece piece rest is))

next_no_separator : (place : ℕ) (text : List ℕ) (t : Token) (rest : List ℕ) (next : IsNext place text t rest) → HasNoSeparator (next.slice ++ rest)
next_no_separator place text t rest next = token_no_separator (next.slice ++ rest) next.sort next.slice rest next.token

token_parts : (t u : Token) → t.kind ≡ u.kind → t.at ≡ u.at → t.len ≡ u.len → t ≡ u
token_parts t u kind at len =
    let one : t ≡ record { kind = u.kind; at = t.at; len = t.len } = ap (λ (k : TokenKind). record { kind = k; at = t.at; len = t.len }) kind in
    let two : record { kind = u.kind; at = t.at; len = t.len } ≡ record { kind = u.kind; at = u.at; len = t.len } = ap (λ (n : ℕ). record { kind = u.kind; at = n; len = t.len }) at in
    one ∙ two ∙ ap (λ (n : ℕ). record { kind = u.kind; at = u.at; len = n }) len

-- one token stands next
pub next_once : (place : ℕ) (text : List ℕ) (t u : Token) (rest back : List ℕ) → IsNext place text t rest → IsNext place text u back → (t ≡ u) × (rest ≡ back)
next_once place text t u rest back one two =
    let gap = gap_once one.gap (one.slice ++ rest) two.gap (two.slice ++ back) one.separators two.separators (next_no_separator place text t rest one) (next_no_separator place text u back two) (sym one.whole ∙ two.whole) in
    let P : List ℕ → Type 0 = λ l. IsToken l one.sort one.slice rest in
    let same = token_once (two.slice ++ back) one.sort two.sort one.slice rest two.slice back (subst P gap.1 one.token) two.token in
    let V : Lexeme → Type 0 = λ s. IsValue s one.slice t.kind in
    let W : List ℕ → Type 0 = λ l. IsValue two.sort l t.kind in
    let kind = value_once two.sort two.slice t.kind u.kind (subst W same.1 (subst V same.0 one.value)) two.value in (
      token_parts t u kind
          (one.at ∙ ap (λ (l : List ℕ). place + length l) gap.0 ∙ sym two.at)
          (one.len ∙ ap (λ (l : List ℕ). length l) same.1 ∙ sym two.len),
      same.2,
    )

-- where a gap ends the text, no token follows it
pub gap_no_next : {A : Type 0} (place : ℕ) (text : List ℕ) (t : Token) (rest : List ℕ) → IsGap text [] → IsNext place text t rest → A
gap_no_next place text t rest gap next =
    let same = gap_once text [] next.gap (next.slice ++ rest) gap next.separators nil_no_separator (next_no_separator place text t rest next) (append-nil text ∙ next.whole) in
    let some = shape_some next.sort next.slice rest next.token.shape in
    absurd (omega (arith, some, ap (λ (l : List ℕ). length l) same.1, length-append next.slice rest))

-- where no token follows the gap, none does
stuck_no_next : {A : Type 0} (place : ℕ) (text : List ℕ) (t : Token) (rest : List ℕ) (at : ℕ) → IsStuck place text at → IsNext place text t rest → A
stuck_no_next place text t rest at stuck next =
    let same = gap_once stuck.gap stuck.rest next.gap (next.slice ++ rest) stuck.separators next.separators stuck.no_separator (next_no_separator place text t rest next) (sym stuck.whole ∙ next.whole) in
    let P : List ℕ → Type 0 = λ l. IsToken l next.sort next.slice rest in
    absurd (stuck.no_token next.sort next.slice rest t.kind (subst P (sym same.1) next.token) next.value)

along_rest : (t u : Token) (rest back : List ℕ) (P : ℕ → List ℕ → Type 0) → t ≡ u → rest ≡ back → P (u.at + u.len) back → P (t.at + t.len) rest
along_rest t u rest back P same rests h =
    let Q : Token → Type 0 = λ v. P (v.at + v.len) rest in
    let R : List ℕ → Type 0 = λ l. P (u.at + u.len) l in
    subst Q (sym same) (subst R (sym rests) h)

-- a text has one list of tokens
pub lexes_once : (place : ℕ) (text : List ℕ) (ts us : List Token) → Lexes place text ts → Lexes place text us → ts ≡ us
lexes_once place text [] [] one two = refl
lexes_once place text [] (u ∷ us) one two = gap_no_next place text u two.0 one two.1
lexes_once place text (t ∷ ts) [] one two = gap_no_next place text t one.0 two one.1
lexes_once place text (t ∷ ts) (u ∷ us) one two =
    let same = next_once place text t u one.0 two.0 one.1 two.1 in
    let more = lexes_once (t.at + t.len) one.0 ts us one.2 (along_rest t u one.0 two.0 (λ n l. Lexes n l us) same.0 same.1 two.2) in
    ap (λ (v : Token). v ∷ ts) same.0 ∙ ap (λ (vs : List Token). u ∷ vs) more

-- it has tokens, or a place where they stop
pub lexes_or_stops : {A : Type 0} (place : ℕ) (text : List ℕ) (ts us : List Token) (at : ℕ) → Lexes place text ts → Stops place text us at → A
lexes_or_stops place text [] [] at one two =
    let same = gap_once text [] two.gap two.rest one two.separators nil_no_separator two.no_separator (append-nil text ∙ two.whole) in
    absurd (omega (arith, two.some, ap (λ (l : List ℕ). length l) same.1))
lexes_or_stops place text [] (u ∷ us) at one two = gap_no_next place text u two.0 one two.1
lexes_or_stops place text (t ∷ ts) [] at one two = stuck_no_next place text t one.0 at two one.1
lexes_or_stops place text (t ∷ ts) (u ∷ us) at one two =
    let same = next_once place text t u one.0 two.0 one.1 two.1 in
    lexes_or_stops (t.at + t.len) one.0 ts us at one.2 (along_rest t u one.0 two.0 (λ n l. Stops n l us at) same.0 same.1 two.2)

-- and one such place
pub stops_once : (place : ℕ) (text : List ℕ) (ts us : List Token) (at stop : ℕ) → Stops place text ts at → Stops place text us stop → at ≡ stop
stops_once place text [] [] at stop one two =
    let same = gap_once one.gap one.rest two.gap two.rest one.separators two.separators one.no_separator two.no_separator (sym one.whole ∙ two.whole) in
    one.at ∙ ap (λ (l : List ℕ). place + length l) same.0 ∙ sym two.at
stops_once place text [] (u ∷ us) at stop one two = stuck_no_next place text u two.0 at one two.1
stops_once place text (t ∷ ts) [] at stop one two = stuck_no_next place text t one.0 stop two one.1
stops_once place text (t ∷ ts) (u ∷ us) at stop one two =
    let same = next_once place text t u one.0 two.0 one.1 two.1 in
    stops_once (t.at + t.len) one.0 ts us at stop one.2 (along_rest t u one.0 two.0 (λ n l. Stops n l us stop) same.0 same.1 two.2)

-- steps of the lexer

nil_of : (l : List ℕ) → length l ≡ 0 → l ≡ []
nil_of [] e = refl
nil_of (x ∷ l) e = absurd (omega arith)

-- behind a gap stands a token
pub next_is : (text : List ℕ) (at g : ℕ) (kind : TokenKind) (n : ℕ) → at + g ≤ length text → IsGap (take g (drop at text)) (drop g (drop at text)) → Tells (drop (at + g) text) kind n
    → IsNext at (drop at text) (record { kind = kind; at = at + g; len = n }) (drop (at + g + n) text)
next_is text at g kind n within gap tells =
    let here : drop g (drop at text) ≡ drop (at + g) text = drop-drop g at text in
    let rest : drop n (drop (at + g) text) ≡ drop (at + g + n) text = drop-drop n (at + g) text in
    let slice = take n (drop (at + g) text) in
    let cut : drop (at + g) text ≡ take n (drop (at + g) text) ++ drop (at + g + n) text = sym (take-append-drop n (drop (at + g) text)) ∙ ap (λ (l : List ℕ). take n (drop (at + g) text) ++ l) rest in
    let G : List ℕ → Type 0 = λ l. IsGap (take g (drop at text)) l in
    let T : List ℕ → Type 0 = λ l. IsToken (drop (at + g) text) tells.sort (take n (drop (at + g) text)) l in
    let U : List ℕ → Type 0 = λ l. IsToken l tells.sort (take n (drop (at + g) text)) (drop (at + g + n) text) in
    record {
      sort = tells.sort;
      gap = take g (drop at text);
      slice = take n (drop (at + g) text);
      whole = sym (take-append-drop g (drop at text)) ∙ ap (λ (l : List ℕ). take g (drop at text) ++ l) (here ∙ cut);
      separators = subst G (here ∙ cut) gap;
      token = subst U cut (subst T rest tells.token);
      value = tells.value;
      at = omega (arith, length-take g (drop at text), length-drop at text);
      len = omega (arith, length-take n (drop (at + g) text), tells.within);
    }

pub next_lexes : (text : List ℕ) (at g : ℕ) (kind : TokenKind) (n : ℕ) (more : List Token) → at + g ≤ length text → IsGap (take g (drop at text)) (drop g (drop at text)) → Tells (drop (at + g) text) kind n
    → Lexes (at + g + n) (drop (at + g + n) text) more → Lexes at (drop at text) (record { kind = kind; at = at + g; len = n } ∷ more)
next_lexes text at g kind n more within gap tells rest = (drop (at + g + n) text, next_is text at g kind n within gap tells, rest)

pub next_stops : (text : List ℕ) (at g : ℕ) (kind : TokenKind) (n : ℕ) (more : List Token) (place : ℕ) → at + g ≤ length text → IsGap (take g (drop at text)) (drop g (drop at text)) → Tells (drop (at + g) text) kind n
    → Stops (at + g + n) (drop (at + g + n) text) more place → Stops at (drop at text) (record { kind = kind; at = at + g; len = n } ∷ more) place
next_stops text at g kind n more place within gap tells rest = (drop (at + g + n) text, next_is text at g kind n within gap tells, rest)

-- nothing but a gap is left
pub gap_ends : (text : List ℕ) (at g : ℕ) → at ≤ length text → IsGap (take g (drop at text)) (drop g (drop at text)) → length (drop (at + g) text) ≡ 0 → Lexes at (drop at text) []
gap_ends text at g within gap none =
    let here : drop g (drop at text) ≡ drop (at + g) text = drop-drop g at text in
    let nothing : drop g (drop at text) ≡ [] = here ∙ nil_of (drop (at + g) text) none in
    let all : take g (drop at text) ≡ drop at text = sym (append-nil (take g (drop at text))) ∙ ap (λ (l : List ℕ). take g (drop at text) ++ l) (sym nothing) ∙ take-append-drop g (drop at text) in
    let P : List ℕ → Type 0 = λ l. IsGap (take g (drop at text)) l in
    let Q : List ℕ → Type 0 = λ l. IsGap l [] in
    subst Q all (subst P nothing gap)

-- behind the gap stands what is no token
pub gap_stops : (text : List ℕ) (at g : ℕ) → at + g ≤ length text → IsGap (take g (drop at text)) (drop g (drop at text)) → HasNoSeparator (drop g (drop at text)) → 0 < length (drop (at + g) text) → HasNoToken (drop (at + g) text) → Stops at (drop at text) [] (at + g)
gap_stops text at g within gap bare some none =
    let here : drop g (drop at text) ≡ drop (at + g) text = drop-drop g at text in
    let P : List ℕ → Type 0 = λ l. IsGap (take g (drop at text)) l in
    let Q : List ℕ → Type 0 = λ l. HasNoSeparator l in
    record {
      gap = take g (drop at text);
      rest = drop (at + g) text;
      whole = sym (take-append-drop g (drop at text)) ∙ ap (λ (l : List ℕ). take g (drop at text) ++ l) here;
      separators = subst P here gap;
      at = omega (arith, length-take g (drop at text), length-drop at text);
      some = some;
      no_separator = subst Q here bare;
      no_token = none;
    }

-- what spells an address of one family spells none of the other

pub dotted_not_v6 : (slice : List ℕ) (n : ℕ) → IsAddrText slice (V6 n) → (kind : TokenKind) → IsValue lexemes.Ipv4 slice kind → ⊥
dotted_not_v6 slice n is kind value =
    let spelled = dotted_kind slice kind value in
    let same : ◌≡◌ {A = Addr} (V6 n) (V4 spelled.0) = addr_texts_agree slice (V6 n) (V4 spelled.0) is spelled.2 in
    cc

pub colons_not_v4 : (slice : List ℕ) (n : ℕ) → IsAddrText slice (V4 n) → (kind : TokenKind) → IsValue lexemes.Ipv6 slice kind → ⊥
colons_not_v4 slice n is kind value =
    let spelled = colons_kind slice kind value in
    let same : ◌≡◌ {A = Addr} (V4 n) (V6 spelled.0) = addr_texts_agree slice (V4 n) (V6 spelled.0) is spelled.2 in
    cc

pub dotted_none : (slice : List ℕ) → ((addr : Addr) → IsAddrText slice addr → ⊥) → (kind : TokenKind) → IsValue lexemes.Ipv4 slice kind → ⊥
dotted_none slice none kind value = let spelled = dotted_kind slice kind value in none (V4 spelled.0) spelled.2

pub colons_none : (slice : List ℕ) → ((addr : Addr) → IsAddrText slice addr → ⊥) → (kind : TokenKind) → IsValue lexemes.Ipv6 slice kind → ⊥
colons_none slice none kind value = let spelled = colons_kind slice kind value in none (V6 spelled.0) spelled.2

-- In a run that begins no IPv6 address none begins at any later byte.

abbrev is_colon : ℕ → Bool
is_colon b = b == 58

colons_later : (b : ℕ) (bytes : List ℕ) → is_colons_byte b ≡ true → begins_colons bytes ≡ true → begins_colons (b ∷ bytes) ≡ true
colons_later b bytes is colons =
    let parts = and_parts (nat_le 2 (count_by is_colon (take_while is_colons_byte bytes))) (not (first_passes is_name_byte (drop (prefix_len is_colons_byte bytes) bytes))) colons in
    let more : count_by is_colon (take_while is_colons_byte (b ∷ bytes)) ≡ cond (b == 58) 1 0 + count_by is_colon (take_while is_colons_byte bytes) =
    ap (count_by is_colon) (run_yes is_colons_byte b bytes is) ∙ sum_by-cons (λ c. cond (is_colon c) 1 0) b (take_while is_colons_byte bytes) in
    let two : nat_le 2 (count_by is_colon (take_while is_colons_byte (b ∷ bytes))) ≡ true = le-leb 2 _ (omega (arith, more, leb-true 2 _ parts.0)) in
    let last : not (first_passes is_name_byte (drop (prefix_len is_colons_byte (b ∷ bytes)) (b ∷ bytes))) ≡ true = ap (λ (l : List ℕ). not (first_passes is_name_byte l)) (behind_yes is_colons_byte b bytes is) ∙ parts.1 in
    and_from (nat_le 2 (count_by is_colon (take_while is_colons_byte (b ∷ bytes)))) _ two last

pub run_plain : (text : List ℕ) (k : ℕ) → begins_colons text ≡ false → k < prefix_len is_colons_byte text → begins_colons (drop k text) ≡ false
run_plain [] k plain within = absurd (omega arith)
run_plain (b ∷ bytes) zero plain within = plain
run_plain (b ∷ bytes) (suc k) plain within = elim (cases_Bool (is_colons_byte b)) [
  | inl is ↦ elim (cases_Bool (begins_colons bytes)) [
    | inl colons ↦ absurd (false≢true (sym plain ∙ colons_later b bytes is colons))
    | inr other ↦ run_plain bytes k other (omega (arith, within, len_yes is_colons_byte b bytes is))
  ]
  | inr fails ↦ absurd (omega (arith, within, len_no is_colons_byte b bytes fails))
]

-- at each byte of the run, and at the first
pub plain_below : (text : List ℕ) (k n : ℕ) → begins_colons text ≡ false → n ≡ prefix_len is_colons_byte text → k < max n 1 → begins_colons (drop k text) ≡ false
plain_below text zero n plain len within = plain
plain_below text (suc k) n plain len within = run_plain text (suc k) plain (omega arith)

pub no_tokens : (text : List ℕ) → front text ≡ None → HasNoToken text
no_tokens text none sort slice rest kind token value = no_token text none sort slice rest token

-- a token that says nothing
pub no_value : (text : List ℕ) (sort : Lexeme) (n : ℕ) → front text ≡ Some (sort, n) → ((kind : TokenKind) → IsValue sort (take n text) kind → ⊥) → HasNoToken text
no_value text sort n is none other slice rest kind token value =
    let same = one_token text sort n is other slice rest token in
    let P : Lexeme → Type 0 = λ s. IsValue s slice kind in
    let Q : List ℕ → Type 0 = λ l. IsValue sort l kind in
    none kind (subst Q same.1 (subst P same.0 value))

pub tells : (text : List ℕ) (sort : Lexeme) (n : ℕ) (kind : TokenKind) → front text ≡ Some (sort, n) → IsValue sort (take n text) kind → Tells text kind n
tells text sort n kind is value =
    let token = front_token text sort n is in
    record { sort = sort; some = token.0; within = token.1; token = token.2; value = value }

-- by the sort of a token, where its constructors aren't at hand
pub by_sort : (P : Lexeme → Type 0) → P lexemes.Word → P lexemes.QuotedName → P lexemes.Decimal → P lexemes.Hexadecimal → P lexemes.Ipv4 → P lexemes.Ipv6 → P lexemes.Text → P lexemes.Punctuation → (sort : Lexeme) → P sort
by_sort P word quoted decimal hexadecimal dotted colons text sign lexemes.Word = word
by_sort P word quoted decimal hexadecimal dotted colons text sign lexemes.QuotedName = quoted
by_sort P word quoted decimal hexadecimal dotted colons text sign lexemes.Decimal = decimal
by_sort P word quoted decimal hexadecimal dotted colons text sign lexemes.Hexadecimal = hexadecimal
by_sort P word quoted decimal hexadecimal dotted colons text sign lexemes.Ipv4 = dotted
by_sort P word quoted decimal hexadecimal dotted colons text sign lexemes.Ipv6 = colons
by_sort P word quoted decimal hexadecimal dotted colons text sign lexemes.Text = text
by_sort P word quoted decimal hexadecimal dotted colons text sign lexemes.Punctuation = sign
