-- A text that is written of tokens with spaces between them has these tokens.
use Rattle.std.proofs.Common.{◌≡◌, ℕ, zero, suc, ◌+◌, ◌<◌, ◌≤◌, Bool, true, false, not, ◌&&◌, ◌||◌, ◌==◌, List, [], ◌∷◌, ◌++◌, length, take, drop, refl, sym, ◌∙◌, ap, subst, arith, inl, inr, ◌⊎◌, append_assoc}
use Rattle.std.specs.Char.{is_ascii_digit, is_ascii_hexdigit}
use Rattle.std.specs.List.{list_all, list_any}
use Rattle.std.specs.Bool.{nat_eq}
use Rattle.std.specs.Cmp.Lexicographic.{pointwise, same_text}
use Rattle.std.proofs.lemmas.Bool.{cases_Bool, and_parts, and_from, false≢true}
use Rattle.std.proofs.lemmas.Bool.Decides.{nat_tests}
use Rattle.std.proofs.lemmas.List.{length-append}
use Rattle.conf_scan.specs.Shapes.{is_letter, is_name_byte, is_quoted_byte, is_text_byte, is_colons_byte, is_sign, is_short_sign, is_pair_sign, is_empty_sign, short_signs, pair_signs, empty_signs, IsDotted, IsShape, IsToken, IsText, Blank, IsGap}
use Rattle.conf_scan.specs.Lex.{Lexes}
use Rattle.conf_scan.specs.declared.scan.Lexeme.{Lexeme}
use Rattle.conf_scan.specs.declared.scan.Lexeme.TheVariants as lexemes
use Rattle.conf_scan.specs.declared.token.Token.{Token}
use Rattle.conf_laws.specs.Spaced.{Spelling, AreSpellings, spaced, spellings_of}

-- ---- bytes that no token but a text has

-- neither a space nor a double quote
abbrev is_tight : ℕ → Bool
is_tight b = not (b == 32) && not (b == 34)

all_weaker : (p q : ℕ → Bool) → ((b : ℕ) → p b ≡ true → q b ≡ true) → (xs : List ℕ) → list_all p xs ≡ true → list_all q xs ≡ true
all_weaker p q weaker [] all = refl
all_weaker p q weaker (x ∷ xs) all =
    let parts = and_parts (p x) (list_all p xs) all in
    and_from (q x) (list_all q xs) (weaker x parts.0) (all_weaker p q weaker xs parts.1)

all_joined : (p : ℕ → Bool) (xs ys : List ℕ) → list_all p xs ≡ true → list_all p ys ≡ true → list_all p (xs ++ ys) ≡ true
all_joined p [] ys one other = other
all_joined p (x ∷ xs) ys one other =
    let parts = and_parts (p x) (list_all p xs) one in
    and_from (p x) (list_all p (xs ++ ys)) parts.0 (all_joined p xs ys parts.1 other)

tight_letter : (b : ℕ) → is_letter b ≡ true → is_tight b ≡ true
tight_letter b is = grind (arith, nat_tests)

tight_name : (b : ℕ) → is_name_byte b ≡ true → is_tight b ≡ true
tight_name b is = grind (arith, nat_tests)

tight_quoted : (b : ℕ) → is_quoted_byte b ≡ true → is_tight b ≡ true
tight_quoted b is = grind (arith, nat_tests)

tight_digit : (b : ℕ) → is_ascii_digit b ≡ true → is_tight b ≡ true
tight_digit b is = grind (arith, nat_tests)

tight_hexadecimal : (b : ℕ) → is_ascii_hexdigit b ≡ true → is_tight b ≡ true
tight_hexadecimal b is = grind (arith, nat_tests)

tight_colons : (b : ℕ) → is_colons_byte b ≡ true → is_tight b ≡ true
tight_colons b is = grind (arith, nat_tests)

tight_dotted : (k : ℕ) (slice : List ℕ) → IsDotted k slice → list_all is_tight slice ≡ true
tight_dotted zero slice digits = all_weaker is_ascii_digit is_tight tight_digit slice digits.1
tight_dotted (suc k) slice dotted =
    ap (list_all is_tight) dotted.3
    ∙ all_joined is_tight dotted.0 (46 ∷ dotted.1) (all_weaker is_ascii_digit is_tight tight_digit dotted.0 dotted.2.1) (tight_dotted k dotted.1 dotted.4)

or_skips : (a b : Bool) → a ≡ false → (a || b) ≡ b
or_skips true b e = absurd (cc)
or_skips false b e = refl

-- what a test says of each text, it says of one that equals one of them
among : (test : List ℕ → Bool) (slice : List ℕ) (texts : List (List ℕ)) → list_all test texts ≡ true → list_any (pointwise nat_eq slice) texts ≡ true → test slice ≡ true
among test slice [] all any = cc
among test slice (t ∷ texts) all any =
    let parts = and_parts (test t) (list_all test texts) all in
    elim (cases_Bool (pointwise nat_eq slice t)) [
      | inl is ↦ ap test (same_text slice t (sym is)) ∙ parts.0
      | inr fails ↦ among test slice texts parts.1 (sym (or_skips (pointwise nat_eq slice t) _ fails) ∙ any)
    ]

or_cases : (a b : Bool) → (a || b) ≡ true → (a ≡ true) ⊎ (b ≡ true)
or_cases true b e = inl refl
or_cases false b e = inr e

tight_sign : (slice : List ℕ) → is_sign slice ≡ true → list_all is_tight slice ≡ true
tight_sign slice is = elim (or_cases (is_short_sign slice || is_pair_sign slice) (is_empty_sign slice) is) [
  | inl first ↦ elim (or_cases (is_short_sign slice) (is_pair_sign slice) first) [
    | inl one ↦ among (list_all is_tight) slice short_signs refl one
    | inr two ↦ among (list_all is_tight) slice pair_signs refl two
  ]
  | inr last ↦ among (list_all is_tight) slice empty_signs refl last
]

-- a token is a text or has neither spaces nor double quotes
tight_or_text : (sort : Lexeme) (slice rest : List ℕ) → IsShape sort slice rest → (list_all is_tight slice ≡ true) ⊎ IsText slice
tight_or_text lexemes.Word [] rest is = absurd is
tight_or_text lexemes.Word (b ∷ bytes) rest is = inl (and_from (is_tight b) (list_all is_tight bytes) (tight_letter b is.0) (all_weaker is_name_byte is_tight tight_name bytes is.1))
tight_or_text lexemes.QuotedName slice rest is =
    inl (ap (list_all is_tight) is.whole ∙ all_joined is_tight is.name (39 ∷ []) (all_weaker is_quoted_byte is_tight tight_quoted is.name is.bytes) refl)
tight_or_text lexemes.Decimal slice rest is = inl (all_weaker is_ascii_digit is_tight tight_digit slice is.1)
tight_or_text lexemes.Hexadecimal slice rest is = inl (ap (list_all is_tight) is.whole ∙ all_weaker is_ascii_hexdigit is_tight tight_hexadecimal is.digits is.bytes)
tight_or_text lexemes.Ipv4 slice rest is = inl (tight_dotted 3 slice is)
tight_or_text lexemes.Ipv6 slice rest is = inl (all_weaker is_colons_byte is_tight tight_colons slice is.bytes)
tight_or_text lexemes.Text slice rest is = inr is
tight_or_text lexemes.Punctuation slice rest is = inl (tight_sign slice is.0)

-- ---- what stands before a space

no_space : (slice gone : List ℕ) → list_all is_tight (slice ++ 32 ∷ gone) ≡ true → ⊥
no_space [] gone all = false≢true all
no_space (b ∷ slice) gone all = no_space slice gone (and_parts (is_tight b) (list_all is_tight (slice ++ 32 ∷ gone)) all).1

-- a front that is longer holds the space
longer : (slice more front back : List ℕ) → slice ++ 32 ∷ more ≡ front ++ back → length slice < length front → (gone : List ℕ) × (front ≡ slice ++ 32 ∷ gone)
longer [] more [] back e more_of = absurd (omega (arith, more_of))
longer [] more (b ∷ front) back e more_of = (front, let head : 32 ≡ b = cc in ap (λ (n : ℕ). n ∷ front) (sym head))
longer (x ∷ slice) more [] back e more_of = absurd (omega (arith, more_of))
longer (x ∷ slice) more (b ∷ front) back e more_of =
    let head : x ≡ b = cc in
    let tail : slice ++ 32 ∷ more ≡ front ++ back = cc in
    let l = longer slice more front back tail (omega (arith, more_of)) in
    (l.0, ap (λ (n : ℕ). n ∷ front) (sym head) ∙ ap (λ (u : List ℕ). x ∷ u) l.1)

-- of two texts with one beginning none goes on behind the other's end
no_quote : (text gone other : List ℕ) → list_all is_text_byte text ≡ true → list_all is_text_byte other ≡ true → text ++ 34 ∷ 32 ∷ gone ≡ other ++ 34 ∷ [] → ⊥
no_quote [] gone [] one two e = let tail : 32 ∷ gone ≡ [] = cc in cc
no_quote [] gone (b ∷ other) one two e =
    let head : 34 ≡ b = cc in
    let parts = and_parts (is_text_byte b) (list_all is_text_byte other) two in
    false≢true (subst (λ (n : ℕ). is_text_byte n ≡ true) (sym head) parts.0)
no_quote (x ∷ text) gone [] one two e =
    let head : x ≡ 34 = cc in
    let parts = and_parts (is_text_byte x) (list_all is_text_byte text) one in
    false≢true (subst (λ (n : ℕ). is_text_byte n ≡ true) head parts.0)
no_quote (x ∷ text) gone (b ∷ other) one two e =
    let tail : text ++ 34 ∷ 32 ∷ gone ≡ other ++ 34 ∷ [] = cc in
    no_quote text gone other (and_parts (is_text_byte x) (list_all is_text_byte text) one).1 (and_parts (is_text_byte b) (list_all is_text_byte other) two).1 tail

first_quote : (slice gone other : List ℕ) → list_all is_tight slice ≡ true → slice ++ 32 ∷ gone ≡ 34 ∷ other → ⊥
first_quote [] gone other all e = let head : ◌≡◌ {A = ℕ} 32 34 = cc in omega (arith, head)
first_quote (b ∷ slice) gone other all e =
    let head : b ≡ 34 = cc in
    false≢true (subst (λ (n : ℕ). is_tight n ≡ true) head (and_parts (is_tight b) (list_all is_tight slice) all).0)

no_longer : (one two : Lexeme) (slice more front back : List ℕ) → IsShape one slice (32 ∷ []) → IsShape two front back → slice ++ 32 ∷ more ≡ front ++ back → length slice < length front → ⊥
no_longer one two slice more front back shape other e less =
    let l = longer slice more front back e less in
    elim (tight_or_text two front back other) [
      | inl all ↦ no_space slice l.0 (ap (list_all is_tight) (sym l.1) ∙ all)
      | inr text ↦ elim (tight_or_text one slice (32 ∷ []) shape) [
        | inl all ↦ first_quote slice l.0 (text.text ++ 34 ∷ []) all (sym l.1 ∙ text.whole)
        | inr mine ↦
            let both : 34 ∷ (mine.text ++ 34 ∷ []) ++ 32 ∷ l.0 ≡ 34 ∷ (text.text ++ 34 ∷ []) = ap (λ (u : List ℕ). u ++ 32 ∷ l.0) (sym mine.whole) ∙ sym l.1 ∙ text.whole in
            let tail : (mine.text ++ 34 ∷ []) ++ 32 ∷ l.0 ≡ text.text ++ 34 ∷ [] = cc in
            no_quote mine.text l.0 text.text mine.bytes text.bytes (sym (append_assoc mine.text (34 ∷ []) (32 ∷ l.0)) ∙ tail)
      ]
    ]

-- the shape looks no further than to the space
shape_there : (sort : Lexeme) (slice more : List ℕ) → IsShape sort slice (32 ∷ []) → IsShape sort slice (32 ∷ more)
shape_there lexemes.Word slice more is = is
shape_there lexemes.QuotedName slice more is = is
shape_there lexemes.Decimal slice more is = is
shape_there lexemes.Hexadecimal slice more is = is
shape_there lexemes.Ipv4 slice more is = is
shape_there lexemes.Ipv6 slice more is = record { bytes = is.bytes; colons = is.colons; longest = refl }
shape_there lexemes.Text slice more is = is
shape_there lexemes.Punctuation slice more is = (is.0, λ e. refl)

pub shape_spaced : (sort : Lexeme) (slice rest : List ℕ) → IsShape sort slice rest → IsShape sort slice (32 ∷ [])
shape_spaced lexemes.Word slice rest is = is
shape_spaced lexemes.QuotedName slice rest is = is
shape_spaced lexemes.Decimal slice rest is = is
shape_spaced lexemes.Hexadecimal slice rest is = is
shape_spaced lexemes.Ipv4 slice rest is = is
shape_spaced lexemes.Ipv6 slice rest is = record { bytes = is.bytes; colons = is.colons; longest = refl }
shape_spaced lexemes.Text slice rest is = is
shape_spaced lexemes.Punctuation slice rest is = (is.0, λ e. refl)

at_most : (a b : ℕ) → (a < b → ⊥) → b ≤ a
at_most a b never = elim (cases_le a b) [ inl low ↦ low | inr high ↦ absurd (never high) ]
  where
    cases_le : (a b : ℕ) → (b ≤ a) ⊎ (a < b)
    cases_le a zero = inl (omega arith)
    cases_le zero (suc b) = inr (omega arith)
    cases_le (suc a) (suc b) = elim (cases_le a b) [ inl low ↦ inl (omega (arith, low)) | inr high ↦ inr (omega (arith, high)) ]

spaced_token : (sort : Lexeme) (slice more : List ℕ) → IsShape sort slice (32 ∷ []) → IsToken (slice ++ 32 ∷ more) sort slice (32 ∷ more)
spaced_token sort slice more shape = record {
  whole = refl;
  shape = shape_there sort slice more shape;
  longest = λ other front back whole is. at_most (length slice) (length front) (λ less. no_longer sort other slice more front back shape is whole less);
}

-- ---- all tokens

one_space : (rest : List ℕ) → IsGap (32 ∷ []) rest
one_space rest = record { pieces = (32 ∷ []) ∷ []; whole = refl; separators = (Blank 32 refl refl, tt) }

-- what begins behind a space
behind_space : (ss : List Spelling) → (more : List ℕ) × (spaced ss ≡ 32 ∷ more)
behind_space [] = ([], refl)
behind_space (s ∷ ss) = (s.0 ++ spaced ss, refl)

abbrev tokens_at : ℕ → List Spelling → List Token
tokens_at place [] = []
tokens_at place (s ∷ ss) = record { kind = s.1; at = place + 1; len = length s.0 } ∷ tokens_at (place + 1 + length s.0) ss

lexes_at : (place : ℕ) (ss : List Spelling) → AreSpellings ss → Lexes place (spaced ss) (tokens_at place ss)
lexes_at place [] are = one_space []
lexes_at place (s ∷ ss) are =
    let b = behind_space ss in (
      spaced ss,
      record {
        sort = are.0.sort;
        gap = 32 ∷ [];
        slice = s.0;
        whole = refl;
        separators = one_space (s.0 ++ spaced ss);
        token = subst (λ (l : List ℕ). IsToken (s.0 ++ l) are.0.sort s.0 l) (sym b.1) (spaced_token are.0.sort s.0 b.0 are.0.shape);
        value = are.0.value;
        at = refl;
        len = refl;
      },
      lexes_at (place + 1 + length s.0) ss are.1,
    )

drop_length : (front rest : List ℕ) → drop (length front) (front ++ rest) ≡ rest
drop_length [] rest = refl
drop_length (x ∷ front) rest = drop_length front rest

take_length : (front rest : List ℕ) → take (length front) (front ++ rest) ≡ front
take_length [] rest = refl
take_length (x ∷ front) rest = ap (λ (l : List ℕ). x ∷ l) (take_length front rest)

-- the bytes of each, in a text with something before it
bytes_at : (before : List ℕ) (ss : List Spelling) → spellings_of (before ++ spaced ss) (tokens_at (length before) ss) ≡ ss
bytes_at before [] = refl
bytes_at before (s ∷ ss) =
    let text = before ++ 32 ∷ (s.0 ++ spaced ss) in
    let one : text ≡ (before ++ 32 ∷ []) ++ (s.0 ++ spaced ss) = sym (append_assoc before (32 ∷ []) (s.0 ++ spaced ss)) in
    let two : text ≡ (before ++ 32 ∷ s.0) ++ spaced ss = sym (append_assoc before (32 ∷ s.0) (spaced ss)) in
    let at : length before + 1 ≡ length (before ++ 32 ∷ []) = omega (arith, length-append before (32 ∷ [])) in
    let next : length before + 1 + length s.0 ≡ length (before ++ 32 ∷ s.0) = omega (arith, length-append before (32 ∷ s.0)) in
    let slice : take (length s.0) (drop (length before + 1) (before ++ 32 ∷ (s.0 ++ spaced ss))) ≡ s.0 =
    ap (λ (n : ℕ). take (length s.0) (drop n text)) at ∙ ap (λ (l : List ℕ). take (length s.0) (drop (length (before ++ 32 ∷ [])) l)) one
    ∙ ap (take (length s.0)) (drop_length (before ++ 32 ∷ []) (s.0 ++ spaced ss)) ∙ take_length s.0 (spaced ss) in
    let tail : spellings_of (before ++ 32 ∷ (s.0 ++ spaced ss)) (tokens_at (length before + 1 + length s.0) ss) ≡ ss =
    ap (λ (n : ℕ). spellings_of text (tokens_at n ss)) next ∙ ap (λ (l : List ℕ). spellings_of l (tokens_at (length (before ++ 32 ∷ s.0)) ss)) two
    ∙ bytes_at (before ++ 32 ∷ s.0) ss in
    both s slice tail
  where
    both : {b : List ℕ} {l : List Spelling} (s : Spelling) → b ≡ s.0 → l ≡ ss → ◌≡◌ {A = List Spelling} ((b, s.1) ∷ l) (s ∷ ss)
    both s e f = rw (e, f) refl

pub read_back : (ss : List Spelling) → AreSpellings ss → (tokens : List Token) × Lexes 0 (spaced ss) tokens × (spellings_of (spaced ss) tokens ≡ ss)
read_back ss are = (tokens_at 0 ss, lexes_at 0 ss are, bytes_at [] ss)
