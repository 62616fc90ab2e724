-- No front of a text that is of some sort is longer than the one that the lexer computes.
use Rattle.std.proofs.Common.{◌≡◌, ℕ, suc, zero, ◌+◌, ◌<◌, ◌≤◌, Bool, true, false, cond, not, ◌&&◌, ◌||◌, ◌==◌, nat_le, List, [], ◌∷◌, ◌++◌, length, take, drop, Option, Some, None, refl, sym, ◌∙◌, ap, subst, arith, inl, inr, ◌⊎◌, append_assoc}
use Rattle.std.specs.Prelude.{count_by, codes}
use Rattle.std.specs.Char.{is_ascii_digit, is_ascii_hexdigit}
use Rattle.std.specs.List.{prefix_len, take_while, list_all}
use Rattle.std.specs.Option.{option_and_then, option_map}
use Rattle.std.proofs.lemmas.Bool.{cases_Bool, and_parts, and_from, leb-true, le-leb, eqb-true, not-true, not_from_false, false≢true}
use Rattle.std.proofs.lemmas.Bool.Decides.{nat_tests}
use Rattle.std.proofs.lemmas.List.{length-append}
use Rattle.std.proofs.lemmas.List.Folds.{length-prefix_len}
use Rattle.std.proofs.lemmas.List.Sums.{count_by-le-length, sum_by-cons}
use Rattle.std.proofs.lemmas.Option.{option_and_then_some}
use Rattle.conf_scan.specs.declared.scan.Lexeme.{Lexeme}
use Rattle.conf_scan.specs.declared.scan.Lexeme.TheVariants as lexemes
use Rattle.conf_scan.specs.Shapes.{is_letter, is_name_byte, is_quoted_byte, is_text_byte, is_colons_byte, is_sign, is_short_sign, is_pair_sign, is_empty_sign, short_signs, pair_signs, empty_signs, first_passes, IsDigits, IsDotted, IsShape, IsWord, IsQuote, IsText, IsHexadecimal, IsColons}
use Rattle.conf_scan.specs.Fronts.{quote_len, text_len, dot_len, dotted_len, begins_hexadecimal, dotted_or_number, has_sign, begins_comment, sign_len, begins_colons, plain_front, front}
use Rattle.conf_scan.proofs.Runs.{run_reach, run_is, len_yes, len_no, run_yes, run_no, first_is, if_some, map_some, among}
use Rattle.conf_scan.proofs.Found.{drop_front}

-- the computed front is at least so long, and of the sort where it is no longer
abbrev pub Reaches : Lexeme → ℕ → Option (Lexeme × ℕ) → Type 0
Reaches sort k None = ⊥
Reaches sort k (Some found) = (k ≤ found.1) × (k ≡ found.1 → sort ≡ found.0)

reaches_along : (sort : Lexeme) (k : ℕ) (o p : Option (Lexeme × ℕ)) → o ≡ p → Reaches sort k p → Reaches sort k o
reaches_along sort k o p e h = subst (λ (q : Option (Lexeme × ℕ)). Reaches sort k q) (sym e) h

le_is : (m n : ℕ) → m ≤ n → nat_le m n ≡ true
le_is m n h = le-leb m n h

pub drop_length : (front rest : List ℕ) → drop (length front) (front ++ rest) ≡ rest
drop_length [] rest = refl
drop_length (x ∷ front) rest = drop_length front rest

pub take_length : (front rest : List ℕ) → take (length front) (front ++ rest) ≡ front
take_length [] rest = refl
take_length (x ∷ front) rest = ap (λ (l : List ℕ). x ∷ l) (take_length front rest)

and_no : (a : Bool) → (a && false) ≡ false
and_no true = refl
and_no false = refl

-- dotted addresses

dot_len_is : (number rest : List ℕ) → IsDigits number → dot_len (number ++ 46 ∷ rest) ≡ Some (length number + 1)
dot_len_is number rest digits =
    let text = number ++ 46 ∷ rest in
    let run : prefix_len is_ascii_digit (number ++ 46 ∷ rest) ≡ length number = run_is is_ascii_digit number (46 ∷ rest) digits.1 refl in
    let some : nat_le 1 (length number) ≡ true = le_is 1 (length number) digits.0 in
    let behind : first_passes (λ c. c == 46) (drop (length number) (number ++ 46 ∷ rest)) ≡ true = ap (first_passes (λ c. c == 46)) (drop_length number (46 ∷ rest)) in
    ap (λ (n : ℕ). cond (nat_le 1 n && first_passes (λ c. c == 46) (drop n (number ++ 46 ∷ rest))) (Some (n + 1)) None) run
    ∙ ap (λ (t : Bool). cond t (Some (length number + 1)) None) (and_from (nat_le 1 (length number)) _ some behind)

pub reach_dotted : (k : ℕ) (slice rest : List ℕ) → IsDotted k slice → (m : ℕ) × (dotted_len k (slice ++ rest) ≡ Some m) × (length slice ≤ m)
reach_dotted zero slice rest digits =
    let reach = run_reach is_ascii_digit slice rest digits.1 in
    let some : nat_le 1 (prefix_len is_ascii_digit (slice ++ rest)) ≡ true = le_is 1 (prefix_len is_ascii_digit (slice ++ rest)) (omega (arith, digits.0, reach)) in
    (prefix_len is_ascii_digit (slice ++ rest), ap (λ (t : Bool). cond t (Some (prefix_len is_ascii_digit (slice ++ rest))) None) some, reach)
reach_dotted (suc k) slice rest dotted =
    let number = dotted.0 in let more = dotted.1 in
    let after = reach_dotted k more rest dotted.4 in
    let whole : slice ++ rest ≡ number ++ 46 ∷ (more ++ rest) = ap (λ (l : List ℕ). l ++ rest) dotted.3 ∙ append_assoc number (46 ∷ more) rest in
    let first : dot_len (slice ++ rest) ≡ Some (length number + 1) = ap dot_len whole ∙ dot_len_is number (more ++ rest) dotted.2 in
    let behind : drop (length number + 1) (slice ++ rest) ≡ more ++ rest = drop_front (slice ++ rest) number 46 (more ++ rest) (length number + 1) whole refl in (
      length number + 1 + after.0,
      ap (option_and_then (λ n. option_map (λ m. n + m) (dotted_len k (drop n (slice ++ rest))))) first
          ∙ ap (λ (l : List ℕ). option_map (λ m. length number + 1 + m) (dotted_len k l)) behind
          ∙ ap (option_map (λ m. length number + 1 + m)) after.1,
      omega (arith, after.2, ap (λ (l : List ℕ). length l) dotted.3, length-append number (46 ∷ more)),
    )

-- IPv6 addresses

abbrev is_colon : ℕ → Bool
is_colon b = b == 58

-- a front without colons is shorter than a run that has some
run_longer : (slice rest : List ℕ) → list_all (λ b. not (b == 58)) slice ≡ true → 0 < count_by is_colon (take_while is_colons_byte (slice ++ rest)) → length slice < prefix_len is_colons_byte (slice ++ rest)
run_longer [] rest none some = omega (arith, some, count_by-le-length is_colon (take_while is_colons_byte rest), length-prefix_len is_colons_byte rest)
run_longer (b ∷ slice) rest none some =
    let parts = and_parts (not (b == 58)) (list_all (λ c. not (c == 58)) slice) none in
    elim (cases_Bool (is_colons_byte b)) [
      | inl is ↦
          let taken : count_by is_colon (take_while is_colons_byte (b ∷ (slice ++ rest))) ≡ cond (b == 58) 1 0 + count_by is_colon (take_while is_colons_byte (slice ++ rest)) = ap (count_by is_colon) (run_yes is_colons_byte b (slice ++ rest) is) ∙ sum_by-cons (λ c. cond (is_colon c) 1 0) b (take_while is_colons_byte (slice ++ rest)) in
          let zero-first : ◌≡◌ {A = ℕ} (cond (b == 58) 1 0) 0 = ap (λ (t : Bool). cond t 1 0) (not-true (b == 58) parts.0) in
          let more = run_longer slice rest parts.1 (omega (arith, some, taken, zero-first)) in
          omega (arith, more, len_yes is_colons_byte b (slice ++ rest) is)
      | inr fails ↦
          let taken : count_by is_colon (take_while is_colons_byte (b ∷ (slice ++ rest))) ≡ 0 = ap (count_by is_colon) (run_no is_colons_byte b (slice ++ rest) fails) in
          absurd (omega (arith, some, taken))
    ]

colons_two : (text : List ℕ) → begins_colons text ≡ true → 2 ≤ count_by is_colon (take_while is_colons_byte text)
colons_two text is = leb-true 2 _ (and_parts (nat_le 2 (count_by is_colon (take_while is_colons_byte text))) _ is).0

pub colons_run : (text : List ℕ) → begins_colons text ≡ true → 2 ≤ prefix_len is_colons_byte text
colons_run text is = omega (arith, colons_two text is, count_by-le-length is_colon (take_while is_colons_byte text), length-prefix_len is_colons_byte text)

pub no_colons_at : (b : ℕ) (bytes : List ℕ) → is_colons_byte b ≡ false → begins_colons (b ∷ bytes) ≡ false
no_colons_at b bytes other = elim (cases_Bool (begins_colons (b ∷ bytes))) [
  | inl is ↦ absurd (omega (arith, colons_run (b ∷ bytes) is, len_no is_colons_byte b bytes other))
  | inr fails ↦ fails
]

-- a sort of token in whose place an IPv6 address may stand, which is then longer
under_colons : (sort : Lexeme) (slice rest : List ℕ) (n : ℕ) → (begins_colons (slice ++ rest) ≡ true → length slice < prefix_len is_colons_byte (slice ++ rest)) → Reaches sort (length slice) (plain_front (slice ++ rest)) → Reaches sort (length slice) (front (slice ++ rest))
under_colons sort slice rest n longer plain = elim (cases_Bool (begins_colons (slice ++ rest))) [
  | inl is ↦ reaches_along sort (length slice) (front (slice ++ rest)) (Some (lexemes.Ipv6, prefix_len is_colons_byte (slice ++ rest)))
      (ap (λ (t : Bool). cond t (Some (lexemes.Ipv6, prefix_len is_colons_byte (slice ++ rest))) (plain_front (slice ++ rest))) is)
      (omega (arith, longer is), λ e. absurd (omega (arith, longer is, e)))
  | inr fails ↦ reaches_along sort (length slice) (front (slice ++ rest)) (plain_front (slice ++ rest))
      (ap (λ (t : Bool). cond t (Some (lexemes.Ipv6, prefix_len is_colons_byte (slice ++ rest))) (plain_front (slice ++ rest))) fails) plain
]

pub front_plain : (text : List ℕ) → begins_colons text ≡ false → front text ≡ plain_front text
front_plain text fails = ap (λ (t : Bool). cond t (Some (lexemes.Ipv6, prefix_len is_colons_byte text)) (plain_front text)) fails

-- what a test says of each byte, a weaker one does
all_weaker : (p q : ℕ → Bool) → ((b : ℕ) → p b ≡ true → q b ≡ true) → (xs : List ℕ) → list_all p xs ≡ true → list_all q xs ≡ true
all_weaker p q weaker [] all = refl
all_weaker p q weaker (x ∷ xs) all =
    let parts = and_parts (p x) (list_all p xs) all in
    and_from (q x) (list_all q xs) (weaker x parts.0) (all_weaker p q weaker xs parts.1)

no_colon_in_name : (b : ℕ) → is_name_byte b ≡ true → not (b == 58) ≡ true
no_colon_in_name b is = grind (arith, nat_tests)

no_colon_in_digits : (b : ℕ) → is_ascii_digit b ≡ true → not (b == 58) ≡ true
no_colon_in_digits b is = grind (arith, nat_tests)

no_colon_in_hex : (b : ℕ) → is_ascii_hexdigit b ≡ true → not (b == 58) ≡ true
no_colon_in_hex b is = grind (arith, nat_tests)

all_joined : (p : ℕ → Bool) (xs ys : List ℕ) → list_all p xs ≡ true → list_all p ys ≡ true → list_all p (xs ++ ys) ≡ true
all_joined p [] ys one other = other
all_joined p (x ∷ xs) ys one other =
    let parts = and_parts (p x) (list_all p xs) one in
    and_from (p x) (list_all p (xs ++ ys)) parts.0 (all_joined p xs ys parts.1 other)

no_colon_in_dotted : (k : ℕ) (slice : List ℕ) → IsDotted k slice → list_all (λ b. not (b == 58)) slice ≡ true
no_colon_in_dotted zero slice digits = all_weaker is_ascii_digit (λ b. not (b == 58)) no_colon_in_digits slice digits.1
no_colon_in_dotted (suc k) slice dotted =
    ap (list_all (λ b. not (b == 58))) dotted.3
    ∙ all_joined (λ b. not (b == 58)) dotted.0 (46 ∷ dotted.1) (all_weaker is_ascii_digit (λ b. not (b == 58)) no_colon_in_digits dotted.0 dotted.2.1) (no_colon_in_dotted k dotted.1 dotted.4)

without_colon : (slice rest : List ℕ) → list_all (λ b. not (b == 58)) slice ≡ true → begins_colons (slice ++ rest) ≡ true → length slice < prefix_len is_colons_byte (slice ++ rest)
without_colon slice rest none is = run_longer slice rest none (omega (arith, colons_two (slice ++ rest) is))

-- words

letter_is_name_byte : (b : ℕ) → is_letter b ≡ true → is_name_byte b ≡ true
letter_is_name_byte b is = grind (arith, nat_tests)

reach_word : (slice rest : List ℕ) → IsWord slice → Reaches lexemes.Word (length slice) (front (slice ++ rest))
reach_word [] rest word = absurd word
reach_word (b ∷ bytes) rest word =
    let all : list_all is_name_byte (b ∷ bytes) ≡ true = and_from (is_name_byte b) (list_all is_name_byte bytes) (letter_is_name_byte b word.0) word.1 in
    let plain : plain_front (b ∷ (bytes ++ rest)) ≡ Some (lexemes.Word, prefix_len is_name_byte (b ∷ (bytes ++ rest))) = rw word.0 refl in
    under_colons lexemes.Word (b ∷ bytes) rest 0 (without_colon (b ∷ bytes) rest (all_weaker is_name_byte (λ c. not (c == 58)) no_colon_in_name (b ∷ bytes) all))
    (reaches_along lexemes.Word (length (b ∷ bytes)) (plain_front (b ∷ (bytes ++ rest))) (Some (lexemes.Word, prefix_len is_name_byte (b ∷ (bytes ++ rest)))) plain
    (run_reach is_name_byte (b ∷ bytes) rest all, λ e. refl))

-- numbers and IPv4 addresses

digit_no_letter : (b : ℕ) → is_ascii_digit b ≡ true → is_letter b ≡ false
digit_no_letter b is = grind (arith, nat_tests)

plain_digit : (b : ℕ) (bytes : List ℕ) → is_ascii_digit b ≡ true → plain_front (b ∷ bytes) ≡ Some (dotted_or_number (dotted_len 3 (b ∷ bytes)) (b ∷ bytes))
plain_digit b bytes digit = let other = digit_no_letter b digit in rw (other, digit) refl

dot_longer : (more : List ℕ → Option ℕ) (text : List ℕ) (n : ℕ) → option_and_then (λ m. option_map (λ i. m + i) (more (drop m text))) (dot_len text) ≡ Some n → prefix_len is_ascii_digit text < n
dot_longer more text n is =
    option_and_then_some {P = prefix_len is_ascii_digit text < n} (λ m. option_map (λ i. m + i) (more (drop m text))) (dot_len text) n is (λ m first rest.
    let after = map_some (λ i. m + i) (more (drop m text)) n rest in
    let tests = if_some (nat_le 1 (prefix_len is_ascii_digit text) && first_passes (λ c. c == 46) (drop (prefix_len is_ascii_digit text) text)) (prefix_len is_ascii_digit text + 1) m first in
    omega (arith, after.2, tests.1))

-- in `0x` one digit stands before the letter
one_digit : (text : List ℕ) → begins_hexadecimal text ≡ true → prefix_len is_ascii_digit text ≤ 1
one_digit [] is = absurd (false≢true is)
one_digit (b ∷ bytes) is =
    let parts = and_parts (b == 48) (first_passes (λ c. c == 120) bytes) is in
    let rest = first_is 120 bytes parts.1 in
    let whole : b ∷ bytes ≡ 48 ∷ 120 ∷ rest.0 = ap (λ (n : ℕ). n ∷ bytes) (eqb-true b 48 parts.0) ∙ ap (λ (l : List ℕ). 48 ∷ l) rest.1 in
    let one : prefix_len is_ascii_digit (b ∷ bytes) ≡ 1 = ap (prefix_len is_ascii_digit) whole in
    omega (arith, one)

-- an IPv4 address is longer than its first number
dotted_longer : (k : ℕ) (text : List ℕ) (n : ℕ) → dotted_len (suc k) text ≡ Some n → prefix_len is_ascii_digit text < n
dotted_longer k text n is = dot_longer (dotted_len k) text n is

reach_number : (text : List ℕ) (k : ℕ) (o : Option ℕ) → o ≡ dotted_len 3 text → k ≤ prefix_len is_ascii_digit text → Reaches lexemes.Decimal k (Some (dotted_or_number o text))
reach_number text k (Some n) is within =
    let longer = dotted_longer 2 text n (sym is) in
    (omega (arith, longer), λ e. absurd (omega (arith, longer)))
reach_number text k None is within = elim (cases_Bool (begins_hexadecimal text)) [
  | inl hex ↦ reaches_along lexemes.Decimal k (Some (dotted_or_number None text)) (Some (lexemes.Hexadecimal, prefix_len is_ascii_hexdigit (drop 2 text) + 2))
      (ap (λ (t : Bool). Some (cond t (lexemes.Hexadecimal, prefix_len is_ascii_hexdigit (drop 2 text) + 2) (lexemes.Decimal, prefix_len is_ascii_digit text))) hex)
      (let one = one_digit text hex in (omega (arith, one), λ e. absurd (omega (arith, one))))
  | inr other ↦ reaches_along lexemes.Decimal k (Some (dotted_or_number None text)) (Some (lexemes.Decimal, prefix_len is_ascii_digit text))
      (ap (λ (t : Bool). Some (cond t (lexemes.Hexadecimal, prefix_len is_ascii_hexdigit (drop 2 text) + 2) (lexemes.Decimal, prefix_len is_ascii_digit text))) other)
      (within, λ e. refl)
]

reach_decimal : (slice rest : List ℕ) → IsDigits slice → Reaches lexemes.Decimal (length slice) (front (slice ++ rest))
reach_decimal [] rest digits = absurd (omega (arith, digits.0))
reach_decimal (b ∷ bytes) rest digits =
    let first = (and_parts (is_ascii_digit b) (list_all is_ascii_digit bytes) digits.1).0 in
    under_colons lexemes.Decimal (b ∷ bytes) rest 0 (without_colon (b ∷ bytes) rest (all_weaker is_ascii_digit (λ c. not (c == 58)) no_colon_in_digits (b ∷ bytes) digits.1))
    (reaches_along lexemes.Decimal (length (b ∷ bytes)) (plain_front (b ∷ (bytes ++ rest))) (Some (dotted_or_number (dotted_len 3 (b ∷ (bytes ++ rest))) (b ∷ (bytes ++ rest)))) (plain_digit b (bytes ++ rest) first)
    (reach_number (b ∷ (bytes ++ rest)) (length (b ∷ bytes)) (dotted_len 3 (b ∷ (bytes ++ rest))) refl (run_reach is_ascii_digit (b ∷ bytes) rest digits.1)))

hex_front : (bytes : List ℕ) → plain_front (48 ∷ 120 ∷ bytes) ≡ Some (lexemes.Hexadecimal, prefix_len is_ascii_hexdigit bytes + 2)
hex_front bytes = refl

reach_hexadecimal : (slice rest : List ℕ) → IsHexadecimal slice → Reaches lexemes.Hexadecimal (length slice) (front (slice ++ rest))
reach_hexadecimal slice rest hex =
    let P : List ℕ → Type 0 = λ s. Reaches lexemes.Hexadecimal (length s) (front (s ++ rest)) in
    let spelled = 48 ∷ 120 ∷ hex.digits in
    let none : list_all (λ c. not (c == 58)) (48 ∷ 120 ∷ hex.digits) ≡ true = all_weaker is_ascii_hexdigit (λ c. not (c == 58)) no_colon_in_hex hex.digits hex.bytes in
    let reach = run_reach is_ascii_hexdigit hex.digits rest hex.bytes in
    subst P (sym hex.whole) (under_colons lexemes.Hexadecimal (48 ∷ 120 ∷ hex.digits) rest 0 (without_colon (48 ∷ 120 ∷ hex.digits) rest none)
    (reaches_along lexemes.Hexadecimal (length (48 ∷ 120 ∷ hex.digits)) (plain_front (48 ∷ 120 ∷ (hex.digits ++ rest))) (Some (lexemes.Hexadecimal, prefix_len is_ascii_hexdigit (hex.digits ++ rest) + 2)) (hex_front (hex.digits ++ rest))
    (omega (arith, reach), λ e. refl)))

first_of_number : (number more slice : List ℕ) → IsDigits number → slice ≡ number ++ 46 ∷ more → (b : ℕ) × (bytes : List ℕ) × (slice ≡ b ∷ bytes) × (is_ascii_digit b ≡ true)
first_of_number [] more slice digits whole = absurd (omega (arith, digits.0))
first_of_number (b ∷ bytes) more slice digits whole = (b, bytes ++ 46 ∷ more, whole, (and_parts (is_ascii_digit b) (list_all is_ascii_digit bytes) digits.1).0)

first_digit : (k : ℕ) (slice : List ℕ) → IsDotted k slice → (b : ℕ) × (bytes : List ℕ) × (slice ≡ b ∷ bytes) × (is_ascii_digit b ≡ true)
first_digit zero [] digits = absurd (omega (arith, digits.0))
first_digit zero (b ∷ bytes) digits = (b, bytes, refl, (and_parts (is_ascii_digit b) (list_all is_ascii_digit bytes) digits.1).0)
first_digit (suc k) slice dotted = first_of_number dotted.0 dotted.1 slice dotted.2 dotted.3

reach_ipv4 : (slice rest : List ℕ) → IsDotted 3 slice → Reaches lexemes.Ipv4 (length slice) (front (slice ++ rest))
reach_ipv4 slice rest dotted =
    let first = first_digit 3 slice dotted in
    let reach = reach_dotted 3 slice rest dotted in
    let whole : slice ++ rest ≡ first.0 ∷ (first.1 ++ rest) = ap (λ (l : List ℕ). l ++ rest) first.2 in
    let plain : plain_front (slice ++ rest) ≡ Some (lexemes.Ipv4, reach.0) =
    ap plain_front whole ∙ plain_digit first.0 (first.1 ++ rest) first.3
    ∙ ap (λ (l : List ℕ). Some (dotted_or_number (dotted_len 3 l) l)) (sym whole)
    ∙ ap (λ (o : Option ℕ). Some (dotted_or_number o (slice ++ rest))) reach.1 in
    under_colons lexemes.Ipv4 slice rest 0 (without_colon slice rest (no_colon_in_dotted 3 slice dotted))
    (reaches_along lexemes.Ipv4 (length slice) (plain_front (slice ++ rest)) (Some (lexemes.Ipv4, reach.0)) plain (reach.2, λ e. refl))

-- quoted names and texts

-- a run behind a mark, with the mark again behind it
behind_mark : (p : ℕ → Bool) (mark : ℕ) (run rest : List ℕ) → list_all p run ≡ true → p mark ≡ false → prefix_len p (run ++ mark ∷ rest) ≡ length run
behind_mark p mark run rest all stops = run_is p run (mark ∷ rest) all stops

quote_len_is : (name rest : List ℕ) → 0 < length name → list_all is_quoted_byte name ≡ true → quote_len (name ++ 39 ∷ rest) ≡ Some (length name + 2)
quote_len_is name rest some all =
    let run = behind_mark is_quoted_byte 39 name rest all refl in
    let behind : first_passes (λ c. c == 39) (drop (length name) (name ++ 39 ∷ rest)) ≡ true = ap (first_passes (λ c. c == 39)) (drop_length name (39 ∷ rest)) in
    ap (λ (n : ℕ). cond (nat_le 1 n && first_passes (λ c. c == 39) (drop n (name ++ 39 ∷ rest))) (Some (n + 2)) None) run
    ∙ ap (λ (t : Bool). cond t (Some (length name + 2)) None) (and_from (nat_le 1 (length name)) _ (le_is 1 (length name) some) behind)

text_len_is : (text rest : List ℕ) → list_all is_text_byte text ≡ true → text_len (text ++ 34 ∷ rest) ≡ Some (length text + 2)
text_len_is text rest all =
    let run = behind_mark is_text_byte 34 text rest all refl in
    let behind : first_passes (λ c. c == 34) (drop (length text) (text ++ 34 ∷ rest)) ≡ true = ap (first_passes (λ c. c == 34)) (drop_length text (34 ∷ rest)) in
    ap (λ (n : ℕ). cond (first_passes (λ c. c == 34) (drop n (text ++ 34 ∷ rest))) (Some (n + 2)) None) run
    ∙ ap (λ (t : Bool). cond t (Some (length text + 2)) None) behind

front_at_quote : (bytes : List ℕ) → front (39 ∷ bytes) ≡ option_map (λ n. (lexemes.QuotedName, n)) (quote_len bytes)
front_at_quote bytes = front_plain (39 ∷ bytes) (no_colons_at 39 bytes refl)

front_at_text : (bytes : List ℕ) → front (34 ∷ bytes) ≡ option_map (λ n. (lexemes.Text, n)) (text_len bytes)
front_at_text bytes = front_plain (34 ∷ bytes) (no_colons_at 34 bytes refl)

reach_quote : (slice rest : List ℕ) → IsQuote slice → Reaches lexemes.QuotedName (length slice) (front (slice ++ rest))
reach_quote slice rest quote =
    let whole : slice ++ rest ≡ 39 ∷ (quote.name ++ 39 ∷ rest) = ap (λ (l : List ℕ). l ++ rest) quote.whole ∙ ap (λ (l : List ℕ). 39 ∷ l) (append_assoc quote.name (39 ∷ []) rest) in
    let is : front (slice ++ rest) ≡ Some (lexemes.QuotedName, length quote.name + 2) =
    ap front whole ∙ front_at_quote (quote.name ++ 39 ∷ rest) ∙ ap (option_map (λ n. (lexemes.QuotedName, n))) (quote_len_is quote.name rest quote.some quote.bytes) in
    reaches_along lexemes.QuotedName (length slice) (front (slice ++ rest)) (Some (lexemes.QuotedName, length quote.name + 2)) is
    (omega (arith, ap (λ (l : List ℕ). length l) quote.whole, length-append quote.name (39 ∷ [])), λ e. refl)

reach_text : (slice rest : List ℕ) → IsText slice → Reaches lexemes.Text (length slice) (front (slice ++ rest))
reach_text slice rest text =
    let whole : slice ++ rest ≡ 34 ∷ (text.text ++ 34 ∷ rest) = ap (λ (l : List ℕ). l ++ rest) text.whole ∙ ap (λ (l : List ℕ). 34 ∷ l) (append_assoc text.text (34 ∷ []) rest) in
    let is : front (slice ++ rest) ≡ Some (lexemes.Text, length text.text + 2) =
    ap front whole ∙ front_at_text (text.text ++ 34 ∷ rest) ∙ ap (option_map (λ n. (lexemes.Text, n))) (text_len_is text.text rest text.bytes) in
    reaches_along lexemes.Text (length slice) (front (slice ++ rest)) (Some (lexemes.Text, length text.text + 2)) is
    (omega (arith, ap (λ (l : List ℕ). length l) text.whole, length-append text.text (34 ∷ [])), λ e. refl)

-- signs

or_cases : (a b : Bool) → (a || b) ≡ true → (a ≡ true) ⊎ (b ≡ true)
or_cases true b is = inl refl
or_cases false b is = inr is

-- what a test says of each sign
pub sign_test : (test : List ℕ → Bool) (slice : List ℕ) → list_all test short_signs ≡ true → list_all test pair_signs ≡ true → list_all test empty_signs ≡ true → is_sign slice ≡ true → test slice ≡ true
sign_test test slice short pair empty is = elim (or_cases (is_short_sign slice || is_pair_sign slice) (is_empty_sign slice) is) [
  | inl more ↦ elim (or_cases (is_short_sign slice) (is_pair_sign slice) more) [
    | inl one ↦ among test slice short_signs short one
    | inr two ↦ among test slice pair_signs pair two
  ]
  | inr last ↦ among test slice empty_signs empty last
]

-- a byte that begins no other sort of token
abbrev pub is_mark_first : ℕ → Bool
is_mark_first b = not (is_letter b) && (not (is_ascii_digit b) && (not (b == 39) && not (b == 34)))

abbrev mark_len : List ℕ → Bool
mark_len slice = (length slice == 7) || ((length slice == 2) || (length slice == 1))

-- a sign whose first byte is one of IPv6 addresses has no second byte
abbrev alone : List ℕ → Bool
alone slice = not (first_passes is_colons_byte slice) || (length slice == 1)

sign_first : (b : ℕ) (bytes : List ℕ) → is_sign (b ∷ bytes) ≡ true → is_mark_first b ≡ true
sign_first b bytes is = sign_test (first_passes is_mark_first) (b ∷ bytes) refl refl refl is

pub plain_mark : (b : ℕ) (bytes : List ℕ) → is_mark_first b ≡ true → plain_front (b ∷ bytes) ≡ option_map (λ n. (lexemes.Punctuation, n)) (sign_len (b ∷ bytes))
plain_mark b bytes is =
    let one = and_parts (not (is_letter b)) _ is in
    let two = and_parts (not (is_ascii_digit b)) _ one.1 in
    let three = and_parts (not (b == 39)) (not (b == 34)) two.1 in
    let a = not-true (is_letter b) one.0 in
    let d = not-true (is_ascii_digit b) two.0 in
    let q = not-true (b == 39) three.0 in
    let t = not-true (b == 34) three.1 in
    rw (a, d, q, t) refl

has_sign_is : (slice rest : List ℕ) → is_sign slice ≡ true → has_sign (length slice) (slice ++ rest) ≡ true
has_sign_is slice rest is =
    and_from (nat_le (length slice) (length (slice ++ rest))) _ (le_is (length slice) (length (slice ++ rest)) (omega (arith, length-append slice rest)))
    (ap is_sign (take_length slice rest) ∙ is)

-- a slash before a star is no sign
no_comment : (slice rest : List ℕ) → is_sign slice ≡ true → (slice ≡ codes "/" → first_passes (λ b. b == 42) rest ≡ false) → begins_comment (slice ++ rest) ≡ false
no_comment [] rest is slash = absurd (false≢true is)
no_comment (b ∷ []) rest is slash = elim (cases_Bool (b == 47)) [
  | inl same ↦ ap (λ (t : Bool). (b == 47) && t) (slash (ap (λ (n : ℕ). n ∷ []) (eqb-true b 47 same))) ∙ and_no (b == 47)
  | inr other ↦ ap (λ (t : Bool). t && first_passes (λ c. c == 42) rest) other
]
no_comment (b ∷ c ∷ bytes) rest is slash = elim (cases_Bool ((b == 47) && (c == 42))) [
  | inl both ↦
      let parts = and_parts (b == 47) (c == 42) both in
      let first : b ≡ 47 = eqb-true b 47 parts.0 in
      let second : c ≡ 42 = eqb-true c 42 parts.1 in
      let P : ℕ → Type 0 = λ n. is_sign (n ∷ c ∷ bytes) ≡ true in
      let Q : ℕ → Type 0 = λ n. is_sign (47 ∷ n ∷ bytes) ≡ true in
      absurd (false≢true (subst Q second (subst P first is)))
  | inr not_both ↦ not_both
]

sign_cases : (comment seven two one : Bool) (k : ℕ) → comment ≡ false → (k ≡ 7 → seven ≡ true) → (k ≡ 2 → two ≡ true) → (k ≡ 1 → one ≡ true) → (k ≡ 7) ⊎ ((k ≡ 2) ⊎ (k ≡ 1))
    → (n : ℕ) × (cond comment None (cond seven (Some 7) (cond two (Some 2) (cond one (Some 1) None))) ≡ Some n) × (k ≤ n)
sign_cases true seven two one k bare a b c lens = absurd (cc)
sign_cases false true two one k bare a b c lens = (7, refl, elim lens [ inl e ↦ omega arith | inr more ↦ elim more [ inl e ↦ omega arith | inr e ↦ omega arith ] ])
sign_cases false false two one k bare a b c (inl e) = absurd (false≢true (a e))
sign_cases false false true one k bare a b c (inr lens) = (2, refl, elim lens [ inl e ↦ omega arith | inr e ↦ omega arith ])
sign_cases false false false one k bare a b c (inr (inl e)) = absurd (false≢true (b e))
sign_cases false false false true k bare a b c (inr (inr e)) = (1, refl, omega arith)
sign_cases false false false false k bare a b c (inr (inr e)) = absurd (false≢true (c e))

-- the longest sign is no shorter
sign_reach : (text : List ℕ) (k : ℕ) → begins_comment text ≡ false → has_sign k text ≡ true → (k ≡ 7) ⊎ ((k ≡ 2) ⊎ (k ≡ 1)) → (n : ℕ) × (sign_len text ≡ Some n) × (k ≤ n)
sign_reach text k bare has lens = sign_cases (begins_comment text) (has_sign 7 text) (has_sign 2 text) (has_sign 1 text) k bare
    (λ e. subst (λ (n : ℕ). has_sign n text ≡ true) e has) (λ e. subst (λ (n : ℕ). has_sign n text ≡ true) e has) (λ e. subst (λ (n : ℕ). has_sign n text ≡ true) e has) lens

mark_lens : (n : ℕ) → ((n == 7) || ((n == 2) || (n == 1))) ≡ true → (n ≡ 7) ⊎ ((n ≡ 2) ⊎ (n ≡ 1))
mark_lens n is = elim (or_cases (n == 7) ((n == 2) || (n == 1)) is) [
  | inl seven ↦ inl (eqb-true n 7 seven)
  | inr more ↦ elim (or_cases (n == 2) (n == 1) more) [ inl two ↦ inr (inl (eqb-true n 2 two)) | inr one ↦ inr (inr (eqb-true n 1 one)) ]
]

sign_under_colons : (slice rest : List ℕ) → is_sign slice ≡ true → begins_colons (slice ++ rest) ≡ true → length slice < prefix_len is_colons_byte (slice ++ rest)
sign_under_colons [] rest is colons = absurd (false≢true is)
sign_under_colons (b ∷ bytes) rest is colons =
    let alone-is = sign_test alone (b ∷ bytes) refl refl refl is in
    let run = colons_run (b ∷ (bytes ++ rest)) colons in
    elim (or_cases (not (is_colons_byte b)) (length (b ∷ bytes) == 1) alone-is) [
      | inl other ↦ absurd (false≢true (sym (no_colons_at b (bytes ++ rest) (not-true (is_colons_byte b) other)) ∙ colons))
      | inr one ↦ omega (arith, run, eqb-true (length (b ∷ bytes)) 1 one)
    ]

reach_mark : (slice rest : List ℕ) → is_sign slice ≡ true → (slice ≡ codes "/" → first_passes (λ b. b == 42) rest ≡ false) → Reaches lexemes.Punctuation (length slice) (front (slice ++ rest))
reach_mark [] rest is slash = absurd (false≢true is)
reach_mark (b ∷ bytes) rest is slash =
    let lens = mark_lens (length (b ∷ bytes)) (sign_test mark_len (b ∷ bytes) refl refl refl is) in
    let reach = sign_reach (b ∷ (bytes ++ rest)) (length (b ∷ bytes)) (no_comment (b ∷ bytes) rest is slash) (has_sign_is (b ∷ bytes) rest is) lens in
    let plain : plain_front (b ∷ (bytes ++ rest)) ≡ Some (lexemes.Punctuation, reach.0) = plain_mark b (bytes ++ rest) (sign_first b bytes is) ∙ ap (option_map (λ n. (lexemes.Punctuation, n))) reach.1 in
    under_colons lexemes.Punctuation (b ∷ bytes) rest 0 (sign_under_colons (b ∷ bytes) rest is)
    (reaches_along lexemes.Punctuation (length (b ∷ bytes)) (plain_front (b ∷ (bytes ++ rest))) (Some (lexemes.Punctuation, reach.0)) plain (reach.2, λ e. refl))

-- IPv6 addresses

goes_on_parts : (b : ℕ) → (is_name_byte b || (b == 58)) ≡ false → (is_name_byte b ≡ false) × (is_colons_byte b ≡ false)
goes_on_parts b bare = (grind (arith, nat_tests), grind (arith, nat_tests))

rest_stops : (rest : List ℕ) → first_passes (λ b. is_name_byte b || (b == 58)) rest ≡ false → (first_passes is_name_byte rest ≡ false) × (first_passes is_colons_byte rest ≡ false)
rest_stops [] bare = (refl, refl)
rest_stops (b ∷ rest) bare = goes_on_parts b bare

-- where such a run begins a text, it is the whole run
pub colons_begin : (slice rest : List ℕ) → IsColons slice rest → (begins_colons (slice ++ rest) ≡ true) × (prefix_len is_colons_byte (slice ++ rest) ≡ length slice)
colons_begin slice rest colons =
    let stops = rest_stops rest colons.longest in
    let run = run_is is_colons_byte slice rest colons.bytes stops.1 in
    let front-is : take_while is_colons_byte (slice ++ rest) ≡ slice = ap (λ (n : ℕ). take n (slice ++ rest)) run ∙ take_length slice rest in
    let behind : drop (prefix_len is_colons_byte (slice ++ rest)) (slice ++ rest) ≡ rest = ap (λ (n : ℕ). drop n (slice ++ rest)) run ∙ drop_length slice rest in
    let two : nat_le 2 (count_by is_colon (take_while is_colons_byte (slice ++ rest))) ≡ true = ap (λ (l : List ℕ). nat_le 2 (count_by is_colon l)) front-is ∙ le_is 2 (count_by is_colon slice) colons.colons in
    let last : not (first_passes is_name_byte (drop (prefix_len is_colons_byte (slice ++ rest)) (slice ++ rest))) ≡ true = ap (λ (l : List ℕ). not (first_passes is_name_byte l)) behind ∙ not_from_false (first_passes is_name_byte rest) stops.0 in
    (and_from (nat_le 2 (count_by is_colon (take_while is_colons_byte (slice ++ rest)))) _ two last, run)

reach_colons : (slice rest : List ℕ) → IsColons slice rest → Reaches lexemes.Ipv6 (length slice) (front (slice ++ rest))
reach_colons slice rest colons =
    let begin = colons_begin slice rest colons in
    reaches_along lexemes.Ipv6 (length slice) (front (slice ++ rest)) (Some (lexemes.Ipv6, prefix_len is_colons_byte (slice ++ rest)))
    (ap (λ (t : Bool). cond t (Some (lexemes.Ipv6, prefix_len is_colons_byte (slice ++ rest))) (plain_front (slice ++ rest))) begin.0)
    (omega (arith, begin.1), λ e. refl)

-- The computed front is at least as long as any front of some sort, and of its sort where it is as long.
pub reaches : (sort : Lexeme) (slice rest : List ℕ) → IsShape sort slice rest → Reaches sort (length slice) (front (slice ++ rest))
reaches lexemes.Word slice rest is = reach_word slice rest is
reaches lexemes.QuotedName slice rest is = reach_quote slice rest is
reaches lexemes.Decimal slice rest is = reach_decimal slice rest is
reaches lexemes.Hexadecimal slice rest is = reach_hexadecimal slice rest is
reaches lexemes.Ipv4 slice rest is = reach_ipv4 slice rest is
reaches lexemes.Ipv6 slice rest is = reach_colons slice rest is
reaches lexemes.Text slice rest is = reach_text slice rest is
reaches lexemes.Punctuation slice rest is = reach_mark slice rest is.0 is.1
