-- Decimal digits byte by byte, octets and the four of an address.
use Rattle.std.proofs.Common.{◌≡◌, ℕ, suc, zero, ◌+◌, ◌*◌, ◌-◌, ◌/◌, ◌%◌, ◌^◌, ◌<◌, ◌≤◌, Bool, true, false, cond, ◌==◌, List, [], ◌∷◌, ◌++◌, length, take, drop, get_or, Option, Some, None, refl, sym, ◌∙◌, ap, arith, inl, inr, append_assoc, decimal}
use Rattle.std.specs.Prelude.{nat_le, nat_lt}
use Rattle.std.specs.Char.{digit_value, is_ascii_digit}
use Rattle.std.specs.List.{prefix_len, list_all}
use Rattle.std.specs.Option.{option_map, option_and_then}
use Rattle.std.specs.Str.Parse.{AllDigits, digits_value}
use Rattle.std.proofs.Math.Seq.{take-add}
use Rattle.std.proofs.lemmas.Bool.{cases_Bool, false≢true, le-leb, eq-eqb}
use Rattle.std.proofs.lemmas.Bool.Decides.{nat_tests}
use Rattle.std.proofs.lemmas.Fmt.{decimal-digits_value}
use Rattle.std.proofs.lemmas.Int.Digits.{digits_value_push}
use Rattle.std.proofs.lemmas.List.{take_more, length-take, length-drop}
use Rattle.std.proofs.lemmas.Str.Parse.{IsNumeralModel, numerals_by_value, tells_digits}
use Rattle.bits_ip.specs.Text.{v4_text}
use Rattle.bits_ip.specs.declared.address.Addr.TheVariants.{V4}
use Rattle.conf_scan.specs.Shapes.{first_passes, is_letter}
use Rattle.conf_scan.specs.Fronts.{dot_len, dotted_len, dotted_or_number, begins_hexadecimal, begins_colons, front, plain_front, Tells}
use Rattle.conf_scan.specs.Numbers.{IsOctet, IsOctetAndDot, IsDottedFront}
use Rattle.conf_scan.specs.declared.number.Number.{Number}
use Rattle.conf_scan.specs.declared.scan.Lexeme.{Lexeme}
use Rattle.conf_scan.specs.declared.scan.Lexeme.TheVariants as lexemes
use Rattle.conf_scan.specs.declared.token.TokenKind.TheVariants as kinds
use Rattle.conf_scan.proofs.Runs.{len_no, run_passes, first_is}
use Rattle.conf_scan.proofs.Numbers.{decimal_digits}
use Rattle.conf_scan.proofs.Reached.{front_plain}
use Rattle.conf_scan.proofs.Readings.{tells}

-- digits one by one

digit_is : (b : ℕ) → is_ascii_digit b ≡ true → digit_value b ≡ b - 48
digit_is b is = grind (arith, nat_tests)

value_more : (text : List ℕ) (i d : ℕ) → i < length text → is_ascii_digit (get_or text i d) ≡ true → digits_value 10 (take (i + 1) text) ≡ digits_value 10 (take i text) * 10 + (get_or text i d - 48)
value_more text i d within passes =
    ap (digits_value 10) (take_more text i d within) ∙ digits_value_push 10 (take i text) (get_or text i d)
    ∙ ap (λ (n : ℕ). digits_value 10 (take i text) * 10 + n) (digit_is (get_or text i d) passes)

-- the value so far is the digits' while it is small
pub value_kept : (text : List ℕ) (i d value next : ℕ) → i < length text → is_ascii_digit (get_or text i d) ≡ true → (value < 2 ^ 32 → digits_value 10 (take i text) ≡ value)
    → next ≡ cond (nat_lt value (2 ^ 32)) (value * 10 + (get_or text i d - 48)) value → next < 2 ^ 32 → digits_value 10 (take (i + 1) text) ≡ next
value_kept text i d value next within passes kept is small = elim (cases_Bool (nat_lt value (2 ^ 32))) [
  | inl less ↦
      let below : value < 2 ^ 32 = grind (arith, nat_tests) in
      let now : next ≡ value * 10 + (get_or text i d - 48) = is ∙ ap (λ (t : Bool). cond t (value * 10 + (get_or text i d - 48)) value) less in
      omega (arith, value_more text i d within passes, kept below, now)
  | inr over ↦
      let now : next ≡ value = is ∙ ap (λ (t : Bool). cond t (value * 10 + (get_or text i d - 48)) value) over in
      let above : 2 ^ 32 ≤ value = grind (arith, nat_tests) in
      absurd (omega (arith, now, above, small))
]

-- octets

model : IsNumeralModel (AllDigits 10) (digits_value 10)
model = numerals_by_value (AllDigits 10) tells_digits

pub run_digits : (text : List ℕ) (n : ℕ) → n ≡ prefix_len is_ascii_digit text → list_all is_ascii_digit (take n text) ≡ true
run_digits text n len = ap (λ (m : ℕ). list_all is_ascii_digit (take m text)) len ∙ run_passes is_ascii_digit text

pub octet_is : (text : List ℕ) (n value : ℕ) → n ≡ prefix_len is_ascii_digit text → 0 < length (take n text) → value < 256 → digits_value 10 (take n text) ≡ value → (get_or (take n text) 0 0 ≡ 48 → length (take n text) ≡ 1)
    → take n text ≡ decimal value
octet_is text n value len some small is plainly =
    sym (decimal-digits_value model (take n text) (decimal_digits (take n text) (run_digits text n len)) some plainly (omega (arith, is, small))) ∙ ap decimal is

pub no_zero : (text : List ℕ) (n : ℕ) → 0 < n → first_passes (λ b. b == 48) text ≡ false → get_or (take n text) 0 0 ≡ 48 → ⊥
no_zero text zero some other is = absurd (omega arith)
no_zero [] (suc n) some other is = cc
no_zero (b ∷ text) (suc n) some other is = false≢true (sym other ∙ eq-eqb b 48 is)

-- a dot behind digits
dot_is : (text : List ℕ) (n : ℕ) → n ≡ prefix_len is_ascii_digit text → 0 < n → first_passes (λ c. c == 46) (drop n text) ≡ true → dot_len text ≡ Some (n + 1)
dot_is text n len some dot =
    let long : nat_le 1 (prefix_len is_ascii_digit text) ≡ true = le-leb 1 _ (omega (arith, len, some)) in
    let here : first_passes (λ c. c == 46) (drop (prefix_len is_ascii_digit text) text) ≡ true = ap (λ (m : ℕ). first_passes (λ c. c == 46) (drop m text)) (sym len) ∙ dot in
    rw (long, here) (ap (λ (m : ℕ). Some (m + 1)) (sym len))

no_dot : (text : List ℕ) (n : ℕ) → n ≡ prefix_len is_ascii_digit text → first_passes (λ c. c == 46) (drop n text) ≡ false → dot_len text ≡ None
no_dot text n len dot =
    let here : first_passes (λ c. c == 46) (drop (prefix_len is_ascii_digit text) text) ≡ false = ap (λ (m : ℕ). first_passes (λ c. c == 46) (drop m text)) (sym len) ∙ dot in
    elim (cases_Bool (nat_le 1 (prefix_len is_ascii_digit text))) [
      | inl long ↦ rw (long, here) refl
      | inr short ↦ rw short refl
    ]

take_one : (xs : List ℕ) (mark : ℕ) → first_passes (λ c. c == mark) xs ≡ true → take 1 xs ≡ mark ∷ []
take_one xs mark is = let cut = first_is mark xs is in ap (take 1) cut.1

first_within : (xs : List ℕ) (test : ℕ → Bool) → first_passes test xs ≡ true → 0 < length xs
first_within [] test is = absurd (false≢true is)
first_within (x ∷ xs) test is = omega arith

pub octet_dot : (text : List ℕ) (found : Number) → IsOctet text found → first_passes (λ c. c == 46) (drop found.len text) ≡ true → IsOctetAndDot text (record { value = found.value; len = found.len + 1 })
octet_dot text found is dot = record {
  small = is.small;
  some = omega (arith, is.some, is.len);
  within = omega (arith, first_within (drop found.len text) (λ c. c == 46) dot, length-drop found.len text, is.within);
  len = dot_is text found.len is.len is.some dot;
  whole = take-add found.len 1 text ∙ ap (λ (l : List ℕ). take found.len text ++ l) (take_one (drop found.len text) 46 dot) ∙ ap (λ (l : List ℕ). l ++ 46 ∷ []) is.whole;
}

-- four of them

more_dotted : (k : ℕ) (text rest : List ℕ) (n m : ℕ) → dot_len text ≡ Some n → rest ≡ drop n text → dotted_len k rest ≡ Some m → dotted_len (suc k) text ≡ Some (n + m)
more_dotted k text rest n m dot is more =
    ap (option_and_then (λ n. option_map (λ m. n + m) (dotted_len k (drop n text)))) dot
    ∙ ap (option_map (λ m. n + m)) (ap (dotted_len k) (sym is) ∙ more)

last_dotted : (text : List ℕ) (n : ℕ) → n ≡ prefix_len is_ascii_digit text → 0 < n → dotted_len 0 text ≡ Some n
last_dotted text n len some =
    let long : nat_le 1 (prefix_len is_ascii_digit text) ≡ true = le-leb 1 _ (omega (arith, len, some)) in
    rw long (ap (λ (m : ℕ). Some m) (sym len))

more_text : (text rest : List ℕ) (n m : ℕ) (front more : List ℕ) → take n text ≡ front → rest ≡ drop n text → take m rest ≡ more → take (n + m) text ≡ front ++ more
more_text text rest n m front more one is other = take-add n m text ∙ ap (λ (l : List ℕ). l ++ take m (drop n text)) one ∙ ap (λ (l : List ℕ). front ++ take m l) (sym is) ∙ ap (λ (l : List ℕ). front ++ l) other

leftwards : (a b c d dot : List ℕ) → (a ++ dot) ++ ((b ++ dot) ++ ((c ++ dot) ++ d)) ≡ a ++ dot ++ b ++ dot ++ c ++ dot ++ d
leftwards a b c d dot = simp append_assoc

v4_of : (n a b c d : ℕ) → n ≡ ((a * 256 + b) * 256 + c) * 256 + d → a < 256 → b < 256 → c < 256 → d < 256
    → decimal a ++ 46 ∷ [] ++ decimal b ++ 46 ∷ [] ++ decimal c ++ 46 ∷ [] ++ decimal d ≡ v4_text n
v4_of n a b c d is la lb lc ld =
    let first : n / 2 ^ 24 ≡ a = omega (arith, is, la, lb, lc, ld) in
    let second : n / 2 ^ 16 % 256 ≡ b = omega (arith, is, la, lb, lc, ld) in
    let third : n / 2 ^ 8 % 256 ≡ c = omega (arith, is, la, lb, lc, ld) in
    let fourth : n % 256 ≡ d = omega (arith, is, la, lb, lc, ld) in
    rw (first, second, third, fourth) refl

pub four_octets : (text r s t : List ℕ) (a b c d : Number) → IsOctetAndDot text a → r ≡ drop a.len text → IsOctetAndDot r b → s ≡ drop b.len r → IsOctetAndDot s c → t ≡ drop c.len s → IsOctet t d
    → IsDottedFront text (record { value = ((a.value * 256 + b.value) * 256 + c.value) * 256 + d.value; len = a.len + b.len + c.len + d.len })
four_octets text r s t a b c d one r_is two s_is three t_is four =
    let sums : a.len + (b.len + (c.len + d.len)) ≡ a.len + b.len + c.len + d.len = omega arith in
    record {
      small = omega (arith, one.small, two.small, three.small, four.small);
      some = one.some;
      len =
          more_dotted 2 text r a.len (b.len + (c.len + d.len)) one.len r_is
          (more_dotted 1 r s b.len (c.len + d.len) two.len s_is (more_dotted 0 s t c.len d.len three.len t_is (last_dotted t d.len four.len four.some)))
          ∙ ap (λ (m : ℕ). Some m) sums;
      whole =
          ap (λ (m : ℕ). take m text) (sym sums)
          ∙ more_text text r a.len (b.len + (c.len + d.len)) _ _ one.whole r_is
          (more_text r s b.len (c.len + d.len) _ _ two.whole s_is (more_text s t c.len d.len _ _ three.whole t_is four.whole))
          ∙ leftwards (decimal a.value) (decimal b.value) (decimal c.value) (decimal d.value) (46 ∷ [])
          ∙ v4_of _ a.value b.value c.value d.value refl one.small two.small three.small four.small;
    }

-- tokens

no_letter : (b : ℕ) → is_ascii_digit b ≡ true → is_letter b ≡ false
no_letter b is = grind (arith, nat_tests)

first_digit : (b : ℕ) (bytes : List ℕ) → 0 < prefix_len is_ascii_digit (b ∷ bytes) → is_ascii_digit b ≡ true
first_digit b bytes some = elim (cases_Bool (is_ascii_digit b)) [
  | inl is ↦ is
  | inr fails ↦ absurd (omega (arith, some, len_no is_ascii_digit b bytes fails))
]

front_at_digit : (text : List ℕ) → begins_colons text ≡ false → 0 < prefix_len is_ascii_digit text → front text ≡ Some (dotted_or_number (dotted_len 3 text) text)
front_at_digit [] plain some = absurd (omega (arith, some))
front_at_digit (b ∷ bytes) plain some =
    let digit = first_digit b bytes some in
    let letter = no_letter b digit in
    let here : plain_front (b ∷ bytes) ≡ Some (dotted_or_number (dotted_len 3 (b ∷ bytes)) (b ∷ bytes)) = rw (letter, digit) refl in
    front_plain (b ∷ bytes) plain ∙ here

pub address_tells : (text : List ℕ) (found : Number) → begins_colons text ≡ false → IsDottedFront text found → Tells text (kinds.Ip (V4 found.value)) found.len
address_tells text found plain is =
    tells text lexemes.Ipv4 found.len (kinds.Ip (V4 found.value))
    (front_at_digit text plain is.some ∙ ap (λ (o : Option ℕ). Some (dotted_or_number o text)) is.len)
    (is.small, is.whole)

pub decimal_tells : (text : List ℕ) (n value : ℕ) → begins_colons text ≡ false → n ≡ prefix_len is_ascii_digit text → 0 < n → n ≤ length text → first_passes (λ c. c == 46) (drop n text) ≡ false → begins_hexadecimal text ≡ false
    → value < 2 ^ 32 → digits_value 10 (take n text) ≡ value → Tells text (kinds.Number value) n
decimal_tells text n value plain len some within dot hexadecimal small is =
    let none : dotted_len 3 text ≡ None = ap (option_and_then (λ n. option_map (λ m. n + m) (dotted_len 2 (drop n text)))) (no_dot text n len dot) in
    let sort : dotted_or_number None text ≡ (lexemes.Decimal, prefix_len is_ascii_digit text) = rw hexadecimal refl in
    tells text lexemes.Decimal n (kinds.Number value)
    (front_at_digit text plain (omega (arith, len, some)) ∙ ap (λ (o : Option ℕ). Some (dotted_or_number o text)) none ∙ ap (λ (p : Lexeme × ℕ). Some p) sort ∙ ap (λ (m : ℕ). Some (lexemes.Decimal, m)) (sym len))
    (record { some = omega (arith, length-take n text, some, within); value = is; fits = small })
