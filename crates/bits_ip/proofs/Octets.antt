-- Numbers below 256 and their digits.
use Rattle.std.proofs.Common.{◌≡◌, ◌≢◌, ℕ, ◌<◌, ◌^◌, List, length, All, sym, refl, ⊎_elim, arith, lit<, Result, MatchOption, Ok, Err}
use Rattle.std.specs.Fmt.{decimal}
use Rattle.std.specs.Int.{IsInRange}
use Rattle.std.specs.Str.{IsUtf8}
use Rattle.std.specs.Str.Parse.{AllDigits, ParsesUnsigned, digits_value}
use Rattle.std.specs.Result.{result_ok}
use Rattle.std.proofs.lemmas.Bool.{cases_eq}
use Rattle.std.proofs.lemmas.Fmt.{decimal_digit, decimal_is_IsNumeral, first_decimal, decimal-digits_value, IsAscii-decimal, parse-decimal}
use Rattle.std.proofs.lemmas.List.Elements.{All-from_get_or, All-weaker}
use Rattle.std.proofs.lemmas.Str.{IsUtf8-from_ascii}
use Rattle.std.proofs.lemmas.Str.Parse.{IsNumeralModel, numerals_by_value, tells_digits, digit_at, parse_plain}
use Rattle.bits_ip.specs.Parts.{IsOctet, BeginsPlainly}

digits : IsNumeralModel (AllDigits 10) (digits_value 10)
digits = numerals_by_value (AllDigits 10) tells_digits

-- the text of a number has digits alone
pub decimal_of_digits : (n : ℕ) → n < 2 ^ 64 → All (IsInRange 48 57) (decimal n)
decimal_of_digits n small =
    All-from_get_or (IsInRange 48 57) (decimal n) 0 (λ i within. digit_at (decimal n) i (decimal_is_IsNumeral n small).0.1 within)

pub octet_is_utf8 : (text : List ℕ) (n : ℕ) → IsOctet text n → IsUtf8 text
octet_is_utf8 text n is = rw is.1 (IsUtf8-from_ascii (decimal n) (IsAscii-decimal n (omega arith)))

decimal_begins_plainly : (n : ℕ) → n < 256 → BeginsPlainly (decimal n)
decimal_begins_plainly n small =
    ⊎_elim (λ zero. rw zero (rw (decimal_digit 0 (lit< tt)) (λ e. cc, λ e. refl)))
    (λ more. let first = first_decimal n (omega arith) (omega arith) in (λ e. absurd (omega arith), λ e. absurd (omega arith)))
    (cases_eq n 0)

pub octet_begins_plainly : (text : List ℕ) (n : ℕ) → IsOctet text n → BeginsPlainly text
octet_begins_plainly text n is = rw is.1 (decimal_begins_plainly n is.0)

-- what is read is such a number
pub octet_read : {E : Type 0} (text : List ℕ) (r : Result ℕ E) → BeginsPlainly text → ParsesUnsigned 8 10 text r → MatchOption (result_ok r) ((n : ℕ) → IsOctet text n → ⊥) (λ n. IsOctet text n)
octet_read {E} text (Ok n) plain parses =
    let read : (AllDigits 10 text × (0 < length text) × (digits_value 10 text < 2 ^ 8)) × (n ≡ digits_value 10 text) = parse_plain digits {E = E} 8 text (Ok n) parses plain.0 in
    let spelled = decimal-digits_value digits text read.0.0 read.0.1 plain.1 (omega (arith, read.0.2)) in
    (rw read.1 read.0.2, rw read.1 (sym spelled))
octet_read {E} text (Err e) plain parses = λ n is.
    let wrong : ◌≡◌ {A = Result ℕ E} (Err e) (Ok n) = parse-decimal 8 n text (Err e) is.0 (omega (arith, is.0)) is.1 parses in
    cc

-- an octet's digits are no other byte
pub octet_lacks : (n mark : ℕ) → n < 256 → (IsInRange 48 57 mark → ⊥) → All (λ b. b ≢ mark) (decimal n)
octet_lacks n mark small other =
    let weaker : (b : ℕ) → IsInRange 48 57 b → b ≢ mark = λ b in' e. other (rw (← e) in') in
    All-weaker (IsInRange 48 57) (λ b. b ≢ mark) weaker (decimal n) (decimal_of_digits n (omega arith))
