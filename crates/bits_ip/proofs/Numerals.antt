-- Which texts spell a number in decimal.
use Rattle.std.proofs.Common.{◌≡◌, ℕ, ◌<◌, ◌^◌, List, length, slice_index, sym, arith, Result, MatchOption, Ok, Err}
use Rattle.std.specs.Result.{result_ok}
use Rattle.std.specs.Str.{IsUtf8}
use Rattle.std.specs.Str.Parse.{AllDigits, ParsesUnsigned, digits_value}
use Rattle.std.proofs.lemmas.Fmt.{IsAscii-from_digits}
use Rattle.std.proofs.lemmas.Str.{IsUtf8-from_ascii}
use Rattle.std.proofs.lemmas.Str.Parse.{IsNumeralModel, numerals_by_value, tells_digits, digit_at, parse_plain}
use Rattle.bits_ip.specs.Numbers.{IsNumber}

digits : IsNumeralModel (AllDigits 10) (digits_value 10)
digits = numerals_by_value (AllDigits 10) tells_digits

pub number_is_utf8 : (text : List ℕ) (n : ℕ) → IsNumber text n → IsUtf8 text
number_is_utf8 text n is = IsUtf8-from_ascii text (IsAscii-from_digits text is.numeral.1)

pub number_has_no_plus : (text : List ℕ) (n : ℕ) → IsNumber text n → slice_index text 0 ≡ 43 → ⊥
number_has_no_plus text n is plus = omega (arith, digit_at text 0 is.numeral.1 is.numeral.0, plus)

-- what is read is such a number
pub number_read : {E : Type 0} (text : List ℕ) (r : Result ℕ E) → (slice_index text 0 ≡ 43 → ⊥) → ParsesUnsigned 32 10 text r → MatchOption (result_ok r) ((n : ℕ) → IsNumber text n → ⊥) (λ n. IsNumber text n)
number_read {E} text (Ok n) plain parses =
    let read : (AllDigits 10 text × (0 < length text) × (digits_value 10 text < 2 ^ 32)) × (n ≡ digits_value 10 text) = parse_plain digits {E = E} 32 text (Ok n) parses plain in
    record { numeral = (read.0.1, read.0.0); value = sym read.1; fits = omega (arith, read.1, read.0.2) }
number_read {E} text (Err e) plain parses = λ n is.
    parse_plain digits {E = E} 32 text (Err e) parses plain (is.numeral.1, is.numeral.0, omega (arith, is.value, is.fits))
