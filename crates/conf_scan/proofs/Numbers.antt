-- Digits and what they spell.
use Rattle.std.proofs.Common.{◌≡◌, ℕ, suc, zero, ◌<◌, ◌≤◌, Bool, true, cond, ◌==◌, List, [], ◌∷◌, ◌++◌, length, drop, Result, Ok, Err, MatchOption, refl, sym, ◌∙◌, ap, subst, arith, inl, inr}
use Rattle.std.specs.Char.{digit_value, is_ascii_digit, is_ascii_hexdigit}
use Rattle.std.specs.List.{list_all}
use Rattle.std.specs.Result.{result_ok}
use Rattle.std.specs.Str.{IsUtf8, IsAscii}
use Rattle.std.specs.Str.Parse.{AllDigits, ParsesUnsigned, digits_value, without_leading_plus}
use Rattle.std.proofs.lemmas.Bool.{and_parts, and_from, cases_Bool, eqb-true}
use Rattle.std.proofs.lemmas.Bool.Decides.{nat_tests}
use Rattle.std.proofs.lemmas.Str.{IsUtf8-from_ascii}
use Rattle.std.proofs.lemmas.Str.Ascii.{IsAscii-cons, IsAscii-nil}
use Rattle.bits_ip.specs.Text.{addr_run, is_addr_byte, IsAddrText}
use Rattle.bits_ip.specs.declared.address.Addr.{Addr}
use Rattle.conf_scan.specs.Shapes.{IsDotted, IsHexadecimal, IsColons, IsNumber, IsHexNumber, is_colons_byte}
use Rattle.conf_scan.proofs.Runs.{run_yes}

below_10 : (b : ℕ) → is_ascii_digit b ≡ true → digit_value b < 10
below_10 b is = grind (arith, nat_tests)

below_16 : (b : ℕ) → is_ascii_hexdigit b ≡ true → digit_value b < 16
below_16 b is = grind (arith, nat_tests)

pub decimal_digits : (bytes : List ℕ) → list_all is_ascii_digit bytes ≡ true → AllDigits 10 bytes
decimal_digits [] all = tt
decimal_digits (b ∷ bytes) all =
    let parts = and_parts (is_ascii_digit b) (list_all is_ascii_digit bytes) all in
    (below_10 b parts.0, decimal_digits bytes parts.1)

hexadecimal_digits : (bytes : List ℕ) → list_all is_ascii_hexdigit bytes ≡ true → AllDigits 16 bytes
hexadecimal_digits [] all = tt
hexadecimal_digits (b ∷ bytes) all =
    let parts = and_parts (is_ascii_hexdigit b) (list_all is_ascii_hexdigit bytes) all in
    (below_16 b parts.0, hexadecimal_digits bytes parts.1)

pub behind_prefix : (slice : List ℕ) (hex : IsHexadecimal slice) → drop 2 slice ≡ hex.digits
behind_prefix slice hex = ap (λ (l : List ℕ). drop 2 l) hex.whole

pub digits_behind : (slice : List ℕ) → IsHexadecimal slice → AllDigits 16 (drop 2 slice)
digits_behind slice hex =
    let P : List ℕ → Type 0 = λ l. AllDigits 16 l in
    subst P (sym (behind_prefix slice hex)) (hexadecimal_digits hex.digits hex.bytes)

ascii_digit : (b : ℕ) → digit_value b < 16 → b < 128
ascii_digit b below = grind (arith, nat_tests)

digits_ascii : (radix : ℕ) (bytes : List ℕ) → radix ≤ 16 → AllDigits radix bytes → IsAscii bytes
digits_ascii radix [] most all = IsAscii-nil
digits_ascii radix (b ∷ bytes) most all = IsAscii-cons b bytes (ascii_digit b (omega (arith, all.0, most))) (digits_ascii radix bytes most all.1)

pub digits_utf8 : (radix : ℕ) (bytes : List ℕ) → radix ≤ 16 → AllDigits radix bytes → IsUtf8 bytes
digits_utf8 radix bytes most all = IsUtf8-from_ascii bytes (digits_ascii radix bytes most all)

plus_value : digit_value 43 ≡ 36
plus_value = refl

no_plus : (radix : ℕ) (bytes : List ℕ) → radix ≤ 16 → AllDigits radix bytes → without_leading_plus bytes ≡ bytes
no_plus radix [] most all = refl
no_plus radix (b ∷ bytes) most all = elim (cases_Bool (b == 43)) [
  | inl plus ↦ let value : digit_value b ≡ 36 = ap digit_value (eqb-true b 43 plus) in absurd (omega (arith, all.0, most, value))
  | inr other ↦ ap (λ (t : Bool). drop (cond t 1 0) (b ∷ bytes)) other
]

-- what is read of digits is their number
pub number_read : {E : Type 0} (radix : ℕ) (bytes : List ℕ) (r : Result ℕ E) → radix ≤ 16 → AllDigits radix bytes → ParsesUnsigned 32 radix bytes r → MatchOption (result_ok r) ((n : ℕ) → IsNumber radix bytes n → ⊥) (λ n. IsNumber radix bytes n)
number_read {E} radix bytes (Ok n) most all parses =
    let same = no_plus radix bytes most all in
    let value : n ≡ digits_value radix bytes = parses.1 ∙ ap (digits_value radix) same in
    record {
      some = let len = ap (λ (l : List ℕ). length l) same in omega (arith, parses.0.0.0, len);
      value = sym value;
      fits = let read = ap (digits_value radix) same in omega (arith, parses.0.1, value, read);
    }
number_read {E} radix bytes (Err e) most all parses = λ n is.
    let same = no_plus radix bytes most all in
    let P : List ℕ → Type 0 = λ l. AllDigits radix l in
    let len = ap (λ (l : List ℕ). length l) same in
    let read = ap (digits_value radix) same in
    parses ((omega (arith, is.some, len), subst P (sym same) all), omega (arith, is.value, is.fits, read))

-- addresses

digit_addr : (b : ℕ) → is_ascii_digit b ≡ true → is_addr_byte b ≡ true
digit_addr b is = grind (arith, nat_tests)

colons_addr : (b : ℕ) → is_colons_byte b ≡ true → is_addr_byte b ≡ true
colons_addr b is = grind (arith, nat_tests)

all_weaker : (p q : ℕ → Bool) → ((b : ℕ) → p b ≡ true → q b ≡ true) → (xs : List ℕ) → list_all p xs ≡ true → list_all q xs ≡ true
all_weaker p q weaker [] all = refl
all_weaker p q weaker (x ∷ xs) all =
    let parts = and_parts (p x) (list_all p xs) all in
    and_from (q x) (list_all q xs) (weaker x parts.0) (all_weaker p q weaker xs parts.1)

all_joined : (p : ℕ → Bool) (xs ys : List ℕ) → list_all p xs ≡ true → list_all p ys ≡ true → list_all p (xs ++ ys) ≡ true
all_joined p [] ys one other = other
all_joined p (x ∷ xs) ys one other =
    let parts = and_parts (p x) (list_all p xs) one in
    and_from (p x) (list_all p (xs ++ ys)) parts.0 (all_joined p xs ys parts.1 other)

pub dotted_bytes : (k : ℕ) (slice : List ℕ) → IsDotted k slice → list_all is_addr_byte slice ≡ true
dotted_bytes zero slice digits = all_weaker is_ascii_digit is_addr_byte digit_addr slice digits.1
dotted_bytes (suc k) slice dotted =
    ap (list_all is_addr_byte) dotted.3
    ∙ all_joined is_addr_byte dotted.0 (46 ∷ dotted.1) (all_weaker is_ascii_digit is_addr_byte digit_addr dotted.0 dotted.2.1) (dotted_bytes k dotted.1 dotted.4)

pub colons_bytes : (slice rest : List ℕ) → IsColons slice rest → list_all is_addr_byte slice ≡ true
colons_bytes slice rest colons = all_weaker is_colons_byte is_addr_byte colons_addr slice colons.bytes

-- all of such bytes are the run that is read
pub whole_run : (bytes : List ℕ) → list_all is_addr_byte bytes ≡ true → addr_run bytes ≡ bytes
whole_run [] all = refl
whole_run (b ∷ bytes) all =
    let parts = and_parts (is_addr_byte b) (list_all is_addr_byte bytes) all in
    run_yes is_addr_byte b bytes parts.0 ∙ ap (λ (l : List ℕ). b ∷ l) (whole_run bytes parts.1)

pub run_spells : (bytes : List ℕ) (addr : Addr) → list_all is_addr_byte bytes ≡ true → IsAddrText (addr_run bytes) addr → IsAddrText bytes addr
run_spells bytes addr all is = let P : List ℕ → Type 0 = λ l. IsAddrText l addr in subst P (whole_run bytes all) is

pub run_spelled : (bytes : List ℕ) (addr : Addr) → list_all is_addr_byte bytes ≡ true → IsAddrText bytes addr → IsAddrText (addr_run bytes) addr
run_spelled bytes addr all is = let P : List ℕ → Type 0 = λ l. IsAddrText l addr in subst P (sym (whole_run bytes all)) is

-- the number behind `0x`
pub hex_number : (slice : List ℕ) (n : ℕ) → IsHexadecimal slice → IsNumber 16 (drop 2 slice) n → IsHexNumber slice n
hex_number slice n hex is = let P : List ℕ → Type 0 = λ l. IsNumber 16 l n in record { digits = hex.digits; whole = hex.whole; number = subst P (behind_prefix slice hex) is }

pub hex_spelled : (slice : List ℕ) (n : ℕ) → IsHexNumber slice n → IsNumber 16 (drop 2 slice) n
hex_spelled slice n is = let P : List ℕ → Type 0 = λ l. IsNumber 16 (drop 2 l) n in subst P (sym is.whole) is.number
