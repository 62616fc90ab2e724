-- Which words spell numbers, and what is kept of them.
use Rattle.std.proofs.Common.{◌≡◌, ◌∙◌, sym, refl, ℕ, ◌<◌, Bool, true, List, [], ◌∷◌, length, arith}
use Rattle.std.specs.Prelude.{◌↔◌, IsTrue}
use Rattle.std.specs.Char.{digit_value, is_ascii_digit}
use Rattle.std.specs.Int.{IsInRange}
use Rattle.std.specs.List.{list_all}
use Rattle.std.specs.Str.Parse.{AllDigits, IsNumeral}
use Rattle.std.proofs.lemmas.Bool.{and_from, and_parts}
use Rattle.std.proofs.lemmas.Bool.Decides.{nat_tests}
use Rattle.std.proofs.lemmas.Str.{digit_value_digit}
use Rattle.std.proofs.lemmas.Str.Parse.{digit_from_value}

range_digit : (c : ℕ) → IsInRange 48 57 c → digit_value c < 10
range_digit c is = omega (arith, digit_value_digit c is, is)

is_range : (c : ℕ) → is_ascii_digit c ≡ true → IsInRange 48 57 c
is_range c is = grind (arith, nat_tests)

range_is : (c : ℕ) → IsInRange 48 57 c → is_ascii_digit c ≡ true
range_is c is = grind (arith, nat_tests)

all_from : (word : List ℕ) → AllDigits 10 word → list_all is_ascii_digit word ≡ true
all_from [] is = refl
all_from (c ∷ word) is = and_from (is_ascii_digit c) (list_all is_ascii_digit word) (range_is c (digit_from_value c is.0)) (all_from word is.1)

all_to : (word : List ℕ) → list_all is_ascii_digit word ≡ true → AllDigits 10 word
all_to [] is = tt
all_to (c ∷ word) is =
    let parts = and_parts (is_ascii_digit c) (list_all is_ascii_digit word) is in
    (range_digit c (is_range c parts.0), all_to word parts.1)

pub numeral_tells : (word : List ℕ) (digits : Bool) → digits ≡ list_all is_ascii_digit word → 0 < length word → IsTrue digits ↔ IsNumeral 10 word
numeral_tells word digits is some = (λ all. (some, all_to word (sym is ∙ all)), λ numeral. is ∙ all_from word numeral.1)
