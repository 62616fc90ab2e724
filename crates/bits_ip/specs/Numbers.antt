-- Numbers of 32 bits in decimal digits (`IsNumber`).
-- From: own.
-- Example: `00065000` is 65000; `+1` and `4294967296` are none.
use Rattle.std.specs.Prelude.{◌≡◌, ℕ, ◌^◌, ◌<◌, List}
use Rattle.std.specs.Str.Parse.{digits_value, IsNumeral}

-- One or more decimal digits spell a number of 32 bits; zeros in front change nothing.
pub record IsNumber (digits : List ℕ) (n : ℕ) : Type 0 where
  pub numeral : IsNumeral 10 digits
  pub value : digits_value 10 digits ≡ n
  pub fits : n < 2 ^ 32
