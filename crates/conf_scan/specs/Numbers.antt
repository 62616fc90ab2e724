-- For private contracts alone: numbers and addresses that are read in one pass.
use Rattle.std.specs.Prelude.{◌≡◌, ℕ, ◌<◌, ◌≤◌, ◌^◌, List, [], ◌∷◌, ◌++◌, take, length, Some}
use Rattle.std.specs.Prelude.{decimal}
use Rattle.std.specs.Char.{is_ascii_digit}
use Rattle.std.specs.List.{prefix_len}
use Rattle.bits_ip.specs.Text.{v4_text}
use Rattle.conf_scan.specs.Fronts.{dot_len, dotted_len}
use Rattle.conf_scan.specs.declared.number.Number.{Number}

-- the digits at the front spell a number below 256, without leading zeros
pub record IsOctet (text : List ℕ) (found : Number) : Type 0 where
  pub small : found.value < 256
  pub some : 0 < found.len
  pub within : found.len ≤ length text
  pub len : found.len ≡ prefix_len is_ascii_digit text
  pub whole : take found.len text ≡ decimal found.value

-- and a dot stands behind them
pub record IsOctetAndDot (text : List ℕ) (found : Number) : Type 0 where
  pub small : found.value < 256
  pub some : 0 < prefix_len is_ascii_digit text
  pub within : found.len ≤ length text
  pub len : dot_len text ≡ Some found.len
  pub whole : take found.len text ≡ decimal found.value ++ 46 ∷ []

-- an IPv4 address begins the text
pub record IsDottedFront (text : List ℕ) (found : Number) : Type 0 where
  pub small : found.value < 2 ^ 32
  pub some : 0 < prefix_len is_ascii_digit text
  pub len : dotted_len 3 text ≡ Some found.len
  pub whole : take found.len text ≡ v4_text found.value
