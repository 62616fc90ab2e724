-- Whole files within the limit and those over it (`limit`, `IsWhole`, `IsLong`), a front of a text
-- that was written (`WritesFront`), and a name under which nothing is held (`IsMissing`).
-- From: own.
-- Example: a file of 2^24 bytes is within the limit, one of a byte more isn't.
use Rattle.std.specs.Prelude.{◌≡◌, ℕ, ◌^◌, ◌<◌, ◌≤◌, List, length, take, ⊤, Option, IfSome}
use Rattle.std.specs.Io.KnownBytes.{Appends}
use Rattle.outside_io.specs.declared.whole.ReadError.{ReadError}
use Rattle.outside_io.specs.declared.whole.ReadError.TheVariants.{Failed, TooLong, Memory}

-- the greatest number of bytes of a file
abbrev pub limit : ℕ
limit = 2 ^ 24

abbrev pub IsLong : List ℕ → Type 0
IsLong file = limit < length file

-- the bytes are the whole file, where it is told, and within the limit
pub record IsWhole (held : Option (List ℕ)) (bytes : List ℕ) : Type 0 where
  pub told : IfSome held (λ file. file ≡ bytes)
  pub within : length bytes ≤ limit

-- the answers where nothing is held under the name
abbrev pub IsMissing : ReadError → Type 0
IsMissing Failed = ⊤
IsMissing Memory = ⊤
IsMissing TooLong = ⊥

-- some bytes of the front of the text were written
abbrev pub WritesFront : Option (List ℕ) → Option (List ℕ) → List ℕ → Type 0
WritesFront old new text = (n : ℕ) × Appends old new (take n text)
