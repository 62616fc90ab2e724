-- For private contracts alone: how much of a text has reached a sink.
use Rattle.std.specs.Prelude.{ℕ, ◌^◌, List, Option, Bool, true, false}
use Rattle.std.specs.Io.KnownBytes.{Appends}
use Rattle.outside_io.specs.Faults.{Rose}
use Rattle.outside_io.specs.Whole.{WritesFront}

-- how many bytes are held back at most
abbrev pub block_size : ℕ
block_size = 2 ^ 14

-- The text has reached a sink that hasn't failed. Where it has failed a front of the text has, and the
-- count of faults has risen.
abbrev pub Reached : Option (List ℕ) → Option (List ℕ) → ℕ → ℕ → Bool → List ℕ → Type 0
Reached first now before faults false text = Appends first now text
Reached first now before faults true text = WritesFront first now text × Rose before faults
