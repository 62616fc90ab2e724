-- A count of refusals that stops at the last value of a counter.
-- From: own.
-- Example: from 3 to 4 a count has risen, and so has one that stands at 2^64 - 1 and stays there.
use Rattle.std.specs.Prelude.{ℕ, ◌+◌, ◌-◌, ◌^◌, ◌≤◌, min}

-- A count has risen. One that stands at the last value of a counter counts as risen.
abbrev pub Rose : ℕ → ℕ → Type 0
Rose before now = min (before + 1) (2 ^ 64 - 1) ≤ now
