-- What becomes of heads as ports are asked one after another (`Raises`).
-- From: own.
-- Example: a head is raised from 5 to 7, and those of all other tables stay.
use Rattle.std.specs.Prelude.{◌≡◌, ◌≤◌, ℕ, List, length}
use Rattle.pipe_rest.specs.Heads.{head_at}

-- no head is lower than it was
pub record Raises (old new : List ℕ) : Type 0 where
  pub count : length new ≡ length old
  pub least : (table : ℕ) → head_at old table ≤ head_at new table
