-- Lists of lists of which one is taken (`AreOthers`).
-- From: own.
-- Example: where a session's ports are taken, those of all other sessions stay.
use Rattle.std.specs.Prelude.{◌≡◌, ◌≤◌, ℕ, List, length, slice_get}

-- all places but one are as they were
pub record AreOthers {X : Type 0} (place : ℕ) (old new : List X) : Type 0 where
  pub count : length new ≡ length old
  pub each : (k : ℕ) → (k ≡ place → ⊥) → slice_get new k ≡ slice_get old k

-- all places from one on are as they were
pub record AreLater {X : Type 0} (place : ℕ) (old new : List X) : Type 0 where
  pub count : length new ≡ length old
  pub each : (k : ℕ) → place ≤ k → slice_get new k ≡ slice_get old k
