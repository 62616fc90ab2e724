-- Which sources a direction of a pipe passes where pipes form a forest (`comes_but_by`): those that
-- come to the table that it reads, but for those that come there by the same pipe. Then each pipe
-- leads between two sides of the tables, and no other one does (`IsBridge`).
-- Not modelled: how pipes come to be a forest.
-- From: BIRD User's Guide, "Pipe"; own.
-- Example: of two pipes, between `t1` and `t2` and between `t2` and `t3`, the direction from `t2` to
-- `t1` passes the sources of `t2` and `t3`, and none of `t1`, which come to `t2` by this pipe.
use Rattle.std.specs.Prelude.{◌≡◌, ◌≢◌, ◌<◌, ◌&&◌, ℕ, Bool, not, Option, Some, is_some}
use Rattle.core_machine.specs.Pipes.{ends_with}
use Rattle.core_machine.specs.Rules.{Rules}

-- whether a source comes to a table, but not by this direction
abbrev pub comes_but_by : Rules → ℕ → ℕ → ℕ → Bool
comes_but_by rules d table num =
    is_some (rules.hops table num) && not (ends_with d (rules.hops table num))

-- directions are channels between tables that are there
abbrev pub AreWithin : Rules → Type 0
AreWithin rules =
    (d table : ℕ) → rules.target d ≡ Some table
    → (d < rules.channels) × (rules.reads d < rules.tables) × (table < rules.tables)

-- These are the two directions of a pipe, by which alone one comes from one side of the tables to
-- the other.
pub record IsBridge (rules : Rules) (d e : ℕ) : Type 0 where
  pub there : rules.target d ≡ Some (rules.reads e)
  pub back : rules.target e ≡ Some (rules.reads d)
  pub side : ℕ → Bool
  pub across : side (rules.reads d) ≡ not (side (rules.reads e))
  pub along :
      (c table : ℕ) → rules.target c ≡ Some table → c ≢ d → c ≢ e
      → side (rules.reads c) ≡ side table
