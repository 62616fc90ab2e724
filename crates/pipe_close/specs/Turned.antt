-- Turns of a pipe that begin with these (`ArePipeTurned`).
-- From: own.
-- Example: a pipe has no starts, so all turns are of actors' hands.
use Rattle.std.specs.Prelude.{◌≡◌, List, ◌++◌}
use Rattle.jour_rule.specs.declared.views.Entry.{Entry}
use Rattle.phase_legal.specs.Ended.{AreTurns}
use Rattle.phase_legal.specs.Shown.{Room}
use Rattle.pipe_lock.specs.Terms.{PipeTerms}

pub record ArePipeTurned (room : Room) (key : PipeTerms) (list begun : List Entry) : Type 0 where
  pub rest : List Entry
  pub all : begun ++ rest ≡ list
  pub turns : AreTurns room key.phase.starter begun rest
  pub start : turns.start ≡ key.turns.1.start
