-- Turns that begin with these starts (`AreTurned`).
-- From: own.
-- Example: in the second phase no protocol has a start, and all turns are of actors' hands.
use Rattle.std.specs.Prelude.{◌≡◌, List, ◌++◌}
use Rattle.jour_rule.specs.declared.views.Entry.{Entry}
use Rattle.phase_legal.specs.Ended.{AreTurns}
use Rattle.phase_legal.specs.Shown.{Room}
use Rattle.import_lock.specs.Terms.{ImportTerms}

pub record AreTurned (room : Room) (key : ImportTerms) (list begun : List Entry) : Type 0 where
  pub rest : List Entry
  pub all : begun ++ rest ≡ list
  pub turns : AreTurns room key.phase.starter begun rest
  pub start : turns.start ≡ key.turns.1.start
