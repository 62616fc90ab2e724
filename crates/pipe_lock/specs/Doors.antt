-- A pipe's direction behind its lock, and what is at hand to work under it (`IsDoor`): the tables that
-- it reads and writes, and the sources of what is played. When it may take a signal (`MayPass`), which
-- pipe it is of (`IsLaneOf`), and what a turn of its going down does (`FallsBy`).
-- Logs are read backwards.
-- From: own.
-- Example: a direction that was up before the phase and whose stamp has marked nothing may go down.
use Rattle.std.specs.Prelude.{◌≡◌, ℕ, ◌+◌, ◌<◌, ◌^◌, Bool, true, false, List, length}
use Rattle.atomic_table.specs.Seated.{TableId}
use Rattle.attrs.specs.declared.route.Src.{Src}
use Rattle.core_machine.specs.Rules.{Fall, Fits, Signal, is_up}
use Rattle.core_machine.specs.Signals.{without_sends}
use Rattle.export_lock.specs.Lanes.{LaneTerms}
use Rattle.export_lock.specs.LaneTurns.{AreSources}
use Rattle.import_lock.specs.Kept.{items_of_stamp}
use Rattle.jour_rule.specs.declared.views.Terms.{Terms}
use Rattle.jour_rule.specs.declared.views.View.{View as Seat}
use Rattle.jour.specs.Seats.{journal, number_of, own}
use Rattle.phase_legal.specs.Stamps.{opens}
use Rattle.table_shared.specs.Opening.{TableOpening}
use Rattle.pipe_lock.specs.Calls.{HasStamped}
use Rattle.pipe_lock.specs.Terms.{DirectionTerms, PipeTerms, past_ops, rules_in}

pub record IsDoor
    (key : LaneTerms) (reads writes : TableId × Terms TableOpening) (sources : List Src)
    : Type 0 where
  pub reads_is : key.exports.table ≡ reads
  pub writes_is : key.target ≡ writes
  pub sources_are : AreSources key sources
  pub start : key.exports.marks.1.start ≡ 0

-- The stamp is the direction's, with a position left for one mark more, and the signal fits where
-- the marks before the phase and those of the stamp have left the direction.
pub record MayPass (key : LaneTerms) (signal : Signal) (stamp : TableId × Seat ℕ) : Type 0 where
  pub here : journal stamp ≡ key.exports.marks
  pub number : number_of stamp.1.role ≡ 0
  pub few : length (items_of_stamp stamp) + 1 < 2 ^ 63
  pub fits :
      Fits signal (opens (opens false (without_sends key.exports.log)) (items_of_stamp stamp))

-- The lock is that of a direction of this pipe. Before the phase it was up where the pipe's
-- operations say so.
pub record IsLaneOf (key : PipeTerms) (direction : DirectionTerms) (lane : LaneTerms) : Type 0 where
  pub table : lane.exports.table ≡ direction.table
  pub marks : lane.exports.marks ≡ direction.marks
  pub up :
      opens false (without_sends lane.exports.log)
      ≡ is_up (rules_in key) key.number (past_ops key)

-- it has gone down, or it has something more to withdraw first
abbrev pub FallsBy :
    Bool → TableId × Terms TableOpening → TableId × Seat ℕ → TableId × Seat ℕ → Type 0
FallsBy true table old new = HasStamped table Fall old new
FallsBy false table old new = own new.1 ≡ own old.1
