-- What the locks of a pipe and of its directions are of, where these are their seats (`pipe_seats`,
-- `direction_seats`, `lane_seats`).
-- Entries before the phase are in their order; the log is read backwards.
-- From: own.
-- Example: a direction's lock and the pipe's name one journal of its marks.
use Rattle.std.specs.Prelude.{ℕ, Bool, List}
use Rattle.atomic_table.specs.Seated.{TableId}
use Rattle.attrs.specs.declared.journal.JEntry.{JEntry}
use Rattle.core_machine.specs.Rules.{Rules}
use Rattle.core_setup.specs.Setup.{Exports}
use Rattle.export_core.specs.declared.log.LogItem.{LogItem}
use Rattle.export_lock.specs.Lanes.{LaneTerms}
use Rattle.import_lock.specs.Terms.{PhaseTerms}
use Rattle.jour_rule.specs.declared.views.View.{View as Seat}
use Rattle.jour.specs.Seats.{journal, number_of}
use Rattle.phase_room.specs.Locks.{export_terms}
use Rattle.pipe_lock.specs.Terms.{DirectionTerms, PipeTerms}
use Rattle.table_shared.specs.Opening.{TableOpening}

-- the seats of a direction that the pipe's lock names: its cursor and its stamp
abbrev pub direction_seats :
    (number : ℕ) → (TableId × Seat TableOpening) × Bool → (stamp : TableId × Seat ℕ)
    → DirectionTerms
direction_seats number cursor stamp =
    record { number = number; table = journal cursor.0; marks = journal stamp }

-- those of a pipe: its turns, and its directions
abbrev pub pipe_seats :
    PhaseTerms → (number : ℕ) → TableId × Seat ℕ → (out back : DirectionTerms) → PipeTerms
pipe_seats phase number turns out back =
    record { phase = phase; number = number; turns = journal turns; out = out; back = back }

-- those of a direction's own lock: its cursor, its marks, and its port of the table that it writes
abbrev pub lane_seats :
    Exports → Rules → (number : ℕ) → (TableId × Seat TableOpening) × Bool → List JEntry
    → (marks : TableId × Seat ℕ) → (log : List LogItem) → (port : TableId × Seat TableOpening)
    → LaneTerms
lane_seats exports rules number cursor before marks log port = record {
  exports = export_terms exports cursor before marks log;
  rules = rules;
  number = number;
  target = journal port;
  port_number = number_of port.1.role;
}
