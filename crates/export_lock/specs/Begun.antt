-- What an export lock's value is made of as a phase begins (`Begins`).
-- From: own.
-- Example: a channel that is up has taken all entries of earlier phases, and its cursor stands where
-- the new journal begins.
use Rattle.std.specs.Prelude.{◌≡◌, ℕ, Bool, true, false, [], length, reverse}
use Rattle.atomic_table.specs.Seated.{TableId}
use Rattle.attrs.specs.declared.judge.Verdict.{Verdict}
use Rattle.attrs.specs.declared.route.Route.{Route}
use Rattle.bits_ip.specs.Prefix.{Net}
use Rattle.export_core.specs.Histories.{course_of}
use Rattle.export_core.specs.Standing.{is_open}
use Rattle.export_core.specs.States.{StandsFor, State}
use Rattle.jour_rule.specs.Moves.{position_of}
use Rattle.jour_rule.specs.declared.views.View.{View as Seat}
use Rattle.jour.specs.Seats.{front, journal, number_of, own}
use Rattle.table_shared.specs.Opening.{TableOpening}
use Rattle.export_lock.specs.Lanes.{AreLaneTerms, LaneTerms}
use Rattle.export_lock.specs.Terms.{ExportTerms, IsBegun}

-- The exporter is the channel's behind the entries of earlier phases, has the log that the key has,
-- and withdraws nothing. The cursor and the marks are those of the key, and neither has an entry of
-- the phase.
pub record Begins
    {J : Type 0} (verdict : J → Net → Route → Verdict) (every : Bool) (key : ExportTerms)
    (held : State J) (reader : (TableId × Seat TableOpening) × Bool) (list : TableId × Seat ℕ)
    : Type 0 where
  pub spec : held.spec ≡ key.exports.spec
  pub filter : verdict held.judge ≡ key.exports.filter
  pub kind : key.exports.spec.every ≡ every
  pub rest : held.flushing ≡ false
  pub log : reverse held.log ≡ key.log
  pub stood : StandsFor verdict (course_of key.exports.spec key.before) held
  pub here : journal reader.0 ≡ key.table
  pub unread : front reader.0.1 ≡ []
  pub start : key.table.1.start ≡ length key.before
  pub family : key.exports.spec.family ≡ key.table.1.opening.family
  pub begun : IsBegun key
  pub mode : reader.1 ≡ is_open held.log
  pub position :
      is_open held.log ≡ true
      → (held.position ≡ key.table.1.start) × (position_of reader.0.1.role ≡ key.table.1.start)
  pub marks : journal list ≡ key.marks
  pub makers : key.marks.1.opening ≡ 1
  pub cursors : key.marks.1.cursors ≡ 0
  pub unmarked : front list.1 ≡ []

-- The same of a pipe's direction, whose port has made nothing yet.
pub record BeginsLane
    {J : Type 0} (verdict : J → Net → Route → Verdict) (key : LaneTerms) (held : State J)
    (reader : (TableId × Seat TableOpening) × Bool) (list : TableId × Seat ℕ)
    (door : TableId × Seat TableOpening) : Type 0 where
  pub terms : AreLaneTerms key
  pub begins : Begins verdict true key.exports held reader list
  pub port : journal door ≡ key.target
  pub port_number : number_of door.1.role ≡ key.port_number
  pub unmade : own door.1 ≡ []
