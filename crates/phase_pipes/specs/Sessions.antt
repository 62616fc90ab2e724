-- Pipes in a phase with threads (`IsPipeSession`): a session is its pipe's, of the phase, between its
-- two tables. Each direction's lock is that of the direction that the pipe's lock names, reads the
-- one table and writes the other, and goes by the rules of what is played (`IsDirectionIn`). What a
-- new session is of (`IsNewPipe`), and what lay under its locks as the phase ended (`IsClosed`).
-- Not modelled: protocols with routes of their own, of which phase_room has sessions.
-- From: BIRD User's Guide, "Pipe"; sessions are own.
-- Example: the session of a pipe from the table 0 to the table 1: its direction out reads 0 and
-- writes 1, and the one back reads 1 and writes 0.
use Rattle.std.specs.Prelude.{◌≡◌, ◌+◌, ℕ, List, Some, reverse, slice_get}
use Rattle.atomic_table.specs.Seated.{TableId}
use Rattle.attrs.specs.declared.journal.JEntry.{JEntry}
use Rattle.attrs.specs.declared.judge.Verdict.{Verdict}
use Rattle.attrs.specs.declared.route.Route.{Route}
use Rattle.bits_ip.specs.Prefix.{Net}
use Rattle.core_machine.specs.Rules.{Rules}
use Rattle.core_setup.specs.Protocols.{rules_of}
use Rattle.core_setup.specs.Setup.{Exports}
use Rattle.export_lock.specs.Lanes.{IsSomeLane, LaneTerms}
use Rattle.export_lock.specs.Locks.{lane_terms_of}
use Rattle.import_lock.specs.Terms.{PhaseTerms}
use Rattle.jour_rule.specs.declared.views.Terms.{Terms}
use Rattle.jour_rule.specs.declared.views.View.{View as Seat}
use Rattle.phase_room.specs.Journals.{turns_terms}
use Rattle.pipe_lock.specs.Doors.{IsLaneOf}
use Rattle.pipe_lock.specs.Kept.{IsFree}
use Rattle.pipe_lock.specs.Locks.{terms_of}
use Rattle.pipe_lock.specs.Terms.{AreTerms, DirectionTerms, PipeTerms}
use Rattle.table_shared.specs.Opening.{TableOpening}
use Rattle.phase_pipes.specs.Locks.{lane_seats}
use Rattle.phase_pipes.specs.declared.parts.DirectionPart.{DirectionPart}
use Rattle.phase_pipes.specs.declared.session.ClosedPipe.{ClosedPipe}
use Rattle.phase_pipes.specs.declared.session.PipeSession.{PipeSession}

-- A direction of this pipe from the table of the one number to that of the other. Its marks begin
-- with the phase.
pub record IsDirectionIn
    (pipe : PipeTerms) (tables : List (TableId × Terms TableOpening)) (reads writes : ℕ)
    (direction : DirectionTerms) (lane : LaneTerms) : Type 0 where
  pub lane_is : IsLaneOf pipe direction lane
  pub rules_are : lane.rules ≡ rules_of pipe.phase.setup
  pub number_is : lane.number ≡ direction.number
  pub reads_is : (rules_of pipe.phase.setup).reads direction.number ≡ reads
  pub writes_is : (rules_of pipe.phase.setup).target direction.number ≡ Some writes
  pub read : slice_get tables reads ≡ Some direction.table
  pub written : slice_get tables writes ≡ Some lane.target
  pub start : direction.marks.1.start ≡ 0

-- the pipe of a number in a phase, from the primary table, which has the one number, to the peer
-- table, which has the other
pub record IsPipeSession
    (phase : PhaseTerms) (tables : List (TableId × Terms TableOpening)) (number primary peer : ℕ)
    (pipe : PipeTerms) (out back : LaneTerms) : Type 0 where
  pub phase_is : pipe.phase ≡ phase
  pub number_is : pipe.number ≡ number
  pub terms : AreTerms pipe
  pub primary_is : terms.pipe.primary ≡ primary
  pub peer_is : terms.pipe.peer ≡ peer
  pub out_is : IsDirectionIn pipe tables primary peer pipe.out out
  pub back_is : IsDirectionIn pipe tables peer primary pipe.back back

module _ {J P : Type 0} where
  abbrev pub pipe_terms : (P → PhaseTerms) → PipeSession J P → PipeTerms
  pipe_terms terms session = terms_of terms session.pipe.1

  abbrev pub out_terms : (P → ℕ → Exports) → (P → Rules) → PipeSession J P → LaneTerms
  out_terms exports rules session = lane_terms_of exports rules session.out.1

  abbrev pub back_terms : (P → ℕ → Exports) → (P → Rules) → PipeSession J P → LaneTerms
  back_terms exports rules session = lane_terms_of exports rules session.back.1

-- the lock of a new direction is of what its part has, and of these entries of the table that it
-- reads before the phase
abbrev pub IsNewLane :
    {J : Type 0} → (ℕ → Exports) → Rules → List JEntry → DirectionPart J → LaneTerms → Type 0
IsNewLane exports rules before part lane =
    (marks : TableId × Seat ℕ)
    × (lane ≡ lane_seats (exports part.number) rules part.number part.cursor before marks
    (reverse part.log.value.items) part.port)

-- It is between these tables, and its turns have a hand for each actor and one for starts. The ports
-- of its directions have its number.
pub record IsNewPipe
    {J P : Type 0} (terms : P → PhaseTerms) (exports : P → ℕ → Exports) (rules : P → Rules)
    (played : P) (number primary peer : ℕ) (session : PipeSession J P) : Type 0 where
  pub primary_is : session.primary ≡ primary
  pub peer_is : session.peer ≡ peer
  pub turns : (pipe_terms terms session).turns.1 ≡ turns_terms ((terms played).starter + 1)
  pub out_port : (out_terms exports rules session).port_number ≡ number
  pub back_port : (back_terms exports rules session).port_number ≡ number

-- what lay under the locks of a session
pub record IsClosed
    {J : Type 0} (verdict : J → Net → Route → Verdict) (pipe : PipeTerms) (out back : LaneTerms)
    (closed : ClosedPipe J) : Type 0 where
  pub pipe_is : IsFree pipe closed.pipe
  pub out_is : IsSomeLane verdict out closed.out
  pub back_is : IsSomeLane verdict back closed.back
