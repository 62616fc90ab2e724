-- What a pipe's import lock is of (`PipeTerms`): the pipe, the phase, the journal of its turns, and
-- its two directions, each with the table that it reads and the journal of its marks. What they owe
-- each other (`AreTerms`), and which line a hand may record (`IsLineOf`).
-- Lists of turns and operations are read backwards, but for the phase's lines.
-- Not modelled: protocols with routes of their own, whose locks have a port.
-- From: own.
-- Example: the lock of k1, the third protocol, whose directions are the channels 2 and 3.
use Rattle.std.specs.Prelude.{◌≡◌, ℕ, List, [], ◌∷◌, Some}
use Rattle.atomic_table.specs.Seated.{TableId}
use Rattle.import_core.specs.declared.operation.Op.{Op}
use Rattle.jour_rule.specs.declared.views.Entry.{Entry}
use Rattle.jour_rule.specs.declared.views.Terms.{Terms}
use Rattle.table_shared.specs.Opening.{TableOpening}
use Rattle.core_machine.specs.Lines.{ops_of}
use Rattle.core_machine.specs.Rules.{Rules}
use Rattle.core_setup.specs.Protocols.{protocol_at, rules_of}
use Rattle.core_setup.specs.Setup.{IsPipe, IsSetup, Pipe, Protocol}
use Rattle.phase_legal.specs.Turns.{hand_in, line_at, turn_in, turns_told}
use Rattle.import_lock.specs.Terms.{PhaseTerms}

-- the number of the channel, the journal of the table that it reads, and that of its marks
pub record DirectionTerms : Type 0 where
  pub number : ℕ
  pub table : TableId × Terms TableOpening
  pub marks : TableId × Terms ℕ

-- The phase, the number of the pipe, the journal of its turns, and its directions: the one that
-- reads its primary table (`P.export`), and the one back (`P.import`).
pub record PipeTerms : Type 0 where
  pub phase : PhaseTerms
  pub number : ℕ
  pub turns : TableId × Terms ℕ
  pub out : DirectionTerms
  pub back : DirectionTerms

abbrev pub rules_in : PipeTerms → Rules
rules_in key = rules_of key.phase.setup

-- the operations before the phase
abbrev pub past_ops : PipeTerms → List Op
past_ops key = ops_of (key.phase.past key.number)

-- the operations that these turns of the phase tell
abbrev pub ops_told : PipeTerms → List Entry → List Op
ops_told key es = ops_of (turns_told key.phase.lines es)

-- the direction writes a table
pub record WritesTable (key : PipeTerms) (direction : DirectionTerms) : Type 0 where
  pub target : ℕ
  pub target_is : (rules_in key).target direction.number ≡ Some target

-- The protocol is a pipe, and these are its directions, in their order. Its turns have no cursor,
-- begin at 0, and each is of one of their hands.
pub record AreTerms (key : PipeTerms) : Type 0 where
  pub setup : IsSetup key.phase.setup
  pub protocol : Protocol
  pub protocol_is : protocol_at key.phase.setup key.number ≡ Some protocol
  pub pipe : Pipe
  pub body : protocol.body ≡ IsPipe pipe
  pub belong : (rules_in key).belong key.number ≡ key.out.number ∷ key.back.number ∷ []
  pub out : WritesTable key key.out
  pub back : WritesTable key key.back
  pub start : key.turns.1.start ≡ 0
  pub cursors : key.turns.1.cursors ≡ 0
  pub makers : key.turns.1.opening ≡ key.turns.1.makers

-- The hand of this number may record the line at a place: it is that of the line's actor, and the
-- operation is the line's.
pub record IsLineOf (key : PipeTerms) (hand place : ℕ) (op : Op) : Type 0 where
  pub hand_is : hand ≡ hand_in key.phase.starter (line_at key.phase.lines place)
  pub op_is : (turn_in (line_at key.phase.lines place)).op ≡ op
