-- What a protocol's import lock is of (`ImportTerms`): the protocol, the phase, and the journals of
-- its turns, of its port's table and of its channel's marks. What they owe each other
-- (`AreTerms`), and which line a hand may record (`IsLineOf`).
-- Lists of turns and operations are read backwards, but for the phase's lines.
-- Not modelled: pipes, whose locks have neither a port nor changes.
-- From: own.
-- Example: the lock of p1, the second protocol, in a phase of two lines and three actors; starts
-- have the hand of number 3.
use Rattle.std.specs.Prelude.{◌≡◌, ◌==◌, ℕ, List, Contains, Option, Some}
use Rattle.std.specs.List.{AllByRecursion}
use Rattle.atomic_table.specs.Seated.{TableId}
use Rattle.bits_ip.specs.Address.{family_of}
use Rattle.bits_ip.specs.Prefix.{Net}
use Rattle.import_core.specs.declared.operation.Op.{Op}
use Rattle.jour_rule.specs.declared.views.Entry.{Entry}
use Rattle.jour_rule.specs.declared.views.Terms.{Terms}
use Rattle.table_shared.specs.Opening.{TableOpening, sources_of}
use Rattle.table_shared.specs.Records.{at_first}
use Rattle.core_machine.specs.Lines.{Line, Turn, ops_of}
use Rattle.core_machine.specs.Rules.{Rules, held}
use Rattle.core_setup.specs.Announced.{IsOfFamily}
use Rattle.core_setup.specs.Protocols.{protocol_at, rules_of}
use Rattle.core_setup.specs.Setup.{IsSetup, IsSource, Protocol, Setup, Source}
use Rattle.phase_legal.specs.Changes.{IsAlone}
use Rattle.phase_legal.specs.Turns.{hand_in, line_at, turn_in, turns_told}

-- a phase, as its locks know it: what is played, its lines in their order, the turns of each
-- protocol before it, and the number of the hand that records starts, which is above all actors'
pub record PhaseTerms : Type 0 where
  pub setup : Setup
  pub lines : List Line
  pub past : ℕ → List Turn
  pub starter : ℕ

-- the phase, the number of the protocol, the journal of its table with the number of its port, that
-- of its turns, and that of its channel's marks, where it has a channel
pub record ImportTerms : Type 0 where
  pub phase : PhaseTerms
  pub number : ℕ
  pub port : TableId × Terms TableOpening
  pub port_number : ℕ
  pub turns : TableId × Terms ℕ
  pub marks : Option (TableId × Terms ℕ)

abbrev pub rules_in : ImportTerms → Rules
rules_in key = rules_of key.phase.setup

-- the operations before the phase
abbrev pub past_ops : ImportTerms → List Op
past_ops key = ops_of (key.phase.past key.number)

-- the operations that these turns of the phase tell
abbrev pub ops_told : ImportTerms → List Entry → List Op
ops_told key es = ops_of (turns_told key.phase.lines es)

-- The protocol imports routes of its own. Its port alone has its changes, and the table began with
-- what it had accepted before the phase. All nets are of the table's family. Its turns have no
-- cursor, begin at 0, and each is of one of their hands.
pub record AreTerms (key : ImportTerms) (source : Source) : Type 0 where
  pub setup : IsSetup key.phase.setup
  pub protocol : Protocol
  pub protocol_is : protocol_at key.phase.setup key.number ≡ Some protocol
  pub body : protocol.body ≡ IsSource source
  pub mine : Contains (sources_of key.port.1.opening key.port_number) key.number
  pub alone : IsAlone (λ num. num == key.number) key.port.1.opening key.port_number
  pub opening :
      (net : Net) → at_first key.port.1.opening net key.number
      ≡ held (rules_in key) key.number (past_ops key) net
  pub fixed :
      AllByRecursion (λ f. family_of f.net.addr ≡ key.port.1.opening.family) source.spec.fixed
  pub past : AllByRecursion (IsOfFamily key.port.1.opening.family) (past_ops key)
  pub start : key.turns.1.start ≡ 0
  pub cursors : key.turns.1.cursors ≡ 0
  pub makers : key.turns.1.opening ≡ key.turns.1.makers

-- The hand of this number may record the line at a place: it is that of the line's actor, the
-- operation is the line's, and what it announces is of the table's family.
pub record IsLineOf (key : ImportTerms) (hand place : ℕ) (op : Op) : Type 0 where
  pub hand_is : hand ≡ hand_in key.phase.starter (line_at key.phase.lines place)
  pub op_is : (turn_in (line_at key.phase.lines place)).op ≡ op
  pub family : IsOfFamily key.port.1.opening.family op
