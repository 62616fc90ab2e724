-- What is known of a phase once its threads have returned (`HasEnded`): the turns of each protocol
-- are those of its starts and then of the actors' hands, each table's entries are real changes of
-- the sources of its ports, a protocol's changes are one port's alone, and before the phase a table
-- had of a protocol just what its operations give.
-- Not modelled: channels.
-- From: own.
-- Example: a phase of one line, `@p1 disable`, has one turn, and as many entries as the protocol
-- had routes.
use Rattle.std.specs.Prelude.{◌≡◌, ◌==◌, ℕ, ◌≤◌, List, [], ◌++◌, length, map, reverse, Some, slice_get}
use Rattle.atomic_table.specs.Seated.{TableId}
use Rattle.attrs.specs.declared.journal.JEntry.{JEntry}
use Rattle.attrs.specs.declared.route.Change.{Change}
use Rattle.jour_rule.specs.declared.views.Entry.{Entry}
use Rattle.jour_rule.specs.declared.views.Terms.{Terms}
use Rattle.jour_rule.specs.Journal.{receipts}
use Rattle.table_shared.specs.Opening.{TableOpening}
use Rattle.table_shared.specs.Records.{AreRecords, at_first, change_of}
use Rattle.core_machine.specs.Histories.{own}
use Rattle.core_machine.specs.Lines.{ops_of}
use Rattle.core_machine.specs.Rules.{changes}
use Rattle.phase_legal.specs.Changes.{IsAlone}
use Rattle.phase_legal.specs.Shown.{Room}
use Rattle.phase_legal.specs.Turns.{AreByHands, AreStarts, words_in}

-- A protocol's turns: those of its starts, and then those of others' hands.
pub record AreTurns (room : Room) (starter : ℕ) (begun rest : List Entry) : Type 0 where
  pub hands : AreByHands room.lines starter (begun ++ rest)
  pub starts : AreStarts begun
  pub start : ℕ
  pub ended :
      words_in (receipts start starter (begun ++ rest)) ≡ words_in (receipts start starter begun)

-- By protocol its turns, of which `begun` are starts; by table its entries, their records, and its
-- history before the phase.
pub record HasEnded
    (room : Room) (starter : ℕ) (begun rest : ℕ → List Entry) (entries : ℕ → List Entry)
    (said : ℕ → List JEntry) (before : ℕ → List Change) : Type 0 where
  pub turns : (i : ℕ) → AreTurns room starter (begun i) (rest i)
  pub beyond : (i : ℕ) → length room.turns ≤ i → rest i ≡ []
  pub ports : length room.ports ≡ length room.turns
  pub records :
      (t : ℕ) (table : TableId × Terms TableOpening) → slice_get room.tables t ≡ Some table
      → AreRecords table.1.opening (at_first table.1.opening) (entries t) (said t)
  pub starts :
      (t : ℕ) (table : TableId × Terms TableOpening) → slice_get room.tables t ≡ Some table
      → table.1.start ≡ length (before t)
  pub alone :
      (i port : ℕ) (table : TableId × Terms TableOpening) → slice_get room.ports i ≡ Some port
      → slice_get room.tables (room.rules.table i) ≡ Some table
      → IsAlone (λ num. num == i) table.1.opening port
  pub exact :
      (i : ℕ) → own i (before (room.rules.table i)) ≡ changes room.rules i (ops_of (room.past i))

-- the histories behind the phase
abbrev pub histories : (ℕ → List JEntry) → (ℕ → List Change) → ℕ → List Change
histories said before t = reverse (map change_of (said t)) ++ before t
