-- What the calls on the value of a pipe's import lock do to it.
-- Not modelled: time, and who helped a cursor that had no room while a direction withdrew.
-- From: own.
-- Example: where the direction back refuses its mark, the other's stamp has one receipt more.
use Rattle.std.specs.Prelude.{◌≡◌, ℕ, ◌≤◌, List, ◌∷◌, ◌++◌, map}
use Rattle.atomic_table.specs.Seated.{TableId}
use Rattle.import_core.specs.declared.operation.Op.{Op}
use Rattle.import_core.specs.declared.step.Mark.{Mark}
use Rattle.jour_rule.specs.declared.views.Terms.{Terms}
use Rattle.jour_rule.specs.declared.views.View.{View as Seat}
use Rattle.jour.specs.Seats.{front, journal, number_of, own}
use Rattle.core_machine.specs.Rules.{Signal}
use Rattle.core_setup.specs.Protocols.{signal_of}
use Rattle.phase_legal.specs.Stamps.{items_of, mark_words}
use Rattle.phase_legal.specs.Turns.{words_in}
use Rattle.table_shared.specs.Opening.{TableOpening}
use Rattle.pipe_lock.specs.Kept.{AreMarked, IsPiping}
use Rattle.pipe_lock.specs.Terms.{IsLineOf, PipeTerms, ops_told, past_ops, rules_in}
use Rattle.pipe_lock.specs.declared.state.PipeState.{PipeState}

-- the same stamp, whatever it has marked
pub record IsSameStamp (old new : TableId × Seat ℕ) : Type 0 where
  pub here : journal new ≡ journal old
  pub number : number_of new.1.role ≡ number_of old.1.role

-- The stamp has marked a signal. An up stands in the phase of the table that is read.
pub record HasStamped
    (table : TableId × Terms TableOpening) (signal : Signal) (old new : TableId × Seat ℕ)
    : Type 0 where
  pub head : ℕ
  pub least : table.1.start ≤ head
  pub said :
      words_in (own new.1) ≡ words_in (own old.1) ++ map mark_words (items_of signal head)

-- The value is that of some lock, and the hand of this number may record there the line at a place.
pub record MayTurn (hand place : ℕ) (op : Op) (state : PipeState) : Type 0 where
  pub key : PipeTerms
  pub piping : IsPiping key state
  pub line : IsLineOf key hand place op

-- An operation may have been recorded. All else is as before, but for whether the pipe is up.
pub record OnlyPlans (old new : PipeState) : Type 0 where
  pub out : new.out ≡ old.out
  pub back : new.back ≡ old.back
  pub fault : new.fault ≡ old.fault

-- nor was one
pub record IsUnplanned (old new : PipeState) : Type 0 where
  pub up : new.up ≡ old.up
  pub ops : new.ops.items ≡ old.ops.items
  pub turns : new.turns ≡ old.turns

-- The stamps may have marked. All else is as before.
pub record OnlyMarks (old new : PipeState) : Type 0 where
  pub up : new.up ≡ old.up
  pub ops : new.ops ≡ old.ops
  pub turns : new.turns ≡ old.turns
  pub out : IsSameStamp old.out new.out
  pub back : IsSameStamp old.back new.back

-- The directions have the marks of all operations but the last one, of which this mark is due.
pub record IsDue
    (key : PipeTerms) (op : Op) (earlier : List Op) (mark : Mark) (state : PipeState)
    : Type 0 where
  pub piping : IsPiping key state
  pub told : ops_told key (front state.turns.1) ≡ op ∷ earlier
  pub signal : signal_of mark ≡ ((rules_in key).gives key.number (earlier ++ past_ops key) op).signal
  pub marked : AreMarked key earlier state
