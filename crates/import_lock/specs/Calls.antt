-- What the calls on an import lock's value do to it.
-- Not modelled: time, and who helped a cursor that had no room.
-- From: own.
-- Example: an operation of two changes makes the port's receipts longer by two, above all that it
-- had seen before.
use Rattle.std.specs.Prelude.{◌≡◌, ◌≤◌, ℕ, List, [], ◌∷◌, ◌++◌, Bool, Option, Some, None}
use Rattle.attrs.specs.declared.judge.Verdict.{Verdict}
use Rattle.attrs.specs.declared.route.Change.{Change}
use Rattle.attrs.specs.declared.route.Route.{Route}
use Rattle.bits_ip.specs.Prefix.{Net}
use Rattle.import_core.specs.declared.operation.Op.{Op}
use Rattle.import_core.specs.declared.step.Mark.{Mark}
use Rattle.jour.specs.Seats.{front, head_of, journal, number_of}
use Rattle.core_machine.specs.Rules.{Effect}
use Rattle.core_setup.specs.Protocols.{rules_of, signal_of}
use Rattle.phase_legal.specs.Changes.{AreAbove}
use Rattle.phase_legal.specs.Shown.{Room}
use Rattle.table_shared.specs.Answers.{IsEntered, IsFault}
use Rattle.table_shared.specs.declared.answers.UpdateFault.{UpdateFault}
use Rattle.import_lock.specs.Kept.{AreStamped, IsImporting, left}
use Rattle.import_lock.specs.Terms.{ImportTerms, IsLineOf, PhaseTerms, ops_told, past_ops, rules_in}
use Rattle.import_lock.specs.declared.state.ImportState.{ImportState}

module _ {J : Type 0} where
  -- Changes may have gone from those that wait to the table. All else is as before but for what
  -- the port has seen.
  pub record OnlySends (old new : ImportState J) : Type 0 where
    pub importer : new.importer ≡ old.importer
    pub ops : new.ops.items ≡ old.ops.items
    pub turns : new.turns ≡ old.turns
    pub stamp : new.stamp ≡ old.stamp
    pub fault : new.fault ≡ old.fault
    pub port : journal new.port ≡ journal old.port
    pub port_number : number_of new.port.1.role ≡ number_of old.port.1.role
    pub head : head_of old.port.1 ≤ head_of new.port.1

module _ {J : Type 0} (verdict : J → Net → Route → Verdict) where
  -- it is the value of some lock
  pub record IsHeld (state : ImportState J) : Type 0 where
    pub key : ImportTerms
    pub made : List (ℕ × Change)
    pub importing : IsImporting verdict key made state

  -- and the hand of this number may record there the line at a place
  pub record MayTurn (hand place : ℕ) (op : Op) (state : ImportState J) : Type 0 where
    pub key : ImportTerms
    pub made : List (ℕ × Change)
    pub importing : IsImporting verdict key made state
    pub line : IsLineOf key hand place op

  -- The port has made more, above all that it had seen. All else that the lock keeps is kept.
  pub record HasSent
      (key : ImportTerms) (made : List (ℕ × Change)) (old new : ImportState J) : Type 0 where
    pub more : List (ℕ × Change)
    pub importing : IsImporting verdict key (made ++ more) new
    pub above : AreAbove (head_of old.port.1) more

  -- Changes may have gone from those that wait to the table, and all that a lock keeps is kept.
  pub record Sends (old new : ImportState J) : Type 0 where
    pub only : OnlySends old new
    pub kept :
        (key : ImportTerms) (made : List (ℕ × Change)) → IsImporting verdict key made old
        → HasSent key made old new

  -- An operation was applied and recorded, and of the changes that wait then some may have gone to
  -- the table.
  pub record HasTurned
      (key : ImportTerms) (made : List (ℕ × Change)) (op : Op) (old new : ImportState J)
      : Type 0 where
    pub sent : HasSent key made old new
    pub ops : ops_told key (front new.turns.1) ≡ op ∷ ops_told key (front old.turns.1)

  -- All that the operations of the turns give is sent, and the channel has the marks of all but the
  -- last one, of which this mark is due.
  pub record IsDue
      (key : ImportTerms) (made : List (ℕ × Change)) (op : Op) (earlier : List Op) (mark : Mark)
      (state : ImportState J) : Type 0 where
    pub importing : IsImporting verdict key made state
    pub told : ops_told key (front state.turns.1) ≡ op ∷ earlier
    pub signal :
        signal_of mark ≡ ((rules_in key).gives key.number (earlier ++ past_ops key) op).signal
    pub stamped : AreStamped verdict key made earlier state

-- the signal of a mark, and whether a route was over the limit, are an effect's
pub record Tells (effect : Effect) (mark : Mark) (over : Bool) : Type 0 where
  pub signal : signal_of mark ≡ effect.signal
  pub over_is : over ≡ effect.over

module _ {J : Type 0} where
  -- the first change that waited is the port's entry at this position, or nothing waits
  abbrev pub SendsOne : Option ℕ → ImportState J → ImportState J → Type 0
  SendsOne None old new = (left old ≡ []) × (new ≡ old)
  SendsOne (Some at) old new =
      (c : Change) × (left old ≡ c ∷ left new) × IsEntered c old.port.1 new.port.1 at

  -- the table refused the first change that waited, which still waits
  pub record SendsNone (fault : UpdateFault) (old new : ImportState J) : Type 0 where
    pub first : Change
    pub waits : (others : List Change) × (left old ≡ first ∷ others)
    pub stays : left new ≡ left old
    pub because : IsFault first old.port.1 new.port.1 fault

  -- An operation may have been applied and recorded. The port, the stamp and the fault are as
  -- before.
  pub record OnlyPlans (old new : ImportState J) : Type 0 where
    pub port : new.port ≡ old.port
    pub stamp : new.stamp ≡ old.stamp
    pub fault : new.fault ≡ old.fault

  -- An operation may have been applied, recorded and sent. The stamp is as before, and the port has
  -- seen no less.
  pub record OnlyTurns (old new : ImportState J) : Type 0 where
    pub stamp : new.stamp ≡ old.stamp
    pub port : journal new.port ≡ journal old.port
    pub port_number : number_of new.port.1.role ≡ number_of old.port.1.role
    pub head : head_of old.port.1 ≤ head_of new.port.1

  -- What an operation did, as the turns tell it.
  pub record IsTold
      (key : ImportTerms) (op : Op) (mark : Mark) (over : Bool) (old new : ImportState J)
      : Type 0 where
    pub ops : ops_told key (front new.turns.1) ≡ op ∷ ops_told key (front old.turns.1)
    pub tells :
        Tells
        ((rules_in key).gives key.number (ops_told key (front old.turns.1) ++ past_ops key) op)
        mark over

-- the room is the phase's, as far as turns and what they give go
pub record IsRoomOf (phase : PhaseTerms) (room : Room) : Type 0 where
  pub rules : room.rules ≡ rules_of phase.setup
  pub lines : room.lines ≡ phase.lines
  pub past : room.past ≡ phase.past
