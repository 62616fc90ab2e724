-- What a mark makes of a channel (`HasMarked`), which comes up at the head at which its cursor was
-- started (`Starts`), and when a pipe's direction may take one (`MayMarkLane`): it goes down once all
-- that stood is withdrawn.
-- Logs of exporters and lists of marks are in their order.
-- From: BIRD User's Guide, "Pipe"; what goes down withdraws what it brought.
-- Example: a direction of which two routes stand may go down behind two withdrawals, and its list of
-- marks is then one longer.
use Rattle.std.specs.Prelude.{◌≡◌, ℕ, Bool, true, false, List, [], ◌++◌, map}
use mathlib.Core.List.{IsPrefix}
use Rattle.atomic_table.specs.Seated.{TableId}
use Rattle.attrs.specs.declared.judge.Verdict.{Verdict}
use Rattle.attrs.specs.declared.route.Route.{Route}
use Rattle.bits_ip.specs.Prefix.{Net}
use Rattle.core_machine.specs.Rules.{Fits, Signal, Stay, Rise, Fall, Renew}
use Rattle.export_core.specs.Calls.{begun, ended, refreshed}
use Rattle.export_core.specs.Standing.{is_open}
use Rattle.export_core.specs.States.{State}
use Rattle.export_core.specs.declared.log.Key.{Key}
use Rattle.jour_rule.specs.Moves.{entry, position_of}
use Rattle.jour_rule.specs.declared.views.Terms.{Terms}
use Rattle.jour_rule.specs.declared.views.View.{View as Seat}
use Rattle.jour.specs.Seats.{front, head_of, journal}
use Rattle.phase_legal.specs.Stamps.{items_of, mark_words}
use Rattle.table_shared.specs.Opening.{TableOpening}
use Rattle.export_lock.specs.Flushes.{IsWithdrawn}
use Rattle.export_lock.specs.Kept.{IsReady, MayMark}
use Rattle.export_lock.specs.declared.lane.PipeLane.{PipeLane}
use Rattle.export_lock.specs.declared.state.ExportState.{ExportState}

-- the keys that are withdrawn of what stands, behind a signal: behind a fall nothing stands
abbrev pub withdrawn_behind : Signal → List Key → List Key
withdrawn_behind Stay done = done
withdrawn_behind Rise done = done
withdrawn_behind Fall done = []
withdrawn_behind Renew done = done

module _ {J : Type 0} where
  -- the exporter behind a signal, which comes up at this head
  abbrev pub marked_by : Signal → (head : ℕ) → State J → State J
  marked_by Stay head e = e
  marked_by Rise head e = begun head e
  marked_by Fall head e = ended e
  marked_by Renew head e = refreshed e

  -- A signal came where it fits, was obeyed, and stands in the list of marks. What comes up stands
  -- at the head that its cursor has seen.
  pub record HasMarked (signal : Signal) (old new : ExportState J) : Type 0 where
    pub fits : Fits signal (is_open old.exporter.log)
    pub exporter :
        new.exporter ≡ marked_by signal (head_of new.cursor.0.1) old.exporter
    pub list :
        front new.marks.1
        ≡ front old.marks.1
        ++ map (λ x. entry 0 (mark_words x)) (items_of signal (head_of new.cursor.0.1))

  -- none was
  pub record IsUnmarked (old new : ExportState J) : Type 0 where
    pub exporter : new.exporter ≡ old.exporter
    pub list : front new.marks.1 ≡ front old.marks.1

  -- the same value with another cursor
  abbrev pub with_cursor : (TableId × Seat TableOpening) × Bool → ExportState J → ExportState J
  with_cursor reader state =
      record { exporter = state.exporter; cursor = reader; marks = state.marks }

-- a cursor was started at this head
pub record Starts (head : ℕ) (old new : (TableId × Seat TableOpening) × Bool) : Type 0 where
  pub here : journal new.0 ≡ journal old.0
  pub started : new.1 ≡ true
  pub position : position_of new.0.1.role ≡ head
  pub seen : head ≡ head_of new.0.1
  pub prefix : IsPrefix (front old.0.1) (front new.0.1)

module _ {J : Type 0} (verdict : J → Net → Route → Verdict) where
  -- The channel is down and may take a mark under this stamp, but that its cursor was started at this
  -- head.
  pub record HasStarted (head : ℕ) (stamp : TableId × Seat ℕ) (state : ExportState J) : Type 0 where
    pub before : (TableId × Seat TableOpening) × Bool
    pub ready : IsReady verdict stamp (with_cursor before state)
    pub down : is_open state.exporter.log ≡ false
    pub starts : Starts head before state.cursor

  -- A direction may take the signal. It goes down once all that stood is withdrawn, and sends all
  -- anew while nothing is being withdrawn.
  pub record MayMarkLane
      (table : TableId × Terms TableOpening) (signal : Signal) (stamp : TableId × Seat ℕ)
      (lane : PipeLane J) : Type 0 where
    pub may : MayMark verdict true table signal stamp lane.state
    pub withdrawn : signal ≡ Fall → IsWithdrawn lane.state
    pub running : signal ≡ Renew → lane.state.exporter.flushing ≡ false
