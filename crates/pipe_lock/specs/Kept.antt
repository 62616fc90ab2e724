-- What a pipe's import lock keeps of its value (`IsFree`): the pipe is up where its operations say
-- so, which are those that its turns tell; and the stamps of both directions have marked what they
-- signal, whenever the lock is free. Where a fault came, at most the last operation's mark is
-- wanting in a direction, and nothing else is lost.
-- Lists of operations are read backwards; records, entries and receipts are in their order.
-- Not modelled: what directions withdraw and send, which their own locks keep.
-- From: BIRD User's Guide, "Pipe" and "Remote control"; the rest is own.
-- Example: a pipe that was up is switched off and on again. Its turns tell `enable` before
-- `disable`, read backwards, and each stamp has marked a down and then an up at some position. In
-- between the pipe is down, and a `reload` there would mark nothing.
use Rattle.std.specs.Prelude.{◌≡◌, ℕ, ◌≤◌, List, [], ◌++◌, length, map, reverse, None}
use Rattle.atomic_table.specs.Seated.{TableId}
use Rattle.import_core.specs.declared.operation.Op.{Op}
use Rattle.jour_rule.specs.declared.views.View.{View as Seat}
use Rattle.jour.specs.Seats.{front, journal, number_of}
use Rattle.core_setup.specs.Protocols.{pipe_is_up}
use Rattle.core_setup.specs.Reports.{dones}
use Rattle.phase_legal.specs.Stamps.{AreFrom, AreStamps, notices_from}
use Rattle.phase_legal.specs.Turns.{AreByHands, place_of}
use Rattle.import_lock.specs.Kept.{items_of_stamp}
use Rattle.pipe_lock.specs.Terms.{AreTerms, DirectionTerms, PipeTerms, ops_told, past_ops, rules_in}
use Rattle.pipe_lock.specs.declared.state.PipeState.{PipeState}

-- The value is the lock's.
pub record IsPiping (key : PipeTerms) (state : PipeState) : Type 0 where
  pub terms : AreTerms key
  pub up : state.up ≡ pipe_is_up (ops_told key (front state.turns.1) ++ past_ops key)
  pub turns : journal state.turns ≡ key.turns
  pub out : journal state.out ≡ key.out.marks
  pub back : journal state.back ≡ key.back.marks
  -- its operations are those of its turns, each recorded by the hand of its line
  pub hands : AreByHands key.phase.lines key.phase.starter (front state.turns.1)
  pub lines : map (λ r. r.line) state.ops.items ≡ map place_of (front state.turns.1)
  pub over :
      map (λ r. r.over) state.ops.items
      ≡ reverse (map (λ d. d.over) (dones (rules_in key) key.number (past_ops key)
      (ops_told key (front state.turns.1))))

-- A direction's stamp has marked what these operations signal, and no up stands before the phase.
-- Where in the phase an up stands is free, since a direction writes a table.
pub record IsMarked
    (key : PipeTerms) (direction : DirectionTerms) (ops : List Op) (stamp : TableId × Seat ℕ)
    : Type 0 where
  pub number : number_of stamp.1.role ≡ 0
  pub are :
      AreStamps (rules_in key) key.number (past_ops key)
      ((rules_in key).target direction.number) [] (items_of_stamp stamp)
      (notices_from (rules_in key) key.number (past_ops key) ops)
  pub behind : AreFrom direction.table.1.start (items_of_stamp stamp)

-- it is behind at most by the last of the operations
pub record IsMarkedSoFar
    (key : PipeTerms) (direction : DirectionTerms) (ops : List Op) (stamp : TableId × Seat ℕ)
    : Type 0 where
  pub late : List Op
  pub before : List Op
  pub few : length late ≤ 1
  pub all : ops ≡ late ++ before
  pub marked : IsMarked key direction before stamp

-- both stamps have marked what these operations signal
pub record AreMarked (key : PipeTerms) (ops : List Op) (state : PipeState) : Type 0 where
  pub out : IsMarked key key.out ops state.out
  pub back : IsMarked key key.back ops state.back

pub record AreMarkedSoFar (key : PipeTerms) (ops : List Op) (state : PipeState) : Type 0 where
  pub out : IsMarkedSoFar key key.out ops state.out
  pub back : IsMarkedSoFar key key.back ops state.back

-- Whenever the lock is free all is marked, unless there was a fault.
pub record IsFree (key : PipeTerms) (state : PipeState) : Type 0 where
  pub piping : IsPiping key state
  pub marked : state.fault ≡ None → AreMarked key (ops_told key (front state.turns.1)) state
  pub so_far : AreMarkedSoFar key (ops_told key (front state.turns.1)) state
