-- What is left of a pipe once its phase has ended (`IsPipeLeft`): its turns are one list, of which
-- each hand has its own (`ArePipeTurns`), it is up where they say so, and of each direction the stamp
-- has seen all marks, and nothing is being withdrawn (`IsLaneLeft`).
-- Operations are read backwards; entries and records of operations are in their order.
-- Not modelled: phases with a fault, which are cut off; protocols with routes of their own, of which
-- phase_close says what is left.
-- From: own.
-- Example: a pipe that was switched off in a phase has one turn and is down, and each of its
-- directions has one mark, a down.
use Rattle.std.specs.Prelude.{◌≡◌, ℕ, false, List, ◌++◌, map, reverse}
use Rattle.std.specs.List.{AllByRecursion}
use Rattle.atomic_table.specs.Seated.{TableId}
use Rattle.attrs.specs.declared.judge.Verdict.{Verdict}
use Rattle.attrs.specs.declared.route.Route.{Route}
use Rattle.bits_ip.specs.Prefix.{Net}
use Rattle.import_core.specs.declared.operation.Op.{Op}
use Rattle.jour_rule.specs.Laws.{AreOfMakers}
use Rattle.jour_rule.specs.declared.views.Entry.{Entry}
use Rattle.jour_rule.specs.declared.views.View.{View as Seat}
use Rattle.jour.specs.Seats.{front, journal, number_of, own}
use Rattle.core_setup.specs.Protocols.{pipe_is_up}
use Rattle.core_setup.specs.Reports.{dones}
use Rattle.phase_legal.specs.Shown.{HandView}
use Rattle.phase_legal.specs.Turns.{AreByHands, place_of}
use Rattle.import_lock.specs.declared.state.OpRecord.{OpRecord}
use Rattle.export_lock.specs.Lanes.{IsSomeLane, LaneTerms}
use Rattle.export_lock.specs.declared.lane.PipeLane.{PipeLane}
use Rattle.pipe_lock.specs.Kept.{IsMarked}
use Rattle.pipe_lock.specs.Terms.{DirectionTerms, PipeTerms, ops_told, past_ops, rules_in}
use Rattle.phase_close.specs.Retired.{IsRetired}
use Rattle.phase_pipes.specs.Sessions.{IsClosed}
use Rattle.phase_pipes.specs.declared.session.ClosedPipe.{ClosedPipe}
use Rattle.pipe_close.specs.declared.close.PipeLeft.{PipeLeft}

-- the locks of a pipe and of its directions
pub record PipeLocks : Type 0 where
  pub pipe : PipeTerms
  pub out : LaneTerms
  pub back : LaneTerms

-- all turns of a pipe: what hands say of them, and their records
pub record ArePipeTurns
    (key : PipeTerms) (list : List Entry) (hands : List HandView) (ops : List OpRecord)
    : Type 0 where
  pub by_hands : AreByHands key.phase.lines key.phase.starter list
  pub retired : AllByRecursion (IsRetired key.turns list) hands
  pub lines : map (λ r. r.line) ops ≡ map place_of list
  pub over :
      map (λ r. r.over) ops
      ≡ reverse (map (λ d. d.over) (dones (rules_in key) key.number (past_ops key)
      (ops_told key list)))

-- A stamp that is told of these marks has seen them all, and has marked what it had.
pub record IsStampTold (list : List Entry) (stamp : TableId × Seat ℕ) : Type 0 where
  pub told : TableId × Seat ℕ
  pub number : number_of told.1.role ≡ number_of stamp.1.role
  pub marked : own told.1 ≡ own stamp.1
  pub seen : front told.1 ≡ list

module _ {J : Type 0} (verdict : J → Net → Route → Verdict) where
  -- What lay under the locks of a pipe, whose turns these hands are of. The marks of its directions
  -- are under its stamps.
  pub record IsClosing (key : PipeLocks) (hands : List HandView) (closed : ClosedPipe J)
      : Type 0 where
    pub closed_is : IsClosed verdict key.pipe key.out key.back closed
    pub out_marks : key.out.exports.marks ≡ key.pipe.out.marks
    pub back_marks : key.back.exports.marks ≡ key.pipe.back.marks
    pub hands_are : AllByRecursion (λ hand. journal hand ≡ key.pipe.turns) hands

  -- a direction of a pipe, whose operations of the phase these are
  pub record IsLaneLeft
      (pipe : PipeTerms) (direction : DirectionTerms) (lane : LaneTerms) (ops : List Op)
      (state : PipeLane J) : Type 0 where
    pub stamp : TableId × Seat ℕ
    pub marked : IsMarked pipe direction ops stamp
    pub lane_is : IsSomeLane verdict lane state
    pub rest : state.state.exporter.flushing ≡ false
    pub told : front stamp.1 ≡ front state.state.marks.1
    pub makers : AreOfMakers lane.exports.marks.1.opening (front state.state.marks.1)

  pub record IsPipeLeft (key : PipeLocks) (hands : List HandView) (left : PipeLeft J)
      : Type 0 where
    pub list : List Entry
    pub turns : ArePipeTurns key.pipe list hands left.ops.items
    pub up : left.up ≡ pipe_is_up (ops_told key.pipe list ++ past_ops key.pipe)
    pub out : IsLaneLeft key.pipe key.pipe.out key.out (ops_told key.pipe list) left.out
    pub back : IsLaneLeft key.pipe key.pipe.back key.back (ops_told key.pipe list) left.back
