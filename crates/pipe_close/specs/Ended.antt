-- What a pipe has come to once its tables are closed too (`IsPipeEnded`): of each direction the port
-- has ended in the table that it writes, so that what it made is all that stands there under its
-- number, and what the cursor has seen begins what stands in the table that it reads
-- (`IsLaneEnded`).
-- Operations are read backwards; entries and records of operations are in their order.
-- Not modelled: other seats of the tables.
-- From: own.
-- Example: of a pipe from the table 0 to the table 1 the direction out has entered in 1 what it has
-- sent of 0, and has seen all entries of 0, some or none.
use Rattle.std.specs.Prelude.{◌≡◌, ℕ, List, ◌++◌, Some, slice_get}
use Rattle.atomic_table.specs.Seated.{TableId}
use Rattle.attrs.specs.declared.judge.Verdict.{Verdict}
use Rattle.attrs.specs.declared.route.Route.{Route}
use Rattle.bits_ip.specs.Prefix.{Net}
use Rattle.export_core.specs.States.{State}
use Rattle.import_core.specs.declared.operation.Op.{Op}
use Rattle.jour_rule.specs.declared.views.Entry.{Entry}
use Rattle.jour_rule.specs.declared.views.Terms.{Terms}
use Rattle.jour_rule.specs.declared.views.View.{View as Seat}
use Rattle.core_setup.specs.Protocols.{pipe_is_up}
use Rattle.table_shared.specs.Opening.{TableOpening}
use Rattle.table_shared.specs.Phases.{IsHeard, IsRetired as IsPortRetired}
use Rattle.phase_legal.specs.Shown.{AreBeside, HandView}
use Rattle.export_lock.specs.Lanes.{LaneTerms}
use Rattle.export_lock.specs.declared.lane.PipeLane.{PipeLane}
use Rattle.pipe_lock.specs.Terms.{DirectionTerms, PipeTerms, ops_told, past_ops}
use Rattle.phase_close.specs.Closed.{TableList}
use Rattle.phase_close.specs.Whole.{entries_at}
use Rattle.phase_pipes.specs.Left.{IsDirectionLeft}
use Rattle.phase_pipes.specs.Sessions.{IsDirectionIn}
use Rattle.pipe_close.specs.Left.{ArePipeTurns, IsPipeLeft, PipeLocks}
use Rattle.pipe_close.specs.declared.close.PipeLeft.{PipeLeft}
use Rattle.pipe_close.specs.declared.end.PipeEnded.{PipeEnded}

-- the table of this number has this journal
abbrev pub IsTableAt : List TableList → ℕ → TableId × Terms TableOpening → Type 0
IsTableAt lists place here =
    (entries : List Entry) × (slice_get lists place ≡ Some (here, entries))

-- these are the lists of these tables, in their order
abbrev pub AreListsOf : List (TableId × Terms TableOpening) → List TableList → Type 0
AreListsOf tables lists =
    AreBeside (λ (t : TableId × Terms TableOpening) (l : TableList). l.0 ≡ t) tables lists

module _ {J : Type 0} where
  -- the exporter of a direction without its cursor, which had seen what begins what stands in the
  -- table of this number
  pub record IsHeardLane
      (lists : List TableList) (reads : ℕ) (lane : PipeLane J) (exporter : State J)
      : Type 0 where
    pub exporter_is : exporter ≡ lane.state.exporter
    pub heard :
        IsHeard lane.state.cursor.0.1.seen.terms (entries_at lists reads)
        lane.state.cursor.0.1

module _ {J : Type 0} (verdict : J → Net → Route → Verdict) where
  -- The exporter of a direction, whose seats have ended in the tables of these numbers, behind these
  -- operations of its pipe.
  pub record IsLaneEnded
      (lists : List TableList) (reads writes : ℕ) (pipe : PipeTerms)
      (direction : DirectionTerms) (lane : LaneTerms) (ops : List Op) (exporter : State J)
      : Type 0 where
    pub stamp : TableId × Seat ℕ
    pub state : PipeLane J
    pub exporter_is : exporter ≡ state.state.exporter
    pub left :
        IsDirectionLeft verdict pipe direction lane ops stamp (entries_at lists writes) state
    pub heard : IsHeard lane.exports.table.1 (entries_at lists reads) state.state.cursor.0.1

  pub record IsPipeEnded
      (lists : List TableList) (key : PipeLocks) (hands : List HandView) (ended : PipeEnded J)
      : Type 0 where
    pub list : List Entry
    pub turns : ArePipeTurns key.pipe list hands ended.ops.items
    pub up : ended.up ≡ pipe_is_up (ops_told key.pipe list ++ past_ops key.pipe)
    pub out :
        IsLaneEnded lists ended.primary ended.peer key.pipe key.pipe.out key.out
        (ops_told key.pipe list) ended.out
    pub back :
        IsLaneEnded lists ended.peer ended.primary key.pipe key.pipe.back key.back
        (ops_told key.pipe list) ended.back

  -- a pipe between two of these tables
  pub record IsPipeOver
      (tables : List (TableId × Terms TableOpening)) (key : PipeLocks) (hands : List HandView)
      (left : PipeLeft J) : Type 0 where
    pub left_is : IsPipeLeft verdict key hands left
    pub out_is : IsDirectionIn key.pipe tables left.primary left.peer key.pipe.out key.out
    pub back_is : IsDirectionIn key.pipe tables left.peer left.primary key.pipe.back key.back

  -- it is one between two tables of these lists
  pub record CanEnd (lists : List TableList) (left : PipeLeft J) : Type 0 where
    pub tables : List (TableId × Terms TableOpening)
    pub lists_are : AreListsOf tables lists
    pub key : PipeLocks
    pub hands : List HandView
    pub over : IsPipeOver tables key hands left

  -- what was left has ended, with its directions' exporters and ports as they were
  pub record EndsPipe (lists : List TableList) (left : PipeLeft J) (ended : PipeEnded J)
      : Type 0 where
    pub primary_is : ended.primary ≡ left.primary
    pub peer_is : ended.peer ≡ left.peer
    pub out : IsHeardLane lists left.primary left.out ended.out
    pub back : IsHeardLane lists left.peer left.back ended.back
    pub out_port :
        IsPortRetired left.out.port.1.seen.terms (entries_at lists left.peer) left.out.port
    pub back_port :
        IsPortRetired left.back.port.1.seen.terms (entries_at lists left.primary) left.back.port
    pub pipe :
        (tables : List (TableId × Terms TableOpening)) → AreListsOf tables lists
        → (key : PipeLocks) (hands : List HandView) → IsPipeOver tables key hands left
        → IsPipeEnded lists key hands ended
