-- What is left of a pipe's direction once its phase has ended without a fault (`IsDirectionLeft`):
-- its lock is open and nothing is being withdrawn, its stamp has seen all its marks, and its port has
-- ended in the table that it writes, of which these are all entries.
-- Operations are read backwards; entries are in their order.
-- Not modelled: phases with a fault, which are cut off.
-- From: own.
-- Example: behind a phase in which a pipe was switched off its directions have each one mark, a down,
-- and have withdrawn all that they had sent.
use Rattle.std.specs.Prelude.{◌≡◌, ℕ, false, List}
use Rattle.atomic_table.specs.Seated.{TableId}
use Rattle.attrs.specs.declared.judge.Verdict.{Verdict}
use Rattle.attrs.specs.declared.route.Route.{Route}
use Rattle.bits_ip.specs.Prefix.{Net}
use Rattle.export_lock.specs.Lanes.{IsSomeLane, LaneTerms}
use Rattle.export_lock.specs.declared.lane.PipeLane.{PipeLane}
use Rattle.import_core.specs.declared.operation.Op.{Op}
use Rattle.jour_rule.specs.Laws.{AreOfMakers}
use Rattle.jour_rule.specs.declared.views.Entry.{Entry}
use Rattle.jour_rule.specs.declared.views.View.{View as Seat}
use Rattle.jour.specs.Seats.{front}
use Rattle.pipe_lock.specs.Kept.{IsMarked}
use Rattle.pipe_lock.specs.Terms.{DirectionTerms, PipeTerms}
use Rattle.table_shared.specs.Phases.{IsRetired}

-- of this direction of the pipe, whose operations of the phase these are
pub record IsDirectionLeft
    {J : Type 0} (verdict : J → Net → Route → Verdict) (pipe : PipeTerms)
    (direction : DirectionTerms) (lane : LaneTerms) (ops : List Op) (stamp : TableId × Seat ℕ)
    (entries : List Entry) (state : PipeLane J) : Type 0 where
  pub marked : IsMarked pipe direction ops stamp
  pub lane_is : IsSomeLane verdict lane state
  pub rest : state.state.exporter.flushing ≡ false
  pub told : front stamp.1 ≡ front state.state.marks.1
  pub makers : AreOfMakers lane.exports.marks.1.opening (front state.state.marks.1)
  pub retired : IsRetired lane.target.1 entries state.port
