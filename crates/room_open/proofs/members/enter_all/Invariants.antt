use Rattle.std.proofs.Common.{◌≡◌, ◌++◌, List, length}
use Rattle.room_open.specs.Laid.{AreEntered, AreLaterCursors, CanEnterAll}
use Rattle.room_open.specs.Lists.{AreLater}
use Rattle.room_open.specs.declared.standing.StandingMember.{StandingMember}
use Rattle.phase_open.specs.declared.standing.StandingTable.{StandingTable}
use Rattle.room_open.proofs.members.enter_all.Given as goal

abbrev pub invariant-loop-held : goal.invariant-loop-held
invariant-loop-held g l = record {
  done : List (StandingMember g.row.J.Denot);
  all : done ++ l.held-iterator.rest.items ≡ l.fn.members.items;
  number_is : l.number ≡ length done;
  ports_are : AreLater (length done) l.fn.ports.items l.ports.items;
  cursors_are : AreLaterCursors (g.P.Phase.terms l.played).setup (length done) l.fn.cursors.items l.cursors.items;
  entered : (stood : List StandingTable)
      → CanEnterAll g.J.Judge.verdict (g.P.Phase.terms l.played) (g.P.Sends.exports l.played) stood l.fn.begun.room.tables.items l.before.items l.fn.cursors.items l.fn.ports.items l.fn.members.items
      → AreEntered g.P.Phase.terms g.P.Sends.exports g.P.Sends.rules l.played stood l.fn.begun.room.tables.items done l.begun;
}
