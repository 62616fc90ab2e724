use Rattle.std.proofs.Common.{◌≡◌, ◌++◌, List, length}
use Rattle.core_setup.specs.Setup.{Setup}
use Rattle.phase_open.specs.declared.standing.StandingTable.{StandingTable}
use Rattle.room_open.specs.Laid.{AreTablesOpen}
use Rattle.room_open.specs.Sources.{AreCounts}
use Rattle.room_open.proofs.tables.open_tables.Given as goal

abbrev pub invariant-loop-stood : goal.invariant-loop-stood
invariant-loop-stood g l = record {
  done : List StandingTable;
  all : done ++ l.stood-iterator.rest.items ≡ l.fn.tables.items;
  opened_are : (setup : Setup) → AreCounts setup l.fn.channels l.members → length l.fn.tables.items ≡ length setup.tables
      → AreTablesOpen setup l.members l.fn.actors done l.opened l.before.items;
}
