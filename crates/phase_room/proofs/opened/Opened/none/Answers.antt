use Rattle.phase_room.proofs.Dealing.{of_each_none}
use Rattle.phase_room.specs.Opened.{IsCursorOf, IsPassOf, IsPortOf}
use Rattle.phase_room.proofs.opened.Opened.none.Goals as goal

pub returns-clause-opened : goal.returns-clause-opened
returns-clause-opened c = record {
  ports = of_each_none IsPortOf c.new.result.items c.in_ok-ports.ports.items c.new.ensures.items c.in_ok-ports.ensures.empty;
  cursors = of_each_none IsCursorOf c.new.result.items c.in_ok-cursors.cursors.items c.new.ensures.items c.in_ok-cursors.ensures.empty;
  passes = of_each_none IsPassOf c.new.result.items c.in_ok-passes.passes.items c.new.ensures.items c.in_ok-passes.ensures.empty;
}
