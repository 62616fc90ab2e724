use Rattle.std.proofs.Common.{◌≡◌}
use Rattle.std.specs.Prelude.{take}
use Rattle.core_machine.specs.Machine.{State}
use Rattle.core_setup.specs.Protocols.{rules_of}
use Rattle.core_setup.specs.Setup.{Setup}
use Rattle.run_tables.specs.Routes.{AreRoutes, readers_at}
use Rattle.run_tables.proofs.RouteSteps.{rooms_in}
use Rattle.run_tables.proofs.routes.Routes.make_room.Given as goal

abbrev pub invariant-loop-place : goal.invariant-loop-place
invariant-loop-place g l =
    (l.self.readers ≡ l.fn.self.readers)
    × ((setup : Setup) (s : State) → AreRoutes g.J.Judge.verdict setup s l.fn.self
    → AreRoutes g.J.Judge.verdict setup (rooms_in (rules_of setup) l.table (take l.place (readers_at l.table l.fn.self)) s) l.self)
