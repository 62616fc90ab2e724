use Rattle.std.proofs.Common.{◌≤◌}
use Rattle.core_machine.specs.Channels.{times}
use Rattle.core_machine.specs.Machine.{State, push_at}
use Rattle.core_setup.specs.Protocols.{rules_of}
use Rattle.core_setup.specs.Setup.{Setup}
use Rattle.run_tables.specs.Routes.{AreRoutes}
use Rattle.run_tables.proofs.routes.Routes.push_some.Given as goal

abbrev pub invariant-loop : goal.invariant-loop
invariant-loop g l =
    (l.counter ≤ l.fn.count)
    × ((setup : Setup) (s : State) → AreRoutes g.J.Judge.verdict setup s l.fn.self
    → AreRoutes g.J.Judge.verdict setup (times l.counter (push_at (rules_of setup) l.number) s) l.self)
