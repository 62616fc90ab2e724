use Rattle.std.proofs.Common.{◌≡◌, ◌++◌, reverse}
use Rattle.core_machine.specs.Machine.{State, appended}
use Rattle.core_setup.specs.Protocols.{rules_of}
use Rattle.core_setup.specs.Setup.{Setup}
use Rattle.run_tables.specs.Routes.{AreRoutes}
use Rattle.run_tables.proofs.routes.Routes.append_all.Given as goal

abbrev pub invariant-loop-change : goal.invariant-loop-change
invariant-loop-change g l =
    (l.yielded ++ l.change-iterator.rest.items ≡ l.fn.changes.items)
    × ((setup : Setup) (s : State) → AreRoutes g.J.Judge.verdict setup s l.fn.self
    → AreRoutes g.J.Judge.verdict setup (appended (rules_of setup) l.table (reverse l.yielded) s) l.self)
