use Rattle.std.proofs.Common.{◌≡◌, ◌++◌}
use Rattle.core_machine.specs.Machine.{State, flushed}
use Rattle.core_setup.specs.Protocols.{rules_of}
use Rattle.core_setup.specs.Setup.{Setup}
use Rattle.run_tables.specs.Routes.{AreRoutes}
use Rattle.run_tables.proofs.routes.Routes.withdraw.Given as goal

abbrev pub invariant-loop-key : goal.invariant-loop-key
invariant-loop-key g l =
    (l.yielded ++ l.key-iterator.rest.items ≡ l.fn.keys.items)
    × ((setup : Setup) (s : State) → AreRoutes g.J.Judge.verdict setup s l.fn.self
    → AreRoutes g.J.Judge.verdict setup (flushed (rules_of setup) l.table l.yielded s) l.self)
