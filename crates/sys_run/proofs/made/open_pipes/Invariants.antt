use Rattle.std.proofs.Common.{◌≡◌, length}
use Rattle.core_setup.specs.Protocols.{rules_of}
use Rattle.core_setup.specs.Setup.{Setup}
use Rattle.run_tables.specs.Routes.{AreRoutes}
use Rattle.sys_run.specs.Made.{opened_to}
use Rattle.sys_run.proofs.made.open_pipes.Given as goal

abbrev pub invariant-loop-number : goal.invariant-loop-number
invariant-loop-number g l =
    (length l.routes.channels.items ≡ length l.fn.routes.channels.items)
    × ((setup : Setup) → AreRoutes g.J.Judge.verdict setup (opened_to (rules_of setup) 0) l.fn.routes
    → AreRoutes g.J.Judge.verdict setup (opened_to (rules_of setup) l.number) l.routes)
