use Rattle.std.proofs.Common.{◌≡◌, length}
use Rattle.core_machine.specs.Machine.{State}
use Rattle.core_machine.specs.Rounds.{turns_to}
use Rattle.core_setup.specs.Protocols.{rules_of}
use Rattle.core_setup.specs.Setup.{Setup}
use Rattle.run_tables.specs.Routes.{AreRoutes}
use Rattle.run_tables.proofs.routes.Routes.round.Given as goal

abbrev pub invariant-loop-number : goal.invariant-loop-number
invariant-loop-number g l =
    (length l.self.channels.items ≡ length l.fn.self.channels.items)
    × ((setup : Setup) (s : State) → AreRoutes g.J.Judge.verdict setup s l.fn.self
    → AreRoutes g.J.Judge.verdict setup (turns_to (rules_of setup) l.number s) l.self)
