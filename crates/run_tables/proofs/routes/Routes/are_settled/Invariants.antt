use Rattle.std.proofs.Common.{ℕ, ◌<◌}
use Rattle.core_machine.specs.Machine.{State}
use Rattle.core_setup.specs.Setup.{Setup}
use Rattle.run_tables.specs.Routes.{AreRoutes}
use Rattle.run_tables.proofs.Obeying.{IsSettledAt}
use Rattle.run_tables.proofs.routes.Routes.are_settled.Given as goal

abbrev pub invariant-loop-number : goal.invariant-loop-number
invariant-loop-number g l =
    (setup : Setup) (s : State) (are : AreRoutes g.J.Judge.verdict setup s l.self) (i : ℕ) → i < l.number
    → IsSettledAt g.J.Judge.verdict setup s l.self are i
