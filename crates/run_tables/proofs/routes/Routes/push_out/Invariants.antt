use Rattle.core_machine.specs.Machine.{State}
use Rattle.core_setup.specs.Protocols.{rules_of}
use Rattle.core_setup.specs.Setup.{Setup}
use Rattle.run_tables.specs.Routes.{AreRoutes}
use Rattle.run_tables.proofs.Pushing.{IsPushed, marks_at}
use Rattle.run_tables.proofs.routes.Routes.push_out.Given as goal

abbrev pub decreases-loop : goal.decreases-loop
decreases-loop g l = marks_at l.number l.self.channels.items

abbrev pub invariant-loop : goal.invariant-loop
invariant-loop g l =
    (setup : Setup) (s : State) → AreRoutes g.J.Judge.verdict setup s l.fn.self
    → (u : State) × AreRoutes g.J.Judge.verdict setup u l.self × IsPushed (rules_of setup) l.number s u
