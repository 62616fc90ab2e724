use Rattle.std.proofs.Common.{◌≡◌, ◌≤◌, ◌-◌}
use Rattle.core_machine.specs.Machine.{AllObey, State}
use Rattle.core_setup.specs.Protocols.{rules_of, signal_of}
use Rattle.core_setup.specs.Setup.{Setup}
use Rattle.run_tables.specs.Routes.{AreRoutes}
use Rattle.sys_run.specs.Cores.{AllFit, counted}
use Rattle.sys_run.proofs.player.Core.obey.Given as goal

abbrev pub invariant-loop-channel : goal.invariant-loop-channel
invariant-loop-channel g l =
    (l.self ≡ record l.fn.self { routes = l.self.routes })
    × (l.channel - l.from ≤ l.upto - l.from)
    × ((setup : Setup) (s : State) → AreRoutes g.J.Judge.verdict setup s l.fn.self.routes
    → AllFit (signal_of l.fn.mark) l.from l.upto s
    → (t : State)
    × AllObey (signal_of l.fn.mark) (rules_of setup) (counted l.from (l.channel - l.from)) s t
    × AreRoutes g.J.Judge.verdict setup t l.self.routes)
