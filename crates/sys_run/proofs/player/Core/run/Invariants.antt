use Rattle.std.proofs.Common.{◌≡◌, ◌++◌}
use Rattle.core_machine.specs.Legal.{Joined}
use Rattle.core_machine.specs.Machine.{Plays, State}
use Rattle.core_setup.specs.Protocols.{rules_of}
use Rattle.core_setup.specs.Setup.{Setup}
use Rattle.sys_run.specs.Cores.{IsCore, Keeps}
use Rattle.sys_run.specs.Scripts.{phase_of}
use Rattle.sys_run.proofs.player.Core.run.Given as goal

abbrev pub invariant-loop-line : goal.invariant-loop-line
invariant-loop-line g l =
    Keeps l.fn.self l.self
    × (l.yielded ++ l.line-iterator.rest.items ≡ l.fn.lines.items)
    × ((setup : Setup) (past : Joined) (s : State) → IsCore g.J.Judge.verdict setup past s l.fn.self
    → (t : State) × Plays (rules_of setup) (phase_of setup.queries l.yielded) s t × IsCore g.J.Judge.verdict setup past t l.self)
