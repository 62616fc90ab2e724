use Rattle.std.proofs.Common.{[], take}
use Rattle.core_machine.specs.Legal.{Joined}
use Rattle.core_machine.specs.Machine.{Begins, State}
use Rattle.core_setup.specs.Protocols.{rules_of, starts_from}
use Rattle.core_setup.specs.Setup.{Setup}
use Rattle.sys_run.specs.Cores.{IsCore, Keeps}
use Rattle.sys_run.proofs.player.Core.start.Given as goal

abbrev pub invariant-loop-number : goal.invariant-loop-number
invariant-loop-number g l =
    Keeps l.fn.self l.self
    × ((setup : Setup) (past : Joined) (s : State) → IsCore g.J.Judge.verdict setup past s l.fn.self
    → (t : State) × Begins (rules_of setup) (starts_from 0 (take l.number setup.protocols) []) s t × IsCore g.J.Judge.verdict setup past t l.self)
