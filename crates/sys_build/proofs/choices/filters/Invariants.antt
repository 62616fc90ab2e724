use Rattle.std.proofs.Common.{◌≡◌, ℕ, List, map, take}
use Rattle.conf_system.specs.contracts.passes.PassesJudge.TheImpl as passes
use Rattle.conf_system.specs.Policies.{Filter}
use Rattle.conf_system.specs.Seen.{system_of}
use Rattle.sys_build.proofs.choices.filters.Given as goal

abbrev pub invariant-loop-number : goal.invariant-loop-number
invariant-loop-number l = map (passes.ghosts).verdict l.filters.items ≡ take l.number (map (λ (f : List ℕ × Filter). f.1) (system_of l.system).filters)
