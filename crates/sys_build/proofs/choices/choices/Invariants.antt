use Rattle.std.proofs.Common.{◌≡◌, ◌++◌, ℕ, List, map, take}
use Rattle.conf_system.specs.contracts.passes.PassesJudge.TheImpl as passes
use Rattle.conf_system.specs.Policies.{Filter}
use Rattle.conf_system.specs.Seen.{filter_says, system_of}
use Rattle.sys_build.proofs.choices.choices.Given as goal

abbrev pub invariant-loop-condition : goal.invariant-loop-condition
invariant-loop-condition l =
    map (passes.ghosts).verdict l.choices.items ≡ map (λ (f : List ℕ × Filter). f.1) (system_of l.system).filters ++ map (filter_says l.system) (take l.condition-index l.conditions)
