use Rattle.std.proofs.Common.{◌≡◌, ◌++◌, map}
use Rattle.sys_run.specs.Phase.{standing_in}
use Rattle.sys_run.proofs.phase.standing_of.Given as goal

abbrev pub invariant-loop-key : goal.invariant-loop-key
invariant-loop-key l =
    (l.standing ≡ map standing_in l.yielded)
    × (l.yielded ++ l.key-iterator.rest.items ≡ l.fn.values.items)
