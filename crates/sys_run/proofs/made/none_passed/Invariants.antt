use Rattle.std.proofs.Common.{◌≡◌, [], length}
use Rattle.sys_run.specs.Made.{AreLists}
use Rattle.sys_run.proofs.made.none_passed.Given as goal

abbrev pub invariant-loop : goal.invariant-loop
invariant-loop l = (length l.passed.items ≡ l.counter) × AreLists l.passed.items (λ c. [])
