use Rattle.std.proofs.Common.{◌≡◌, [], length}
use Rattle.sys_run.specs.Made.{AreLists}
use Rattle.sys_run.proofs.made.no_readers.Given as goal

abbrev pub invariant-loop : goal.invariant-loop
invariant-loop l = (length l.readers.items ≡ l.counter) × AreLists l.readers.items (λ c. [])
