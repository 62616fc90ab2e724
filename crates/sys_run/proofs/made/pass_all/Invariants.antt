use Rattle.std.proofs.Common.{◌≡◌, ℕ, List, length, take}
use Rattle.core_machine.specs.Ways.{Found}
use Rattle.sys_run.specs.Made.{AreFound, AreLists, given_all}
use Rattle.sys_run.proofs.made.pass_all.Given as goal

abbrev pub invariant-loop-direction : goal.invariant-loop-direction
invariant-loop-direction l =
    (length l.passed.items ≡ length l.fn.passed.items)
    × ((tables : ℕ) (f : Found) (lists : ℕ → List ℕ) → AreFound tables l.found f → AreLists l.fn.passed.items lists
    → AreLists l.passed.items (given_all f l.number (take l.direction-index l.directions) lists))
