use Rattle.std.proofs.Common.{◌≡◌, ℕ, length, take}
use Rattle.core_machine.specs.Ways.{Found}
use Rattle.sys_run.specs.Made.{AreFound, gone_all}
use Rattle.sys_run.proofs.ways.go_on.Given as goal

abbrev pub invariant-loop-direction : goal.invariant-loop-direction
invariant-loop-direction l =
    (length l.found.items ≡ length l.fn.found.items)
    × ((tables : ℕ) (f : Found) → AreFound tables l.fn.found.items f
    → AreFound tables l.found.items (gone_all l.len (take l.direction-index l.directions) f))
