use Rattle.std.proofs.Common.{◌≤◌, length}
use Rattle.export_core.proofs.Covered.{Covers}
use Rattle.export_core.proofs.marks.add_covered.Given as goal

abbrev pub invariant-loop-left : goal.invariant-loop-left
invariant-loop-left l =
    (l.from ≤ l.left) × (l.left ≤ length l.map.entries)
    × Covers l.range l.left l.map.entries l.fn.candidates.entries l.candidates.entries

abbrev pub decreases-loop-left : goal.decreases-loop-left
decreases-loop-left l = l.left
