use Rattle.std.proofs.Common.{◌≡◌, ◌≤◌, length}
use Rattle.filt_meaning.specs.Names.{place_in}
use Rattle.filt_resolve.specs.Levels.{joined}
use Rattle.filt_resolve.proofs.names.place_among.Given as goal

abbrev pub invariant-loop-left : goal.invariant-loop-left
invariant-loop-left l = (place_in (joined l.levels) l.name ≡ place_in (joined l.left) l.name) × (l.before ≡ length (joined l.left)) × (length l.left ≤ length l.levels)

abbrev pub decreases-loop-left : goal.decreases-loop-left
decreases-loop-left l = length l.left
