use Rattle.std.proofs.Common.{length}
use Rattle.filt_sets.specs.Search.{AreLeft}
use Rattle.filt_sets.proofs.covering.has_covering.Given as goal

abbrev pub invariant-loop-front : goal.invariant-loop-front
invariant-loop-front l = AreLeft l.net l.items l.front

abbrev pub decreases-loop-front : goal.decreases-loop-front
decreases-loop-front l = length l.front
