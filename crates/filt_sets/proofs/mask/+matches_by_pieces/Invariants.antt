use Rattle.std.proofs.Common.{◌≡◌, length}
use Rattle.filt_sets.specs.Search.{before, cuts}
use Rattle.filt_sets.proofs.mask.+matches_by_pieces.Given as goal

abbrev pub decreases-matches_by_pieces : goal.decreases-matches_by_pieces
decreases-matches_by_pieces l = length l.items.now

abbrev pub invariant-loop-left : goal.invariant-loop-left
invariant-loop-left l = before l.item (cuts l.later) l.left ≡ cuts l.fn.items l.fn.path

abbrev pub decreases-loop-left : goal.decreases-loop-left
decreases-loop-left l = length l.left
