use Rattle.std.proofs.Common.{◌≡◌, List, ◌++◌, length}
use Rattle.filt_sets.specs.declared.mask.MaskItem.{MaskItem}
use Rattle.filt_sets.specs.Search.{cuts, Tells}
use Rattle.filt_sets.proofs.mask.matches_by_places.Given as goal

abbrev pub invariant-loop-left : goal.invariant-loop-left
invariant-loop-left l = (gone : List MaskItem) × (l.items ≡ l.left ++ gone) × Tells (cuts gone) l.path l.marks

abbrev pub decreases-loop-left : goal.decreases-loop-left
decreases-loop-left l = length l.left
