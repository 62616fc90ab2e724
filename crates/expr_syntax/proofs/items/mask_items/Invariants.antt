use Rattle.std.proofs.Common.{◌≡◌, length}
use Rattle.expr_syntax.specs.ItemView.{mask_items_tree}
use Rattle.expr_syntax.specs.ItemReaders.{mask_items_at, mask_row_at}
use Rattle.expr_syntax.proofs.items.mask_items.Given as goal

abbrev pub invariant-loop-rest : goal.invariant-loop-rest
invariant-loop-rest l = mask_items_at 0 l.words ≡ mask_row_at (mask_items_tree l.found.items) l.rest

abbrev pub decreases-loop-rest : goal.decreases-loop-rest
decreases-loop-rest l = length l.rest
