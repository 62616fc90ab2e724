use Rattle.std.proofs.Common.{◌≡◌, length}
use Rattle.std.specs.Prelude.{map}
use Rattle.expr_syntax.specs.Rows.{row_tree}
use Rattle.conf_tree.specs.View.{statement_tree}
use Rattle.conf_tree.proofs.RowSteps.{IsRow}
use Rattle.conf_tree.proofs.config.config.Given as goal

abbrev pub invariant-loop-alloc : goal.invariant-loop-alloc
invariant-loop-alloc l = IsRow l.depth_left l.words (row_tree (map statement_tree l.statements.items)) l.rest × (l.unread ≡ length l.rest)

abbrev pub decreases-loop-alloc : goal.decreases-loop-alloc
decreases-loop-alloc l = length l.rest
