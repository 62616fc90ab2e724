use Rattle.std.proofs.Common.{length}
use Rattle.conf_syntax.specs.View.{ended_row}
use Rattle.conf_tree.proofs.OptionSteps.{IsRow}
use Rattle.conf_tree.proofs.options.options.Given as goal

abbrev pub invariant-loop-end : goal.invariant-loop-end
invariant-loop-end g l = IsRow g.O.ProtocolOption.form l.depth_left l.words (ended_row g.O.ProtocolOption.tree l.options.items) l.rest

abbrev pub decreases-loop-end : goal.decreases-loop-end
decreases-loop-end g l = length l.rest
