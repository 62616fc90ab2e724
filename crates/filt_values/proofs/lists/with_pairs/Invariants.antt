use Rattle.std.proofs.Common.{◌≡◌}
use Rattle.std.specs.Prelude.{drop}
use Rattle.filt_meaning.specs.Operators.{with_pairs}
use Rattle.filt_values.proofs.lists.with_pairs.Given as goal

abbrev pub invariant-loop-first : goal.invariant-loop-first
invariant-loop-first l = with_pairs l.fn.list l.fn.pairs ≡ with_pairs l.list (drop l.first-index l.fn.pairs)
