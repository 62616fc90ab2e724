use Rattle.core_machine.proofs.MarkOrder.{placed_by_count}
use Rattle.core_machine.proofs.laws.positions_are_told_by_counts.Goals as goal

pub returns : goal.returns
returns c = placed_by_count
