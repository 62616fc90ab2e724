use Rattle.core_machine.proofs.Bound.{bound_by_ways}
use Rattle.core_machine.proofs.laws.rounds_go_by_ways.Goals as goal

pub returns : goal.returns
returns c = bound_by_ways
