use Rattle.core_machine.proofs.Beginnings.{best_is_best}
use Rattle.core_machine.proofs.laws.the_best_is_chosen.Goals as goal

pub returns : goal.returns
returns c = best_is_best
