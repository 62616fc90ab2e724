use Rattle.phase_ends.proofs.Chosen.{tells_chosen}
use Rattle.phase_ends.proofs.laws.what_is_best_is_chosen.Goals as goal

pub returns : goal.returns
returns c = tells_chosen
