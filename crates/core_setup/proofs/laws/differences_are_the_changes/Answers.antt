use Rattle.core_setup.proofs.Differing.{differences_are}
use Rattle.core_setup.proofs.laws.differences_are_the_changes.Goals as goal

pub returns : goal.returns
returns c = λ num before later _ _. differences_are num before later
