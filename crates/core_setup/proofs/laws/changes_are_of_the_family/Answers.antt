use Rattle.core_setup.proofs.Admitted.{families_are}
use Rattle.core_setup.proofs.laws.changes_are_of_the_family.Goals as goal

pub returns : goal.returns
returns c = families_are
