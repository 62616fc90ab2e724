use Rattle.core_machine.proofs.Beginnings.{real_changes}
use Rattle.core_machine.proofs.laws.changes_are_real.Goals as goal

pub returns : goal.returns
returns c = real_changes
