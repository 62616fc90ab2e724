use Rattle.core_machine.proofs.Rounds.{ends}
use Rattle.core_machine.proofs.laws.syncs_end.Goals as goal

pub returns : goal.returns
returns c = ends
