use Rattle.import_core.proofs.Differences.{real_from_nothing}
use Rattle.import_core.proofs.laws.changes_are_real.Goals as goal

pub returns : goal.returns
returns c = real_from_nothing
