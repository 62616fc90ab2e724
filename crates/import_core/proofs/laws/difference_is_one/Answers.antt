use Rattle.import_core.proofs.Differences.{difference_one}
use Rattle.import_core.proofs.laws.difference_is_one.Goals as goal

pub returns : goal.returns
returns c = difference_one
