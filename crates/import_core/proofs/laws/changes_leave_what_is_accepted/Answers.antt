use Rattle.import_core.proofs.Differences.{leave_from_nothing}
use Rattle.import_core.proofs.laws.changes_leave_what_is_accepted.Goals as goal

pub returns : goal.returns
returns c = leave_from_nothing
