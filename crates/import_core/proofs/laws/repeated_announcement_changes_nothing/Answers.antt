use Rattle.import_core.proofs.Repeats.{repeated}
use Rattle.import_core.proofs.laws.repeated_announcement_changes_nothing.Goals as goal

pub returns : goal.returns
returns c = λ spec verdict net given i changes is. repeated spec verdict net given i changes is
