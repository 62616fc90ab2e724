use Rattle.import_core.proofs.Sound.{always_sound}
use Rattle.import_core.proofs.laws.accepted_is_filtered.Goals as goal

pub returns : goal.returns
returns c = λ spec verdict ops net route e. (always_sound spec verdict ops).filtered net route e
