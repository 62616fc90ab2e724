use Rattle.import_core.proofs.Sound.{always_sound}
use Rattle.import_core.proofs.laws.limit_is_kept.Goals as goal

pub returns : goal.returns
returns c = λ spec verdict ops limit e hard. (always_sound spec verdict ops).within limit e hard
