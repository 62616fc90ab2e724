use Rattle.import_core.proofs.Sound.{always_sound}
use Rattle.import_core.proofs.laws.accepted_is_what_the_filter_leaves.Goals as goal

pub returns : goal.returns
returns c = λ spec verdict ops net limit up. (always_sound spec verdict ops).whole limit up net
