use Rattle.import_core.proofs.Sound.{always_sound}
use Rattle.import_core.proofs.laws.nothing_is_accepted_but_up.Goals as goal

pub returns : goal.returns
returns c = λ spec verdict ops off. (always_sound spec verdict ops).off off
