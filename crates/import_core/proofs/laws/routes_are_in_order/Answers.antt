use Rattle.import_core.proofs.Sound.{always_sound}
use Rattle.import_core.proofs.laws.routes_are_in_order.Goals as goal

pub returns : goal.returns
returns c = λ spec verdict ops. let s = always_sound spec verdict ops in (s.received, s.accepted)
