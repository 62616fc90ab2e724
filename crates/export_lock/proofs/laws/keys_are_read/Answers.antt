use Rattle.std.proofs.Common.{refl}
use Rattle.export_lock.proofs.Feeding.{keys_are_read}
use Rattle.export_lock.proofs.laws.keys_are_read.Goals as goal

pub returns : goal.returns
returns g c = λ key state o. keys_are_read g.J.Judge.verdict key state o (o.stays refl)
