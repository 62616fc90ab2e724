use Rattle.export_lock.proofs.Flushing.{goes_on}
use Rattle.export_lock.proofs.laws.directions_go_on.Goals as goal

pub returns : goal.returns
returns g c = goes_on g.J.Judge.verdict
