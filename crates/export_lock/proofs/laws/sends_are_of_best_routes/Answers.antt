use Rattle.export_lock.proofs.Feeding.{sent_of_best}
use Rattle.export_lock.proofs.laws.sends_are_of_best_routes.Goals as goal

pub returns : goal.returns
returns g c = sent_of_best c.course_tells_best.ensures c.sends_are_right.ensures g.J.Judge.verdict
