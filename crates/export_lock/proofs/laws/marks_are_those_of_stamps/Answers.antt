use Rattle.export_lock.proofs.Marking.{stamps_marks}
use Rattle.export_lock.proofs.laws.marks_are_those_of_stamps.Goals as goal

pub returns : goal.returns
returns g c = λ every key state stamp. stamps_marks g.J.Judge.verdict key state stamp
