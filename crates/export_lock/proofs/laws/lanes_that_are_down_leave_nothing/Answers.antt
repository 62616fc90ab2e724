use Rattle.export_lock.proofs.LaneMarks.{done_none, nothing_there, stands_none}
use Rattle.export_lock.proofs.laws.lanes_that_are_down_leave_nothing.Goals as goal

pub returns : goal.returns
returns g c = λ done key lane o law down. (
  done_none g.J.Judge.verdict done key lane o law down,
  λ k. (stands_none g.J.Judge.verdict done key lane o law down k, nothing_there g.J.Judge.verdict done key lane o law down k),
)
