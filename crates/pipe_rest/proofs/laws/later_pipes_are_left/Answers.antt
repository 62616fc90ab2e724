use Rattle.pipe_rest.proofs.Goes.{pipe_left, pipe_over}
use Rattle.pipe_rest.proofs.laws.later_pipes_are_left.Goals as goal

pub returns-clause-left : goal.returns-clause-left
returns-clause-left g c = λ sources key hands old new later out back left. pipe_left g.J.Judge.verdict sources key hands old new later out back left

pub returns-clause-over : goal.returns-clause-over
returns-clause-over g c = λ tables sources key hands old new later out back over. pipe_over g.J.Judge.verdict sources key hands old new later out back tables over
