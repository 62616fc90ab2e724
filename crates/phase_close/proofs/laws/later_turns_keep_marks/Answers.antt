use Rattle.phase_close.proofs.Ending.{marks_kept}
use Rattle.phase_close.proofs.laws.later_turns_keep_marks.Goals as goal

pub returns : goal.returns
returns g c = λ key list made channel old new left goes same. marks_kept g.J.Judge.verdict key list made channel old new left goes same
