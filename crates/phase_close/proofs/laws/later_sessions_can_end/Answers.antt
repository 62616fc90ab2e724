use Rattle.phase_close.proofs.Ending.{later_ending, later_over}
use Rattle.phase_close.proofs.laws.later_sessions_can_end.Goals as goal

pub returns-clause-over : goal.returns-clause-over
returns-clause-over g c = λ tables key old new later. later_over g.J.Judge.verdict old new later tables key

pub returns-clause-ending : goal.returns-clause-ending
returns-clause-ending g c = λ lists key old new later. later_ending g.J.Judge.verdict old new later lists key
