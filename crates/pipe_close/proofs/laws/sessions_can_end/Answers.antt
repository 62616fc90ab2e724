use Rattle.pipe_close.proofs.Sessions.{is_closing, is_over}
use Rattle.pipe_close.proofs.laws.sessions_can_end.Goals as goal

pub returns-clause-closing : goal.returns-clause-closing
returns-clause-closing g c = λ phase tables number primary peer key hands closed session closed_is of. is_closing g.J.Judge.verdict phase tables number primary peer key session hands closed closed_is of

pub returns-clause-over : goal.returns-clause-over
returns-clause-over g c = λ phase tables number primary peer key hands left session is one other. is_over g.J.Judge.verdict phase tables number primary peer key session hands left is one other
