use Rattle.phase_close.proofs.Making.{is_marked}
use Rattle.phase_close.proofs.laws.marks_tell_all.Goals as goal

pub returns : goal.returns
returns g c = λ room history logs entries said p key list made channel state c opening left of owner target told log before. is_marked g.J.Judge.verdict room history logs entries said p key of list made channel state c left owner target told log before opening
