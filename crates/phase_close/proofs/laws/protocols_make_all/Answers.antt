use Rattle.phase_close.proofs.Making.{makes_all}
use Rattle.phase_close.proofs.laws.protocols_make_all.Goals as goal

pub returns : goal.returns
returns g c = λ room history logs entries said p key hands importer ops port list made left of. makes_all g.J.Judge.verdict room history logs entries said p key of hands importer ops port list made left
