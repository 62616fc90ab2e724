use Rattle.phase_room.proofs.Dues.{stayed_keeps}
use Rattle.phase_room.proofs.session.Session.mark.Goals as goal

pub returns-in-Stay : goal.returns-in-Stay
returns-in-Stay g c = record { kept = stayed_keeps g.J.Judge.verdict c.args.mark c.args.state.now c.in-Stay.is c.requires.rest }
