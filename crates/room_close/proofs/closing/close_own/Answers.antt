use Rattle.room_close.proofs.Opened.{own_left}
use Rattle.room_close.proofs.closing.close_own.Goals as goal

pub returns : goal.returns
returns g c = own_left g.P.Phase.terms g.P.Sends.exports g.P.Sends.rules g.J.Judge.verdict c.args.hands c.args.session c.close_session.result c.close_session.ensures.table c.close_session.ensures.left
