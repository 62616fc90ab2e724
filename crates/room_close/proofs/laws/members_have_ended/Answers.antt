use Rattle.room_close.proofs.Done.{own_ended, pipe_ended}
use Rattle.room_close.proofs.laws.members_have_ended.Goals as goal

pub returns-clause-sessions : goal.returns-clause-sessions
returns-clause-sessions g c = λ room hands passes ended room_is is number own mine session at. own_ended g.P.Phase.terms g.P.Sends.exports g.P.Sends.rules g.J.Judge.verdict room room_is hands passes ended is number own mine session at

pub returns-clause-pipes : goal.returns-clause-pipes
returns-clause-pipes g c = λ room hands passes ended room_is is number own mine pipe at. pipe_ended g.P.Phase.terms g.P.Sends.exports g.P.Sends.rules g.J.Judge.verdict room room_is hands passes ended is number own mine pipe at
