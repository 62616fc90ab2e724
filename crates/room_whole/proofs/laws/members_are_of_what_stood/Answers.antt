use Rattle.room_whole.proofs.Over.{made_over}
use Rattle.room_whole.proofs.laws.members_are_of_what_stood.Goals as goal

pub returns : goal.returns
returns g c = λ played standing opening starts made opens is. made_over g.J.Judge.verdict g.P.Phase.terms g.P.Sends.exports g.P.Sends.rules played standing opening starts made opens is
