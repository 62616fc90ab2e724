use Rattle.room_actors.proofs.Fitting.{can_do}
use Rattle.room_actors.proofs.laws.lines_can_be_done.Goals as goal

pub returns : goal.returns
returns g c = λ room line is all setup named fits. can_do g.P.Phase.terms g.P.Sends.exports g.P.Sends.rules room is all line setup named fits
