use Rattle.room_whole.proofs.FirstPast.{nothing_past}
use Rattle.room_whole.proofs.laws.nothing_was_printed_before.Goals as goal

pub returns : goal.returns
returns g c = λ played standing stands is. nothing_past g.J.Judge.verdict (g.P.Phase.terms played) (g.P.Sends.exports played) standing stands is
