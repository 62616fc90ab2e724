use Rattle.pipe_rest.proofs.Goes.{back_can, out_can}
use Rattle.pipe_rest.proofs.laws.pipes_can_turn.Goals as goal

pub returns : goal.returns
returns g c = λ tables sources pipe here there can at beyond.
    (out_can g.J.Judge.verdict sources tables pipe can here there at beyond, back_can g.J.Judge.verdict sources tables pipe can here there at beyond)
