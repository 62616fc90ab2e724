use Rattle.phase_legal.proofs.Answering.{answers}
use Rattle.phase_legal.proofs.laws.what_was_told_is_right.Goals as goal

pub returns : goal.returns
returns c = λ room starter actor few hands passes begun rest entries said before end returned heard all replies told.
    answers room starter actor few hands passes begun rest entries said before end returned heard all replies told
