use Rattle.phase_pipes.proofs.Opened.{direction_stands, first_ports, one_back, one_is, one_out, pipe_stands, second_ports}
use Rattle.phase_pipes.proofs.laws.first_phases_have_pipes.Goals as goal

pub returns-clause-pipes : goal.returns-clause-pipes
returns-clause-pipes g c = pipe_stands

pub returns-clause-directions : goal.returns-clause-directions
returns-clause-directions g c = λ setup lines actors number protocol pipe d channel family judge is here body there same filter.
    direction_stands g.J.Judge.verdict setup lines actors number protocol pipe d channel family judge is (c.setups_are_as_asked.ensures setup is) here body there same filter

pub returns-clause-worked : goal.returns-clause-worked
returns-clause-worked g c = λ judge.
    let filter = g.J.Judge.verdict judge in
    (one_is filter, first_ports filter, second_ports filter, one_out filter, one_back filter)
