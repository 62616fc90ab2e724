use Rattle.phase_room.proofs.First.{channel_stands, smallest_is, source_stands, table_stands, two_is}
use Rattle.phase_room.proofs.laws.first_phases_stand.Goals as goal

pub returns-clause-tables : goal.returns-clause-tables
returns-clause-tables g c = table_stands

pub returns-clause-sources : goal.returns-clause-sources
returns-clause-sources g c = λ setup lines actors number protocol source family judge is here body family_here filter.
    source_stands g.J.Judge.verdict setup lines actors number protocol source family judge is here body family_here filter

pub returns-clause-channels : goal.returns-clause-channels
returns-clause-channels g c = λ setup lines actors number protocol source family judge exports is here body family_here e filter.
    channel_stands g.J.Judge.verdict setup lines actors number protocol source family judge is here body family_here exports e filter

pub returns-clause-worked : goal.returns-clause-worked
returns-clause-worked g c = λ judge. (smallest_is (g.J.Judge.verdict judge), two_is (g.J.Judge.verdict judge))
