use Rattle.core_machine.proofs.Matching.{nothing_enters, push_matches, quiet_enters, sent_enters}
use Rattle.core_machine.proofs.laws.pushes_match.Goals as goal

pub returns-clause-channel : goal.returns-clause-channel
returns-clause-channel g c = push_matches g.J.Judge.verdict

pub returns-clause-sent : goal.returns-clause-sent
returns-clause-sent g c = sent_enters g.J.Judge.verdict

pub returns-clause-quiet : goal.returns-clause-quiet
returns-clause-quiet g c = quiet_enters g.J.Judge.verdict

pub returns-clause-nothing : goal.returns-clause-nothing
returns-clause-nothing g c = nothing_enters g.J.Judge.verdict
