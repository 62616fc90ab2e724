use Rattle.phase_ends.proofs.Sending.{sends_follow, sends_settle}
use Rattle.phase_ends.proofs.laws.exporters_send_what_they_may.Goals as goal

pub returns-clause-follows : goal.returns-clause-follows
returns-clause-follows g c = sends_follow g.J.Judge.verdict

pub returns-clause-settled : goal.returns-clause-settled
returns-clause-settled g c = sends_settle g.J.Judge.verdict
