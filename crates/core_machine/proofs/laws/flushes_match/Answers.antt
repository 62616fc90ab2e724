use Rattle.core_machine.proofs.Fed.{flush_begins, flush_ends, flush_goes_on, flushed_down, flushed_longer}
use Rattle.core_machine.proofs.laws.flushes_match.Goals as goal

pub returns-clause-begin : goal.returns-clause-begin
returns-clause-begin g c = flush_begins g.J.Judge.verdict

pub returns-clause-flush : goal.returns-clause-flush
returns-clause-flush g c = flush_goes_on g.J.Judge.verdict

pub returns-clause-end : goal.returns-clause-end
returns-clause-end g c = flush_ends g.J.Judge.verdict

pub returns-clause-down : goal.returns-clause-down
returns-clause-down g c = flushed_down g.J.Judge.verdict

pub returns-clause-change : goal.returns-clause-change
returns-clause-change g c = flushed_longer g.J.Judge.verdict
