use Rattle.export_lock.proofs.Entering.{flush_ends, lane_reads, lane_sends, lane_withdraws}
use Rattle.export_lock.proofs.laws.lanes_follow_their_logs.Goals as goal

pub returns-clause-sends : goal.returns-clause-sends
returns-clause-sends g c = lane_sends g.J.Judge.verdict

pub returns-clause-withdraws : goal.returns-clause-withdraws
returns-clause-withdraws g c = lane_withdraws g.J.Judge.verdict

pub returns-clause-ends : goal.returns-clause-ends
returns-clause-ends g c = flush_ends g.J.Judge.verdict

pub returns-clause-reads : goal.returns-clause-reads
returns-clause-reads g c = lane_reads g.J.Judge.verdict
