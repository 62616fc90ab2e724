use Rattle.core_machine.proofs.Fed.{chunk_matches, feed_matches}
use Rattle.core_machine.proofs.laws.feeds_match.Goals as goal

pub returns-clause-chunk : goal.returns-clause-chunk
returns-clause-chunk g c = chunk_matches g.J.Judge.verdict

pub returns-clause-end : goal.returns-clause-end
returns-clause-end g c = feed_matches g.J.Judge.verdict
