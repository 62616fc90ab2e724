use Rattle.core_machine.proofs.Fed.{down_matches, refresh_matches, up_matches}
use Rattle.core_machine.proofs.laws.stretches_match.Goals as goal

pub returns-clause-up : goal.returns-clause-up
returns-clause-up g c = up_matches g.J.Judge.verdict

pub returns-clause-refresh : goal.returns-clause-refresh
returns-clause-refresh g c = refresh_matches g.J.Judge.verdict

pub returns-clause-down : goal.returns-clause-down
returns-clause-down g c = down_matches g.J.Judge.verdict
