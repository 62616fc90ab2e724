use Rattle.core_machine.proofs.Matching.{longer_matches}
use Rattle.core_machine.proofs.laws.changes_keep_the_match.Goals as goal

pub returns : goal.returns
returns g c = longer_matches g.J.Judge.verdict
