use Rattle.core_machine.proofs.Matching.{take_matches}
use Rattle.core_machine.proofs.laws.takes_match.Goals as goal

pub returns : goal.returns
returns g c = take_matches g.J.Judge.verdict
