use Rattle.std.proofs.Common.{[]}
use Rattle.core_machine.proofs.Matching.{new_matches}
use Rattle.core_machine.proofs.laws.new_exporters_match.Goals as goal

pub returns : goal.returns
returns g c rules channel e = new_matches g.J.Judge.verdict rules channel [] e
