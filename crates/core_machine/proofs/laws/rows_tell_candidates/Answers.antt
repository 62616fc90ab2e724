use Rattle.core_machine.proofs.ToldRows.{rows_candidate}
use Rattle.core_machine.proofs.laws.rows_tell_candidates.Goals as goal

pub returns : goal.returns
returns c = rows_candidate
