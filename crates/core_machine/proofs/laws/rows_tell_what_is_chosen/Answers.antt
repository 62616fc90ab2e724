use Rattle.core_machine.proofs.ToldRows.{rows_tell}
use Rattle.core_machine.proofs.laws.rows_tell_what_is_chosen.Goals as goal

pub returns : goal.returns
returns c = rows_tell
