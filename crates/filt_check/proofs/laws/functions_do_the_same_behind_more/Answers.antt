use Rattle.filt_check.proofs.Growing.{function_stays, stays_at_its_number}
use Rattle.filt_check.proofs.laws.functions_do_the_same_behind_more.Goals as goal

pub returns-clause-constants : goal.returns-clause-constants
returns-clause-constants c = function_stays

pub returns-clause-number : goal.returns-clause-number
returns-clause-number c = stays_at_its_number
