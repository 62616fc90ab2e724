use Rattle.filt_check.proofs.Told.{no_fault, one_fault, some_fault}
use Rattle.filt_check.proofs.laws.filters_are_accepted_or_refused.Goals as goal

pub returns-clause-accepted : goal.returns-clause-accepted
returns-clause-accepted c = no_fault

pub returns-clause-one : goal.returns-clause-one
returns-clause-one c = one_fault

pub returns-clause-refused : goal.returns-clause-refused
returns-clause-refused c = some_fault
