use Rattle.filt_values.proofs.Meanings.{equal_said, equal_failed}
use Rattle.filt_values.proofs.laws.not_equal_is_contrary.Goals as goal

pub returns-clause-said : goal.returns-clause-said
returns-clause-said c = equal_said

pub returns-clause-failed : goal.returns-clause-failed
returns-clause-failed c = equal_failed
