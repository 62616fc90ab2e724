use Rattle.filt_values.proofs.Meanings.{matches_said, matches_failed}
use Rattle.filt_values.proofs.laws.matches_not_is_contrary.Goals as goal

pub returns-clause-said : goal.returns-clause-said
returns-clause-said c = matches_said

pub returns-clause-failed : goal.returns-clause-failed
returns-clause-failed c = matches_failed
