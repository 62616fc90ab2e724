use Rattle.filt_steps.proofs.Behind.{agree_behind}
use Rattle.filt_steps.proofs.Weighed.{routine_takes}
use Rattle.filt_steps.proofs.laws.functions_end_within_their_weight.Goals as goal

pub returns-clause-function : goal.returns-clause-function
returns-clause-function c = routine_takes

pub returns-clause-behind_it : goal.returns-clause-behind_it
returns-clause-behind_it c = agree_behind
