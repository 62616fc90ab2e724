use Rattle.filt_steps.proofs.Within.{act_kept, acts_kept, doing_kept, filter_kept, value_kept, values_kept}
use Rattle.filt_steps.proofs.laws.lists_keep_their_limits.Goals as goal

pub returns-clause-expression : goal.returns-clause-expression
returns-clause-expression c = λ context k e. value_kept e context k

pub returns-clause-expressions : goal.returns-clause-expressions
returns-clause-expressions c = λ context k es. values_kept es context k

pub returns-clause-statement : goal.returns-clause-statement
returns-clause-statement c = λ context k s. act_kept s context k

pub returns-clause-statements : goal.returns-clause-statements
returns-clause-statements c = λ context k ss. acts_kept ss context k

pub returns-clause-function : goal.returns-clause-function
returns-clause-function c = doing_kept

pub returns-clause-filter : goal.returns-clause-filter
returns-clause-filter c = filter_kept
