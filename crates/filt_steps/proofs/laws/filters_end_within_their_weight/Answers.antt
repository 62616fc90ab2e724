use Rattle.filt_steps.proofs.Weighed.{act_takes, acts_take, filter_takes, value_takes, values_take}
use Rattle.filt_steps.proofs.laws.filters_end_within_their_weight.Goals as goal

pub returns-clause-expression : goal.returns-clause-expression
returns-clause-expression c = λ scene context fs a e. value_takes e scene context fs a

pub returns-clause-expressions : goal.returns-clause-expressions
returns-clause-expressions c = λ scene context fs a es. values_take es scene context fs a

pub returns-clause-statement : goal.returns-clause-statement
returns-clause-statement c = λ scene context fs a s. act_takes s scene context fs a

pub returns-clause-statements : goal.returns-clause-statements
returns-clause-statements c = λ scene context fs a ss. acts_take ss scene context fs a

pub returns-clause-filter : goal.returns-clause-filter
returns-clause-filter c = filter_takes
