use Rattle.filt_values.proofs.Typed.{plus_takes, minus_takes, times_takes, over_takes, pair_takes}
use Rattle.filt_values.proofs.laws.numbers_are_typed.Goals as goal

pub returns-clause-plus : goal.returns-clause-plus
returns-clause-plus c = plus_takes

pub returns-clause-minus : goal.returns-clause-minus
returns-clause-minus c = minus_takes

pub returns-clause-times : goal.returns-clause-times
returns-clause-times c = times_takes

pub returns-clause-over : goal.returns-clause-over
returns-clause-over c = over_takes

pub returns-clause-pair : goal.returns-clause-pair
returns-clause-pair c = pair_takes
