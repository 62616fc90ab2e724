use Rattle.filt_values.proofs.Typed.{equal_takes, not_equal_takes, less_takes, less_or_equal_takes, greater_takes, greater_or_equal_takes}
use Rattle.filt_values.proofs.laws.comparisons_are_typed.Goals as goal

pub returns-clause-equal : goal.returns-clause-equal
returns-clause-equal c = equal_takes

pub returns-clause-not_equal : goal.returns-clause-not_equal
returns-clause-not_equal c = not_equal_takes

pub returns-clause-less : goal.returns-clause-less
returns-clause-less c = less_takes

pub returns-clause-less_or_equal : goal.returns-clause-less_or_equal
returns-clause-less_or_equal c = less_or_equal_takes

pub returns-clause-greater : goal.returns-clause-greater
returns-clause-greater c = greater_takes

pub returns-clause-greater_or_equal : goal.returns-clause-greater_or_equal
returns-clause-greater_or_equal c = greater_or_equal_takes
