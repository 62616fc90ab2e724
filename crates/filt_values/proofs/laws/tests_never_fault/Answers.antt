use Rattle.filt_values.proofs.Faultless.{equal_fine, not_equal_fine, less_fine, less_or_equal_fine, greater_fine, greater_or_equal_fine, matches_fine, matches_not_fine, truth_fine, not_fine, len_fine, first_fine, last_fine, ip_fine}
use Rattle.filt_values.proofs.laws.tests_never_fault.Goals as goal

pub returns-clause-equal : goal.returns-clause-equal
returns-clause-equal c = equal_fine

pub returns-clause-not_equal : goal.returns-clause-not_equal
returns-clause-not_equal c = not_equal_fine

pub returns-clause-less : goal.returns-clause-less
returns-clause-less c = less_fine

pub returns-clause-less_or_equal : goal.returns-clause-less_or_equal
returns-clause-less_or_equal c = less_or_equal_fine

pub returns-clause-greater : goal.returns-clause-greater
returns-clause-greater c = greater_fine

pub returns-clause-greater_or_equal : goal.returns-clause-greater_or_equal
returns-clause-greater_or_equal c = greater_or_equal_fine

pub returns-clause-matches : goal.returns-clause-matches
returns-clause-matches c = matches_fine

pub returns-clause-matches_not : goal.returns-clause-matches_not
returns-clause-matches_not c = matches_not_fine

pub returns-clause-truth : goal.returns-clause-truth
returns-clause-truth c = truth_fine

pub returns-clause-not : goal.returns-clause-not
returns-clause-not c = not_fine

pub returns-clause-len : goal.returns-clause-len
returns-clause-len c = len_fine

pub returns-clause-first : goal.returns-clause-first
returns-clause-first c = first_fine

pub returns-clause-last : goal.returns-clause-last
returns-clause-last c = last_fine

pub returns-clause-ip : goal.returns-clause-ip
returns-clause-ip c = ip_fine
