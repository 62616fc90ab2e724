use Rattle.filt_values.proofs.Typed.{truth_takes, not_takes}
use Rattle.filt_values.proofs.laws.truths_are_typed.Goals as goal

pub returns-clause-truth : goal.returns-clause-truth
returns-clause-truth c = truth_takes

pub returns-clause-not : goal.returns-clause-not
returns-clause-not c = not_takes
