use Rattle.filt_values.proofs.Typed.{prepended_takes, added_takes, deleted_takes, filtered_takes, emptied_takes}
use Rattle.filt_values.proofs.laws.methods_are_typed.Goals as goal

pub returns-clause-prepended : goal.returns-clause-prepended
returns-clause-prepended c = prepended_takes

pub returns-clause-added : goal.returns-clause-added
returns-clause-added c = added_takes

pub returns-clause-deleted : goal.returns-clause-deleted
returns-clause-deleted c = deleted_takes

pub returns-clause-filtered : goal.returns-clause-filtered
returns-clause-filtered c = filtered_takes

pub returns-clause-emptied : goal.returns-clause-emptied
returns-clause-emptied c = emptied_takes
