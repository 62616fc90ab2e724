use Rattle.filt_laws.proofs.Agreeing.{conditions_not_stuck, filters_not_stuck}
use Rattle.filt_laws.proofs.laws.typed_configurations_are_never_stuck.Goals as goal

pub returns-clause-filters : goal.returns-clause-filters
returns-clause-filters c = filters_not_stuck c.operators_are_typed.ensures

pub returns-clause-conditions : goal.returns-clause-conditions
returns-clause-conditions c = conditions_not_stuck c.operators_are_typed.ensures
