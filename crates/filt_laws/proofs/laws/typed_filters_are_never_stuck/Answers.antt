use Rattle.filt_laws.proofs.Typing.{filter_not_stuck, filter_not_returned, filter_rejected}
use Rattle.filt_laws.proofs.laws.typed_filters_are_never_stuck.Goals as goal

pub returns-clause-stuck : goal.returns-clause-stuck
returns-clause-stuck c = filter_not_stuck c.operators_are_typed.ensures

pub returns-clause-returned : goal.returns-clause-returned
returns-clause-returned c = filter_not_returned c.operators_are_typed.ensures

pub returns-clause-rejected : goal.returns-clause-rejected
returns-clause-rejected c = filter_rejected c.operators_are_typed.ensures
