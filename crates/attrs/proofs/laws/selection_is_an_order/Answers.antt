use Rattle.attrs.proofs.Rows.{before_chain, before_itself, before_one}
use Rattle.attrs.proofs.laws.selection_is_an_order.Goals as goal

pub returns-clause-itself : goal.returns-clause-itself
returns-clause-itself c = before_itself

pub returns-clause-onward : goal.returns-clause-onward
returns-clause-onward c = before_chain

pub returns-clause-either : goal.returns-clause-either
returns-clause-either c = before_one
