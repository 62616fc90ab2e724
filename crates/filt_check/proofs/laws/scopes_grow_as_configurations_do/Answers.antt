use Rattle.filt_check.proofs.Growing.{one_function_more, function_declared, constant_declared, nothing_declared, other_text}
use Rattle.filt_check.proofs.laws.scopes_grow_as_configurations_do.Goals as goal

pub returns-clause-tables : goal.returns-clause-tables
returns-clause-tables c = one_function_more

pub returns-clause-function : goal.returns-clause-function
returns-clause-function c = function_declared

pub returns-clause-constant : goal.returns-clause-constant
returns-clause-constant c = constant_declared

pub returns-clause-start : goal.returns-clause-start
returns-clause-start c = nothing_declared

pub returns-clause-text : goal.returns-clause-text
returns-clause-text c = other_text
