use Rattle.filt_laws.proofs.Agreeing.{behind_agrees, constant_agrees, function_agrees, start_agrees, text_agrees}
use Rattle.filt_laws.proofs.laws.what_runs_agrees_with_what_is_seen.Goals as goal

pub returns-clause-start : goal.returns-clause-start
returns-clause-start c = start_agrees

pub returns-clause-constant : goal.returns-clause-constant
returns-clause-constant c = constant_agrees

pub returns-clause-function : goal.returns-clause-function
returns-clause-function c = function_agrees c.operators_are_typed.ensures

pub returns-clause-text : goal.returns-clause-text
returns-clause-text c = text_agrees

pub returns-clause-behind : goal.returns-clause-behind
returns-clause-behind c = behind_agrees c.operators_are_typed.ensures
