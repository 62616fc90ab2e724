use Rattle.conf_system.proofs.Unrefused.{keeps}
use Rattle.conf_system.proofs.filter_laws.accepted_functions_keep_their_signatures.Goals as goal

pub returns : goal.returns
returns c =
    keeps c.what_runs_agrees_with_what_is_declared.ensures.sorts
    c.what_runs_agrees_with_what_is_declared.ensures.weights
    c.what_runs_agrees_with_what_is_declared.ensures.refused
    c.typed_functions_keep_their_signatures.ensures
