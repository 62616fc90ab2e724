use Rattle.conf_system.proofs.Unrefused.{filter_takes, function_takes}
use Rattle.conf_system.proofs.filter_laws.accepted_filters_take_10_000_000_steps_at_most.Goals as goal

pub returns-clause-filters : goal.returns-clause-filters
returns-clause-filters c =
    filter_takes c.what_runs_agrees_with_what_is_declared.ensures.sorts
    c.what_runs_agrees_with_what_is_declared.ensures.weights
    c.what_runs_agrees_with_what_is_declared.ensures.refused
    c.filters_end_within_their_weight.ensures.filter

pub returns-clause-functions : goal.returns-clause-functions
returns-clause-functions c =
    function_takes c.what_runs_agrees_with_what_is_declared.ensures.sorts
    c.what_runs_agrees_with_what_is_declared.ensures.weights
    c.what_runs_agrees_with_what_is_declared.ensures.refused
    c.functions_end_within_their_weight.ensures.function
