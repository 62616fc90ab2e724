use Rattle.conf_system.proofs.Agreeing.{none_refused, sorts_agree, weights_agree}
use Rattle.conf_system.proofs.filter_laws.what_runs_agrees_with_what_is_declared.Goals as goal

pub returns-clause-sorts : goal.returns-clause-sorts
returns-clause-sorts c =
    sorts_agree
    c.first_refusals_are_the_first.ensures.accepted
    c.what_runs_agrees_with_what_is_seen.ensures.function
    c.functions_end_within_their_weight.ensures.behind_it
    (λ text around before.
    (c.configured_filters_end_within_their_weight.ensures.agree text around before).limits)

pub returns-clause-weights : goal.returns-clause-weights
returns-clause-weights c =
    weights_agree
    c.first_refusals_are_the_first.ensures.accepted
    c.what_runs_agrees_with_what_is_seen.ensures.function
    c.functions_end_within_their_weight.ensures.behind_it
    (λ text around before.
    (c.configured_filters_end_within_their_weight.ensures.agree text around before).limits)

pub returns-clause-refused : goal.returns-clause-refused
returns-clause-refused c =
    none_refused
    c.first_refusals_are_the_first.ensures.accepted
    c.what_runs_agrees_with_what_is_seen.ensures.function
    c.functions_end_within_their_weight.ensures.behind_it
    (λ text around before.
    (c.configured_filters_end_within_their_weight.ensures.agree text around before).limits)
