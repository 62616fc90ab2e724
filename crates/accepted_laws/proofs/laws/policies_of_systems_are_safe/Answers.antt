use Rattle.accepted_laws.proofs.Texts.{system_safe}
use Rattle.accepted_laws.proofs.laws.policies_of_systems_are_safe.Goals as goal

pub returns : goal.returns
returns c =
    system_safe c.what_runs_agrees_with_what_is_declared.ensures.refused
    c.accepted_filters_are_never_stuck.ensures.stuck
    c.accepted_filters_take_10_000_000_steps_at_most.ensures.filters
