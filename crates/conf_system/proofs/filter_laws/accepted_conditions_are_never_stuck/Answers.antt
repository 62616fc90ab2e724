use Rattle.std.proofs.Common.{◌≡◌, []}
use Rattle.attrs.specs.declared.attributes.Attrs.{Attrs}
use Rattle.filt_meaning.specs.Configuration.{body}
use Rattle.filt_meaning.specs.Flow.{Stuck, Stopped}
use Rattle.conf_system.proofs.Unrefused.{condition_holds, condition_takes}
use Rattle.conf_system.proofs.filter_laws.accepted_conditions_are_never_stuck.Goals as goal

pub returns-clause-stuck : goal.returns-clause-stuck
returns-clause-stuck c =
    condition_holds c.what_runs_agrees_with_what_is_declared.ensures.sorts
    c.what_runs_agrees_with_what_is_declared.ensures.weights
    c.what_runs_agrees_with_what_is_declared.ensures.refused
    c.what_runs_agrees_with_what_is_seen.ensures.text
    (λ context ss. (attrs after : Attrs) → body context [] ss [] attrs ≡ Stopped Stuck after → ⊥)
    c.typed_filters_are_never_stuck.ensures.stuck

pub returns-clause-steps : goal.returns-clause-steps
returns-clause-steps c =
    condition_takes c.what_runs_agrees_with_what_is_declared.ensures.sorts
    c.what_runs_agrees_with_what_is_declared.ensures.weights
    c.what_runs_agrees_with_what_is_declared.ensures.refused
    c.filters_end_within_their_weight.ensures.filter
