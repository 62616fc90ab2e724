use Rattle.std.proofs.Common.{◌≡◌, [], None}
use Rattle.attrs.specs.declared.attributes.Attrs.{Attrs}
use Rattle.attrs.specs.declared.judge.Verdict.TheVariants as verdicts
use Rattle.filt_meaning.specs.Values.{Val}
use Rattle.filt_meaning.specs.Configuration.{body, judged}
use Rattle.filt_meaning.specs.Flow.{Rejected, Returned, Stuck, Stopped}
use Rattle.conf_system.proofs.Unrefused.{holds}
use Rattle.conf_system.proofs.filter_laws.accepted_filters_are_never_stuck.Goals as goal

pub returns-clause-stuck : goal.returns-clause-stuck
returns-clause-stuck c =
    holds c.what_runs_agrees_with_what_is_declared.ensures.sorts
    c.what_runs_agrees_with_what_is_declared.ensures.weights
    c.what_runs_agrees_with_what_is_declared.ensures.refused
    (λ context ss. (attrs after : Attrs) → body context [] ss [] attrs ≡ Stopped Stuck after → ⊥)
    c.typed_filters_are_never_stuck.ensures.stuck

pub returns-clause-returned : goal.returns-clause-returned
returns-clause-returned c =
    holds c.what_runs_agrees_with_what_is_declared.ensures.sorts
    c.what_runs_agrees_with_what_is_declared.ensures.weights
    c.what_runs_agrees_with_what_is_declared.ensures.refused
    (λ context ss. (attrs after : Attrs) (v : Val)
    → body context [] ss [] attrs ≡ Stopped (Returned v) after → ⊥)
    c.typed_filters_are_never_stuck.ensures.returned

pub returns-clause-rejected : goal.returns-clause-rejected
returns-clause-rejected c =
    holds c.what_runs_agrees_with_what_is_declared.ensures.sorts
    c.what_runs_agrees_with_what_is_declared.ensures.weights
    c.what_runs_agrees_with_what_is_declared.ensures.refused
    (λ context ss. (attrs : Attrs) → judged context ss attrs ≡ verdicts.Reject None
    → (after : Attrs) × (body context [] ss [] attrs ≡ Stopped Rejected after))
    c.typed_filters_are_never_stuck.ensures.rejected
