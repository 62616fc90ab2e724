use Rattle.std.proofs.Common.{[]}
use Rattle.filt_meaning.specs.Configuration.{at_start, behind}
use Rattle.filt_steps.specs.Configured.{at_first, counts_behind, weighed_behind}
use Rattle.filt_steps.proofs.Configured.{configured_agree, takes_few}
use Rattle.filt_steps.proofs.Weighed.{filter_takes}
use Rattle.filt_steps.proofs.laws.configured_filters_end_within_their_weight.Goals as goal

pub returns-clause-agree : goal.returns-clause-agree
returns-clause-agree c = configured_agree

pub returns-clause-filter : goal.returns-clause-filter
returns-clause-filter c = λ text around before ss attrs w.
    filter_takes (weighed_behind (at_first text) before) (behind (at_start text around) before)
    (counts_behind (at_start text around) [] before) (configured_agree text around before) ss attrs
    w

pub returns-clause-light : goal.returns-clause-light
returns-clause-light c = λ text around before ss attrs at w h.
    takes_few (weighed_behind (at_first text) before) (behind (at_start text around) before)
    (counts_behind (at_start text around) [] before) (configured_agree text around before) ss attrs
    w at h
