use Rattle.std.proofs.Common.{refl}
use Rattle.conf_options.specs.Kinds as kinds
use Rattle.conf_options.specs.Kinds.{bgp_kind}
use Rattle.conf_options.specs.Options.{no_bgp_options, with_bgp_option}
use Rattle.conf_options.proofs.Apart.{bgp_local, bgp_neighbor, bgp_med_metric, bgp_interpret_communities, bgp_default_med, bgp_default_local_pref}
use Rattle.conf_options.proofs.Folds.{none_is_none}
use Rattle.conf_options.proofs.laws.a_session_has_no_more_than_is_written.Goals as goal

pub returns-clause-local : goal.returns-clause-local
returns-clause-local c = none_is_none with_bgp_option bgp_kind kinds.LocalOfBgp (λ o. o.local) bgp_local no_bgp_options refl

pub returns-clause-neighbor : goal.returns-clause-neighbor
returns-clause-neighbor c = none_is_none with_bgp_option bgp_kind kinds.NeighborOfBgp (λ o. o.neighbor) bgp_neighbor no_bgp_options refl

pub returns-clause-med_metric : goal.returns-clause-med_metric
returns-clause-med_metric c = none_is_none with_bgp_option bgp_kind kinds.MedMetricOfBgp (λ o. o.med_metric) bgp_med_metric no_bgp_options refl

pub returns-clause-interpret_communities : goal.returns-clause-interpret_communities
returns-clause-interpret_communities c = none_is_none with_bgp_option bgp_kind kinds.InterpretCommunitiesOfBgp (λ o. o.interpret_communities) bgp_interpret_communities no_bgp_options refl

pub returns-clause-default_med : goal.returns-clause-default_med
returns-clause-default_med c = none_is_none with_bgp_option bgp_kind kinds.DefaultMedOfBgp (λ o. o.default_med) bgp_default_med no_bgp_options refl

pub returns-clause-default_local_pref : goal.returns-clause-default_local_pref
returns-clause-default_local_pref c = none_is_none with_bgp_option bgp_kind kinds.DefaultLocalPrefOfBgp (λ o. o.default_local_pref) bgp_default_local_pref no_bgp_options refl
