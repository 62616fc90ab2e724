use Rattle.conf_options.specs.Kinds.{bgp_kind, channel_kind, pipe_kind}
use Rattle.conf_options.specs.Options.{no_bgp_options, no_channel_options, no_pipe_options, with_bgp_option, with_channel_option, with_pipe_option}
use Rattle.conf_options.proofs.Apart.{bgp_apart, channel_apart, pipe_apart}
use Rattle.conf_options.proofs.Folds.{last_counts}
use Rattle.conf_options.proofs.laws.the_last_of_a_kind_counts.Goals as goal

pub returns-clause-channel : goal.returns-clause-channel
returns-clause-channel c = last_counts with_channel_option channel_kind channel_apart no_channel_options

pub returns-clause-bgp : goal.returns-clause-bgp
returns-clause-bgp c = last_counts with_bgp_option bgp_kind bgp_apart no_bgp_options

pub returns-clause-pipe : goal.returns-clause-pipe
returns-clause-pipe c = last_counts with_pipe_option pipe_kind pipe_apart no_pipe_options
