use Rattle.std.proofs.Common.{◌≡◌, fold, map, take}
use Rattle.conf_ast.specs.Configurations.{channel_setting_of}
use Rattle.conf_options.specs.Options.{no_channel_options, channel_options_of, with_channel_option}
use Rattle.conf_options.proofs.channel.ChannelOptions.of.Given as goal

abbrev pub invariant-loop-option : goal.invariant-loop-option
invariant-loop-option l = channel_options_of l.found ≡ fold with_channel_option no_channel_options (map channel_setting_of (take l.option-index l.options))
