use Rattle.conf_ast.specs.Configurations.{channel_setting_of}
use Rattle.conf_options.specs.Options.{no_channel_options, channel_options_of, with_channel_option}
use Rattle.conf_options.proofs.Folds.{ends, turn}
use Rattle.conf_options.proofs.channel.ChannelOptions.of.Goals as goal

pub loop-option-preserved : goal.loop-option-preserved
loop-option-preserved c = turn with_channel_option channel_setting_of no_channel_options c.args.options.now c.loop-option.option-index c.option-item.result (channel_options_of c.loop-option.found) (channel_options_of c.set.new.self) c.loop-option-test.true c.option-item.is c.loop-option.invariant c.set.ensures

pub returns : goal.returns
returns c = ends with_channel_option channel_setting_of no_channel_options c.args.options.now c.loop-option.option-index (channel_options_of c.loop-option.found) c.loop-option-test.false c.loop-option.invariant
