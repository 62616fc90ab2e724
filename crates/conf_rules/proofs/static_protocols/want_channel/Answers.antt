use Rattle.std.proofs.Common.{map}
use Rattle.conf_ast.specs.Configurations.{static_setting_of}
use Rattle.conf_rules.specs.Protocols.{static_channels}
use Rattle.conf_rules.proofs.Settings.{one_first}
use Rattle.conf_rules.proofs.static_protocols.want_channel.Goals as goal

pub returns : goal.returns
returns c = one_first c.args.at (static_channels (map static_setting_of c.args.options.now)) c.second_channels-has_one.result c.args.first.now c.second_channels-has_one.new.first c.note_if.new.first c.second_channels-has_one.ensures.has c.second_channels-has_one.ensures.first c.note_if.ensures
