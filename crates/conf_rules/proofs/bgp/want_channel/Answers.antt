use Rattle.std.proofs.Common.{map}
use Rattle.conf_ast.specs.Configurations.{bgp_setting_of}
use Rattle.conf_rules.specs.Protocols.{bgp_channels}
use Rattle.conf_rules.proofs.Settings.{one_first}
use Rattle.conf_rules.proofs.bgp.want_channel.Goals as goal

pub returns : goal.returns
returns c = one_first c.args.at (bgp_channels (map bgp_setting_of c.args.options.now)) c.second_channels-has_one.result c.args.first.now c.second_channels-has_one.new.first c.note_if.new.first c.second_channels-has_one.ensures.has c.second_channels-has_one.ensures.first c.note_if.ensures
