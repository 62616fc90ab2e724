use Rattle.std.proofs.Common.{◌≡◌, map, drop}
use Rattle.conf_ast.specs.Configurations.{bgp_setting_of}
use Rattle.conf_rules.specs.Protocols.{bgp_channels}
use Rattle.conf_check.proofs.bgp.first_channel.Given as goal

abbrev pub invariant-loop-option : goal.invariant-loop-option
invariant-loop-option l = bgp_channels (map bgp_setting_of l.options) ≡ bgp_channels (map bgp_setting_of (drop l.option-index l.options))
