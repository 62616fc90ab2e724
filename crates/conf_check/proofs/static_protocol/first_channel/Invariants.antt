use Rattle.std.proofs.Common.{◌≡◌, map, drop}
use Rattle.conf_ast.specs.Configurations.{static_setting_of}
use Rattle.conf_rules.specs.Protocols.{static_channels}
use Rattle.conf_check.proofs.static_protocol.first_channel.Given as goal

abbrev pub invariant-loop-option : goal.invariant-loop-option
invariant-loop-option l = static_channels (map static_setting_of l.options) ≡ static_channels (map static_setting_of (drop l.option-index l.options))
