use Rattle.std.proofs.Common.{◌≡◌, map, drop}
use Rattle.conf_ast.specs.Configurations.{static_setting_of}
use Rattle.conf_rules.specs.Protocols.{static_channels}
use Rattle.conf_rules.specs.Walks.{family_in}
use Rattle.conf_rules.proofs.static_protocols.first_family.Given as goal

abbrev pub invariant-loop-option : goal.invariant-loop-option
invariant-loop-option l =
    family_in (static_channels (map static_setting_of l.options)) ≡ family_in (static_channels (map static_setting_of (drop l.option-index l.options)))
