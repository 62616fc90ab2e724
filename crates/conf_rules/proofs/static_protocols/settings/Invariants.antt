use Rattle.std.proofs.Common.{◌≡◌, map, drop}
use Rattle.conf_ast.specs.Configurations.{static_setting_of}
use Rattle.conf_rules.specs.Protocols.{static_settings}
use Rattle.conf_names.specs.Refusals.{first_in}
use Rattle.conf_names.specs.Seen.{known_of}
use Rattle.conf_rules.proofs.static_protocols.settings.Given as goal

abbrev pub invariant-loop-option : goal.invariant-loop-option
invariant-loop-option l =
    first_in l.initial.first (static_settings (known_of l.text l.declared) (map static_setting_of l.options)) ≡ first_in l.first (static_settings (known_of l.text l.declared) (map static_setting_of (drop l.option-index l.options)))
