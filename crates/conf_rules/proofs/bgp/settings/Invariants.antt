use Rattle.std.proofs.Common.{◌≡◌, map, drop}
use Rattle.conf_ast.specs.Configurations.{bgp_setting_of}
use Rattle.conf_rules.specs.Protocols.{bgp_settings}
use Rattle.conf_names.specs.Refusals.{first_in}
use Rattle.conf_names.specs.Seen.{known_of}
use Rattle.conf_rules.proofs.bgp.settings.Given as goal

abbrev pub invariant-loop-option : goal.invariant-loop-option
invariant-loop-option l =
    first_in l.initial.first (bgp_settings (known_of l.text l.declared) (map bgp_setting_of l.options)) ≡ first_in l.first (bgp_settings (known_of l.text l.declared) (map bgp_setting_of (drop l.option-index l.options)))
