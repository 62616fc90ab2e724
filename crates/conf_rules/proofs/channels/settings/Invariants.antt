use Rattle.std.proofs.Common.{◌≡◌, map, drop}
use Rattle.conf_ast.specs.Configurations.{channel_setting_of}
use Rattle.conf_rules.specs.Channels.{settings}
use Rattle.conf_names.specs.Refusals.{first_in}
use Rattle.conf_names.specs.Seen.{known_of}
use Rattle.conf_rules.proofs.channels.settings.Given as goal

abbrev pub invariant-loop-option : goal.invariant-loop-option
invariant-loop-option l =
    first_in l.initial.first (settings (known_of l.text l.declared) (map channel_setting_of l.options)) ≡ first_in l.first (settings (known_of l.text l.declared) (map channel_setting_of (drop l.option-index l.options)))
