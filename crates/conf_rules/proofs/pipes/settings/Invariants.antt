use Rattle.std.proofs.Common.{◌≡◌, map, drop}
use Rattle.conf_ast.specs.Configurations.{pipe_setting_of}
use Rattle.conf_rules.specs.Protocols.{pipe_settings}
use Rattle.conf_names.specs.Refusals.{first_in}
use Rattle.conf_names.specs.Seen.{known_of}
use Rattle.conf_rules.proofs.pipes.settings.Given as goal

abbrev pub invariant-loop-option : goal.invariant-loop-option
invariant-loop-option l =
    first_in l.initial.first (pipe_settings (known_of l.text l.declared) (map pipe_setting_of l.options)) ≡ first_in l.first (pipe_settings (known_of l.text l.declared) (map pipe_setting_of (drop l.option-index l.options)))
