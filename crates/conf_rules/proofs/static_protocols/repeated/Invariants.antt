use Rattle.std.proofs.Common.{◌≡◌, [], map, drop}
use Rattle.conf_ast.specs.Configurations.{static_setting_of}
use Rattle.conf_rules.specs.Protocols.{repeated, static_routes}
use Rattle.conf_names.specs.Refusals.{first_in}
use Rattle.conf_rules.proofs.static_protocols.repeated.Given as goal

abbrev pub invariant-loop-option : goal.invariant-loop-option
invariant-loop-option l =
    first_in l.initial.first (repeated [] (static_routes (map static_setting_of l.options))) ≡ first_in l.first (repeated l.seen.keys (static_routes (map static_setting_of (drop l.option-index l.options))))
