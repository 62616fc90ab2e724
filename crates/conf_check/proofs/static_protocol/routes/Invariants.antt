use Rattle.std.proofs.Common.{◌≡◌, ◌++◌, map, drop}
use Rattle.conf_ast.specs.Configurations.{static_setting_of}
use Rattle.conf_rules.specs.Protocols.{static_routes}
use Rattle.conf_check.specs.Checked.{route_of}
use Rattle.conf_check.proofs.static_protocol.routes.Given as goal

abbrev pub invariant-loop-option : goal.invariant-loop-option
invariant-loop-option l = l.all.items ++ map route_of (static_routes (map static_setting_of (drop l.option-index l.options))) ≡ map route_of (static_routes (map static_setting_of l.options))
