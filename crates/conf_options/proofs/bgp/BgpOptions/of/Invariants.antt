use Rattle.std.proofs.Common.{◌≡◌, fold, map, take}
use Rattle.conf_ast.specs.Configurations.{bgp_setting_of}
use Rattle.conf_options.specs.Options.{no_bgp_options, with_bgp_option}
use Rattle.conf_options.proofs.bgp.BgpOptions.of.Given as goal

abbrev pub invariant-loop-option : goal.invariant-loop-option
invariant-loop-option l = l.found ≡ fold with_bgp_option no_bgp_options (map bgp_setting_of (take l.option-index l.options))
