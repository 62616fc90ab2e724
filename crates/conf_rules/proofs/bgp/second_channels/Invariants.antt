use Rattle.std.proofs.Common.{◌≡◌, ◌||◌, false, map, drop}
use Rattle.conf_ast.specs.Configurations.{bgp_setting_of}
use Rattle.conf_rules.specs.Protocols.{bgp_channels}
use Rattle.conf_names.specs.Refusals.{first_in}
use Rattle.conf_rules.specs.Walks.{behind, has_channel}
use Rattle.conf_rules.proofs.bgp.second_channels.Given as goal

abbrev pub invariant-loop-option : goal.invariant-loop-option
invariant-loop-option l = record {
  has : has_channel (bgp_channels (map bgp_setting_of l.options)) ≡ (l.has_one || has_channel (bgp_channels (map bgp_setting_of (drop l.option-index l.options))));
  first : first_in l.initial.first (behind false (bgp_channels (map bgp_setting_of l.options))) ≡ first_in l.first (behind l.has_one (bgp_channels (map bgp_setting_of (drop l.option-index l.options))));
}
