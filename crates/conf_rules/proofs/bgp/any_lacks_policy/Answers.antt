use Rattle.std.proofs.Common.{◌∷◌, [], rules, ◌∙◌}
use Rattle.std.proofs.lemmas.Iterator.{YieldsList-from_slice}
use Rattle.std.proofs.lemmas.Iterator.Search.{any_from_yields_List}
use Rattle.std.specs.List.{list_any}
use Rattle.conf_ast.specs.declared.configurations.BgpOption.{BgpOption}
use Rattle.conf_ast.specs.Configurations.{bgp_setting_of}
use Rattle.conf_rules.specs.Channels.{lacks_policy}
use Rattle.conf_rules.specs.Protocols.{bgp_channels}
use Rattle.conf_rules.proofs.Wholes.{any_lacks}
use Rattle.conf_rules.proofs.bgp.any_lacks_policy.Goals as goal

pub returns : goal.returns
returns c = any_from_yields_List (λ (x : BgpOption). list_any lacks_policy (bgp_channels (bgp_setting_of x ∷ []))) _ _ _ c.any.ensures.ran (YieldsList-from_slice c.args.options.now cc) (λ x b q k. search rules) ∙ any_lacks c.args.options.now
