use Rattle.std.proofs.Common.{List, map, ap}
use Rattle.conf_ast.specs.declared.configurations.BgpOption.{BgpOption}
use Rattle.conf_ast.specs.Configurations.{bgp_setting_of, instance_of}
use Rattle.conf_names.specs.Seen.{known_of}
use Rattle.conf_rules.proofs.Wholes.{bgp_first}
use Rattle.conf_rules.proofs.bgp.bgp.Goals as goal

pub returns : goal.returns
returns c =
    bgp_first (known_of c.args.text.now c.args.declared.now) (instance_of bgp_setting_of c.args.protocol.now) c.place_of-at.result (map bgp_setting_of c.as_slice-options.result.now) c.args.first.now c.declaring.new.first c.settings.new.first c.want_channel.new.first c.session.new.first
    c.place_of-at.ensures (ap (λ (xs : List BgpOption). map bgp_setting_of xs) c.as_slice-options.ensures.value) c.in_ok-declaring.ensures c.in_ok-settings.ensures c.want_channel.ensures c.session.ensures
