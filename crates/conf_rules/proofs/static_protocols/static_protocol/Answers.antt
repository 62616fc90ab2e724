use Rattle.std.proofs.Common.{List, map, ap}
use Rattle.std.proofs.lemmas.Result.{on_ok_weaker}
use Rattle.conf_ast.specs.declared.configurations.StaticOption.{StaticOption}
use Rattle.conf_ast.specs.Configurations.{static_setting_of, instance_of}
use Rattle.conf_names.specs.Seen.{known_of}
use Rattle.conf_rules.proofs.Wholes.{static_first}
use Rattle.conf_rules.proofs.static_protocols.static_protocol.Goals as goal

pub returns : goal.returns
returns c =
    on_ok_weaker c.repeated.result
    (static_first (known_of c.args.text.now c.args.declared.now) (instance_of static_setting_of c.args.protocol.now) c.place_of.result (map static_setting_of c.as_slice-options.result.now) c.args.first.now c.declaring.new.first c.settings.new.first c.want_channel.new.first c.nettypes.new.first c.repeated.new.first
    c.place_of.ensures (ap (λ (xs : List StaticOption). map static_setting_of xs) c.as_slice-options.ensures.value) c.in_ok-declaring.ensures c.in_ok-settings.ensures c.want_channel.ensures c.nettypes.ensures)
    c.repeated.ensures
