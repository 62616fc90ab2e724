use Rattle.std.proofs.Common.{◌∷◌, [], List, map, drop, ◌+◌, ap, ◌∙◌}
use Rattle.conf_ast.specs.declared.configurations.StaticOption.{StaticOption}
use Rattle.conf_ast.specs.Configurations.{static_setting_of}
use Rattle.conf_rules.specs.Protocols.{static_channels}
use Rattle.filt_types.proofs.Lookups.{next_item}
use Rattle.conf_rules.proofs.Settings.{more_static_channels, has_turn, behind_turn}
use Rattle.conf_rules.proofs.static_protocols.second_channels.Goals as goal

pub loop-option-preserved : goal.loop-option-preserved
loop-option-preserved c =
    let e = next_item c.args.options.now c.loop-option.option-index c.option-item.result c.loop-option-test.true c.option-item.is in
    let m = ap (λ (xs : List StaticOption). static_channels (map static_setting_of xs)) e ∙ more_static_channels (static_setting_of c.option-item.result) (map static_setting_of (drop (c.loop-option.option-index + 1) c.args.options.now)) in
    record {
      has = has_turn (static_channels (map static_setting_of c.args.options.now)) (static_channels (map static_setting_of (drop c.loop-option.option-index c.args.options.now))) (static_channels (static_setting_of c.option-item.result ∷ [])) (static_channels (map static_setting_of (drop (c.loop-option.option-index + 1) c.args.options.now))) c.loop-option.has_one c.next_channel-has_one.result c.loop-option.invariant.has m c.next_channel-has_one.ensures.has;
      first = behind_turn (static_channels (map static_setting_of c.args.options.now)) (static_channels (map static_setting_of (drop c.loop-option.option-index c.args.options.now))) (static_channels (static_setting_of c.option-item.result ∷ [])) (static_channels (map static_setting_of (drop (c.loop-option.option-index + 1) c.args.options.now))) c.loop-option.has_one c.next_channel-has_one.result c.args.first.now c.loop-option.first c.next_channel-has_one.new.first c.loop-option.invariant.first m c.next_channel-has_one.ensures.has c.next_channel-has_one.ensures.first;
    }
