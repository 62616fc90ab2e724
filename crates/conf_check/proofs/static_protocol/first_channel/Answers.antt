use Rattle.std.proofs.Common.{◌≡◌, ℕ, ◌+◌, ◌++◌, ◌∷◌, [], List, map, drop, ap, ◌∙◌}
use Rattle.conf_ast.specs.declared.configurations.StaticOption.{StaticOption}
use Rattle.conf_ast.specs.Configurations.{FamilyChannel, channel_of, static_setting_of}
use Rattle.filt_types.proofs.Lookups.{next_item, nothing_left}
use Rattle.conf_rules.specs.Protocols.{static_channels}
use Rattle.conf_rules.proofs.Settings.{more_static_channels}
use Rattle.conf_check.proofs.static_protocol.first_channel.Goals as goal

walked : (options : List StaticOption) (i : ℕ) (x : StaticOption) (found : List FamilyChannel) → drop i options ≡ x ∷ drop (i + 1) options → static_channels (static_setting_of x ∷ []) ≡ found → static_channels (map static_setting_of options) ≡ static_channels (map static_setting_of (drop i options)) → static_channels (map static_setting_of options) ≡ found ++ static_channels (map static_setting_of (drop (i + 1) options))
walked options i x found item is before =
    before ∙ ap (λ (os : List StaticOption). static_channels (map static_setting_of os)) item ∙ more_static_channels (static_setting_of x) (map static_setting_of (drop (i + 1) options))
    ∙ ap (λ (cs : List FamilyChannel). cs ++ static_channels (map static_setting_of (drop (i + 1) options))) is

pub loop-option-preserved : goal.loop-option-preserved
loop-option-preserved c = walked c.args.options.now c.loop-option.option-index c.option-item.result [] (next_item c.args.options.now c.loop-option.option-index c.option-item.result c.loop-option-test.true c.option-item.is) c.in_default.ensures c.loop-option.invariant

pub returns-in-Some : goal.returns-in-Some
returns-in-Some c = (
  static_channels (map static_setting_of (drop (c.loop-option.option-index + 1) c.args.options.now)),
  walked c.args.options.now c.loop-option.option-index c.option-item.result (channel_of c.in-Some.channel.now ∷ []) (next_item c.args.options.now c.loop-option.option-index c.option-item.result c.loop-option-test.true c.option-item.is) c.in-Some.ensures c.loop-option.invariant,
)

pub returns : goal.returns
returns c = c.loop-option.invariant ∙ ap (λ (os : List StaticOption). static_channels (map static_setting_of os)) (nothing_left c.args.options.now c.loop-option.option-index c.loop-option-test.false)
