use Rattle.std.proofs.Common.{List, map, refl}
use Rattle.conf_ast.specs.declared.configurations.BgpOption.{BgpOption}
use Rattle.conf_ast.specs.Configurations.{bgp_setting_of}
use Rattle.conf_rules.specs.Protocols.{bgp_settings, bgp_setting}
use Rattle.conf_names.specs.Seen.{known_of}
use Rattle.conf_names.proofs.Turns.{turn, ends}
use Rattle.conf_rules.proofs.bgp.settings.Goals as goal

pub loop-option-preserved : goal.loop-option-preserved
loop-option-preserved c =
    turn (λ (xs : List BgpOption). bgp_settings (known_of c.args.text.now c.args.declared.now) (map bgp_setting_of xs)) (λ (x : BgpOption). bgp_setting (known_of c.args.text.now c.args.declared.now) (bgp_setting_of x)) (λ x xs. refl)
    c.args.options.now c.loop-option.option-index c.option-item.result c.args.first.now c.loop-option.first c.setting.new.first c.loop-option-test.true c.option-item.is c.loop-option.invariant c.in_ok-setting.ensures

pub returns : goal.returns
returns c =
    ends (λ (xs : List BgpOption). bgp_settings (known_of c.args.text.now c.args.declared.now) (map bgp_setting_of xs)) refl
    c.args.options.now c.loop-option.option-index c.args.first.now c.loop-option.first c.loop-option-test.false c.loop-option.invariant
