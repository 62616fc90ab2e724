use Rattle.std.proofs.Common.{◌∷◌, [], List, map, refl}
use Rattle.conf_ast.specs.declared.configurations.StaticOption.{StaticOption}
use Rattle.conf_ast.specs.Configurations.{static_setting_of}
use Rattle.conf_rules.specs.Protocols.{families_of_routes, static_routes}
use Rattle.conf_rules.proofs.Settings.{families_more, more_static_routes}
use Rattle.conf_names.proofs.Turns.{turn, ends}
use Rattle.conf_rules.proofs.static_protocols.families_of_routes.Goals as goal

pub loop-option-preserved : goal.loop-option-preserved
loop-option-preserved c =
    turn (λ (xs : List StaticOption). families_of_routes c.args.family (static_routes (map static_setting_of xs))) (λ (x : StaticOption). families_of_routes c.args.family (static_routes (static_setting_of x ∷ [])))
    (λ x xs. families_more c.args.family (static_routes (static_setting_of x ∷ map static_setting_of xs)) (static_routes (static_setting_of x ∷ [])) (static_routes (map static_setting_of xs)) (more_static_routes (static_setting_of x) (map static_setting_of xs)))
    c.args.options.now c.loop-option.option-index c.option-item.result c.args.first.now c.loop-option.first c.family_of_setting.new.first c.loop-option-test.true c.option-item.is c.loop-option.invariant c.family_of_setting.ensures

pub returns : goal.returns
returns c =
    ends (λ (xs : List StaticOption). families_of_routes c.args.family (static_routes (map static_setting_of xs))) refl
    c.args.options.now c.loop-option.option-index c.args.first.now c.loop-option.first c.loop-option-test.false c.loop-option.invariant
