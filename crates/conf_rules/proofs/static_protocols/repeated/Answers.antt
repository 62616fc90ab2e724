use Rattle.std.proofs.Common.{◌∷◌, [], ◌+◌, List, map, drop, ap, ◌∙◌}
use Rattle.conf_ast.specs.declared.configurations.StaticOption.{StaticOption}
use Rattle.conf_ast.specs.Configurations.{static_setting_of}
use Rattle.filt_types.proofs.Lookups.{next_item}
use Rattle.conf_names.specs.declared.refusal.Refusal.{Refusal}
use Rattle.conf_rules.specs.Protocols.{repeated, static_routes}
use Rattle.conf_names.specs.Refusals.{first_in}
use Rattle.conf_names.proofs.Firsts.{first_rest}
use Rattle.conf_rules.proofs.Settings.{more_static_routes, repeated_more}
use Rattle.conf_rules.proofs.static_protocols.repeated.Goals as goal

pub loop-option-preserved : goal.loop-option-preserved
loop-option-preserved c =
    let e = next_item c.args.options.now c.loop-option.option-index c.option-item.result c.loop-option-test.true c.option-item.is in
    let rest = drop (c.loop-option.option-index + 1) c.args.options.now in
    c.loop-option.invariant ∙ ap (λ (xs : List StaticOption). first_in c.loop-option.first (repeated c.loop-option.seen.keys (static_routes (map static_setting_of xs)))) e
    ∙ ap (λ (rs : List Refusal). first_in c.loop-option.first rs)
    (repeated_more c.loop-option.seen.keys c.next_net.new.seen.keys (static_routes (static_setting_of c.option-item.result ∷ map static_setting_of rest)) (static_routes (static_setting_of c.option-item.result ∷ [])) (static_routes (map static_setting_of rest)) (more_static_routes (static_setting_of c.option-item.result) (map static_setting_of rest)) c.in_ok-next_net.ensures.seen)
    ∙ first_rest (repeated c.loop-option.seen.keys (static_routes (static_setting_of c.option-item.result ∷ []))) (repeated c.next_net.new.seen.keys (static_routes (map static_setting_of rest))) c.loop-option.first c.next_net.new.first c.in_ok-next_net.ensures.first
