use Rattle.std.proofs.Common.{◌+◌, ◌++◌, ◌∷◌, [], List, map, drop, sym, ap, ◌∙◌, append_assoc, append-nil}
use Rattle.conf_ast.specs.declared.configurations.StaticOption.{StaticOption}
use Rattle.conf_ast.specs.Configurations.{static_setting_of}
use Rattle.filt_types.proofs.Lookups.{next_item, nothing_left}
use Rattle.conf_rules.specs.Protocols.{static_routes}
use Rattle.conf_check.specs.declared.checked.StaticRoute.{StaticRoute}
use Rattle.conf_check.specs.Checked.{route_of}
use Rattle.conf_check.proofs.Settings.{routes_more}
use Rattle.conf_check.proofs.static_protocol.routes.Goals as goal

abbrev of : List StaticOption → List StaticRoute
of os = map route_of (static_routes (map static_setting_of os))

pub loop-option-preserved : goal.loop-option-preserved
loop-option-preserved c =
    let x = c.option-item.result in
    let rest = drop (c.loop-option.option-index + 1) c.args.options.now in
    ap (λ (l : List StaticRoute). l ++ of rest) c.in_ok-push_route.ensures ∙ append_assoc c.loop-option.all.items (of (x ∷ [])) (of rest)
    ∙ ap (λ (l : List StaticRoute). c.loop-option.all.items ++ l) (sym (routes_more (static_setting_of x) (map static_setting_of rest)) ∙ ap of (sym (next_item c.args.options.now c.loop-option.option-index x c.loop-option-test.true c.option-item.is)))
    ∙ c.loop-option.invariant

pub returns : goal.returns
returns c = sym (append-nil c.loop-option.all.items) ∙ ap (λ (l : List StaticOption). c.loop-option.all.items ++ of l) (sym (nothing_left c.args.options.now c.loop-option.option-index c.loop-option-test.false)) ∙ c.loop-option.invariant
