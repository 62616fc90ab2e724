-- Settings, one more at a time.
use Rattle.std.proofs.Common.{◌≡◌, List, [], ◌∷◌, ◌++◌, map, refl, ap, ◌∙◌}
use Rattle.std.proofs.lemmas.List.{map-append}
use Rattle.conf_ast.specs.Configurations.{StaticSetting, StaticChannel, StaticRoute}
use Rattle.conf_rules.specs.Protocols.{static_routes}
use Rattle.conf_check.specs.Checked as of

-- ---- static routes

routes_next : (s : StaticSetting) (more : List StaticSetting) → static_routes (s ∷ more) ≡ static_routes (s ∷ []) ++ static_routes more
routes_next (StaticChannel c) more = refl
routes_next (StaticRoute r) more = refl

pub routes_more : (s : StaticSetting) (more : List StaticSetting) → map of.route_of (static_routes (s ∷ more)) ≡ map of.route_of (static_routes (s ∷ [])) ++ map of.route_of (static_routes more)
routes_more s more = ap (λ (rs : List _). map of.route_of rs) (routes_next s more) ∙ map-append of.route_of (static_routes (s ∷ [])) (static_routes more)
