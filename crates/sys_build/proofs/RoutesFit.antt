-- In what is accepted the routes of a static protocol are of the family of its channel.
use Rattle.std.proofs.Common.{◌≡◌, ◌∙◌, sym, ap, subst, refl, true, false, not, List, [], ◌∷◌, ◌++◌, ℕ, map, Option, Some, None, true≢false}
use Rattle.std.specs.Prelude.{⊤}
use Rattle.std.specs.List.{AllByRecursion}
use Rattle.bits_ip.specs.Address.{family_of}
use Rattle.bits_ip.specs.declared.address.Family.{Family}
use Rattle.bits_ip.specs.declared.address.Family.TheVariants as families
use Rattle.conf_ast.specs.Configurations as conf
use Rattle.conf_ast.specs.Configurations.{BgpSetting, FamilyChannel, Passing, PipeSetting}
use Rattle.conf_ast.specs.declared.configurations.Route.{Route}
use Rattle.conf_ast.specs.declared.kind.ConfKind.TheVariants as kinds
use Rattle.conf_ast.specs.declared.named.Name.{Name}
use Rattle.conf_options.specs.Options.{pipe_options}
use Rattle.conf_rules.specs.Channels.{one_channel, same_family}
use Rattle.conf_names.specs.Known.{Known}
use Rattle.conf_names.specs.Names as of_names
use Rattle.conf_rules.specs.Protocols as rules
use Rattle.conf_rules.specs.Protocols.{bgp_channels, families_of_routes, family_of_route, family_of_target, nettypes, static_channels, static_routes, static_settings}
use Rattle.conf_names.specs.Names.{own_name, static_stem}
use Rattle.conf_names.specs.Refusals.{first_in, refused_if}
use Rattle.conf_rules.specs.Statements.{refusals}
use Rattle.conf_names.specs.declared.refusal.Refusal.{Refusal}
use Rattle.conf_check.specs.Behind.{at_start, behind, behind_one}
use Rattle.conf_check.specs.Checked.{Source, filter_sources, protocol_name, route_of}
use Rattle.conf_check.specs.Refused.{refusal_of}
use Rattle.conf_check.specs.declared.checked.StaticRoute.{StaticRoute}
use Rattle.conf_check.proofs.Allowed.{nil_left, nil_right, none_refused}
use Rattle.conf_system.specs.Policies.{Filter, says}
use Rattle.conf_system.specs.System as of
use Rattle.conf_system.specs.System.{Body, IsBgp, IsPipe, IsStatic, Protocol, System, body_of, names_in, protocols_behind, system_in, with_body}
use Rattle.conf_system.specs.Texts.{IsSystem, refused_in}
use Rattle.conf_system.proofs.Accepted.{behind_push, neither}
use Rattle.conf_system.proofs.TablesThere.{not_refused}

abbrev pub AreOfFamily : Family → List StaticRoute → Type 0
AreOfFamily family routes = AllByRecursion (λ (r : StaticRoute). family_of r.net.addr ≡ family) routes

abbrev pub RoutesFit : Body → Type 0
RoutesFit (IsStatic p) = AreOfFamily p.channel.family p.routes
RoutesFit (IsBgp p) = ⊤
RoutesFit (IsPipe p) = ⊤

abbrev pub AllRoutesFit : List Protocol → Type 0
AllRoutesFit [] = ⊤
AllRoutesFit (p ∷ more) = RoutesFit p.body × AllRoutesFit more

abbrev SomeFits : Option Body → Type 0
SomeFits None = ⊤
SomeFits (Some body) = RoutesFit body

-- ---- routes in which nothing is refused

one_family : (f g : Family) → not (same_family f g) ≡ false → g ≡ f
one_family families.V4 families.V4 same = refl
one_family families.V6 families.V6 same = refl
one_family families.V4 families.V6 same = absurd (true≢false same)
one_family families.V6 families.V4 same = absurd (true≢false same)

routes_are : (family : Family) (rs : List Route) → families_of_routes family rs ≡ [] → AreOfFamily family (map route_of rs)
routes_are family [] none = tt
routes_are family (r ∷ rs) none =
    let here = nil_left (family_of_route family r) (families_of_routes family rs) none in
    let net = nil_left (refused_if (not (same_family family (family_of r.net.addr))) r.at kinds.Nettype) (family_of_target family r.target) here in (
      one_family family (family_of r.net.addr) (not_refused (not (same_family family (family_of r.net.addr))) r.at kinds.Nettype net),
      routes_are family rs (nil_right (family_of_route family r) (families_of_routes family rs) none),
    )

fourth_of_five : (a b c d e : List Refusal) → a ++ b ++ c ++ d ++ e ≡ [] → d ≡ []
fourth_of_five a b c d e none = nil_right (a ++ b ++ c) d (nil_left (a ++ b ++ c ++ d) e none)

-- ---- one statement

module _ (said : Passing → Filter) (known : Known) where
  static_fits : (cs : List FamilyChannel) (rs : List Route) → nettypes cs rs ≡ [] → SomeFits (of.static_with said known cs (map route_of rs))
  static_fits [] rs none = tt
  static_fits (c ∷ []) rs none = routes_are c.family rs none
  static_fits (c ∷ d ∷ cs) rs none = tt

  bgp_fits : (cs : List FamilyChannel) (ss : List BgpSetting) → SomeFits (of.bgp_with said known cs ss)
  bgp_fits [] ss = tt
  bgp_fits (c ∷ []) ss = tt
  bgp_fits (c ∷ d ∷ cs) ss = tt

  pipe_fits : (peer : Option Name) (ss : List PipeSetting) → SomeFits (of.pipe_with said known peer ss)
  pipe_fits None ss = tt
  pipe_fits (Some peer) ss = tt

  body_fits : (d : conf.Declaration) → refusals known d ≡ [] → SomeFits (body_of said known d)
  body_fits (conf.Static p) none =
      static_fits (static_channels p.settings) (static_routes p.settings)
      (fourth_of_five (of_names.declaring known p.at p.name (own_name known static_stem p.name ∷ [])) (static_settings known p.settings) (one_channel (of_names.place_of p.at p.name) (static_channels p.settings))
      (nettypes (static_channels p.settings) (static_routes p.settings)) (rules.repeated [] (static_routes p.settings)) none)
  body_fits (conf.Bgp p) none = bgp_fits (bgp_channels p.settings) p.settings
  body_fits (conf.Pipe p) none = pipe_fits (pipe_options p.settings).peer p.settings
  body_fits (conf.RouterId a) none = tt
  body_fits conf.Log none = tt
  body_fits (conf.Define name v) none = tt
  body_fits (conf.Table at family name) none = tt
  body_fits (conf.DefineFunction f) none = tt
  body_fits (conf.DefineFilter at name ss) none = tt
  body_fits (conf.Device name semicolon) none = tt

-- ---- all of them

next_fits : (name : List ℕ) (body : Option Body) (rest : List Protocol) → SomeFits body → AllRoutesFit rest → AllRoutesFit (with_body name body rest)
next_fits name None rest fits others = others
next_fits name (Some body) rest fits others = (fits, others)

module _ (text : List ℕ) (names : List (List ℕ)) (filters : List Source) where
  behind_fit : (before ds : List conf.Declaration) → refusal_of (behind (at_start text) before) ds ≡ None → AllRoutesFit (protocols_behind text names filters before ds)
  behind_fit before [] accepted = tt
  behind_fit before (d ∷ ds) accepted =
      let known = behind (at_start text) before in
      let none = neither (first_in None (refusals known d)) (refusal_of (behind_one known d) ds) accepted in
      next_fits (protocol_name known d) (body_of (says text names filters before) known d) (protocols_behind text names filters (before ++ d ∷ []) ds)
      (body_fits (says text names filters before) known d (none_refused (refusals known d) none.0))
      (behind_fit (before ++ d ∷ []) ds (ap (λ (k : Known). refusal_of k ds) (behind_push (at_start text) before d) ∙ none.1))

accepted_fit : (text : List ℕ) (ds : List conf.Declaration) → refused_in text ds ≡ None → AllRoutesFit (system_in text ds).protocols
unfolding refused_in system_in
accepted_fit text ds accepted = behind_fit text (names_in text ds) (filter_sources [] ds) [] ds accepted

pub all_routes_fit : (text : List ℕ) (system : System) → IsSystem text system → AllRoutesFit system.protocols
all_routes_fit text system is = subst (λ (s : System). AllRoutesFit s.protocols) (sym is.2) (accepted_fit text is.0 is.1.accepted)
