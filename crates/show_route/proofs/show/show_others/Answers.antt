use Rattle.std.proofs.Common.{◌∙◌, ◌∷◌, ◌+◌, [], ◌++◌, ap, arith, false, map, subst, sym, take, List}
use Rattle.std.specs.Prelude.{option_copied, option_map}
use Rattle.std.specs.List.{flat_map}
use Rattle.std.proofs.lemmas.List.{take_all, take_more}
use Rattle.attrs.specs.declared.route.Route.{Route}
use Rattle.show_route.specs.Shown.{Item}
use Rattle.show_route.specs.Steps.{Puts, one_of}
use Rattle.show_route.proofs.Tallies.{more-others, one-length, puts-more, puts-none}
use Rattle.show_route.proofs.show.show_others.Goals as goal

pub loop-route-init : goal.loop-route-init
loop-route-init g c = (puts-none _ c.args.query.now c.args.tally.now, omega arith)

pub show_one-requires : goal.show_one-requires
show_one-requires g c = omega (arith, c.requires, c.loop-route.invariant.1, c.loop-route-test.true)

pub loop-route-preserved : goal.loop-route-preserved
loop-route-preserved g c =
    let routes = c.args.routes.now in
    let place = c.loop-route.route-index in
    let choice = option_map g.J.Judge.verdict (option_copied c.args.choice) in
    let whole = take_more routes place c.route-item.result c.loop-route-test.true ∙ ap (λ (r : Route). take place routes ++ r ∷ []) (sym c.route-item.is) in
    let both = puts-more (map (λ name. name.now) c.args.names.now) c.args.query.now (flat_map (one_of c.args.query.now choice c.args.net.now false) (take place routes))
    (one_of c.args.query.now choice c.args.net.now false c.route-item.result) c.args.tally.now c.loop-route.tally c.show_one.new.tally c.loop-route.invariant.0 c.in_ok-show_one.ensures in (
      subst (λ (items : List Item). Puts (map (λ name. name.now) c.args.names.now) c.args.query.now items c.args.tally.now c.show_one.new.tally)
          (sym (more-others c.args.query.now choice c.args.net.now (take place routes) (take (place + 1) routes) c.route-item.result whole)) both,
      omega (arith, c.loop-route.invariant.1, c.in_ok-show_one.ensures.routes, one-length c.args.query.now choice c.args.net.now false c.route-item.result),
    )

pub returns : goal.returns
returns g c =
    let choice = option_map g.J.Judge.verdict (option_copied c.args.choice) in
    subst (λ (routes : List Route). Puts (map (λ name. name.now) c.args.names.now) c.args.query.now (flat_map (one_of c.args.query.now choice c.args.net.now false) routes) c.args.tally.now c.loop-route.tally)
    (take_all c.loop-route.route-index c.args.routes.now c.loop-route-test.false) c.loop-route.invariant.0
