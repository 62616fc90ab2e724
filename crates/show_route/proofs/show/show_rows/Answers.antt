use Rattle.std.proofs.Common.{◌∙◌, ◌∷◌, ◌+◌, [], ◌++◌, ap, arith, map, subst, sym, take, List, length}
use Rattle.std.specs.Prelude.{option_copied, option_map}
use Rattle.std.proofs.lemmas.List.{take_all, take_more}
use Rattle.attrs.specs.declared.route.Row.{Row}
use Rattle.show_route.specs.Senders.{sender_of}
use Rattle.show_route.specs.Steps.{TellsRows, row_shown}
use Rattle.show_route.proofs.Tallies.{front-count, front-within, nets-bound, shown-length, tells-more, tells-none}
use Rattle.show_route.proofs.show.show_rows.Goals as goal

pub loop-row-init : goal.loop-row-init
loop-row-init g c = (tells-none _ c.args.query.now c.args.tally.now, omega arith, omega arith)

pub show_row-requires-clause-routes : goal.show_row-requires-clause-routes
show_row-requires-clause-routes g c =
    omega (
      arith,
      c.requires.routes,
      c.loop-row.invariant.1,
      front-count c.args.rows.now c.loop-row.row-index c.row-item.result c.loop-row-test.true,
      front-within c.args.rows.now (c.loop-row.row-index + 1),
      ap (λ (row : Row). length row.routes) c.row-item.is,
    )

pub show_row-requires-clause-nets : goal.show_row-requires-clause-nets
show_row-requires-clause-nets g c = omega (arith, c.requires.nets, c.loop-row.invariant.2, c.loop-row-test.true)

pub loop-row-preserved : goal.loop-row-preserved
loop-row-preserved g c =
    let rows = c.args.rows.now in
    let place = c.loop-row.row-index in
    let row = c.row-item.result in
    let choice = option_map g.J.Judge.verdict (option_copied c.args.choice) in
    let sends = option_map (λ through. sender_of through.spec (g.E.Judge.verdict through.judge)) (option_copied c.args.export) in
    let told = c.in_ok-show_row.ensures in
    let whole = take_more rows place row c.loop-row-test.true ∙ ap (λ (r : Row). take place rows ++ r ∷ []) (sym c.row-item.is) in (
      tells-more (map (λ name. name.now) c.args.names.now) c.args.query.now choice sends (take place rows) (take (place + 1) rows) row c.args.tally.now c.loop-row.tally c.show_row.new.tally
          whole c.loop-row.invariant.0 told,
      omega (
        arith,
        c.loop-row.invariant.1,
        told.routes,
        shown-length c.args.query.now choice sends row,
        front-count rows place row c.loop-row-test.true,
        ap (λ (r : Row). length r.routes) c.row-item.is,
      ),
      omega (arith, c.loop-row.invariant.2, told.nets, nets-bound (row_shown c.args.query.now choice sends row)),
    )

pub returns : goal.returns
returns g c =
    subst (λ (rows : List Row). TellsRows (map (λ name. name.now) c.args.names.now) c.args.query.now (option_map g.J.Judge.verdict (option_copied c.args.choice))
    (option_map (λ through. sender_of through.spec (g.E.Judge.verdict through.judge)) (option_copied c.args.export)) rows c.args.tally.now c.loop-row.tally)
    (take_all c.loop-row.row-index c.args.rows.now c.loop-row-test.false) c.loop-row.invariant.0
