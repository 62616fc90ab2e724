use Rattle.std.proofs.Common.{◌∙◌, ap, Option, option_copied}
use Rattle.attrs.specs.declared.route.Route.{Route}
use Rattle.rib.specs.Picks.{better_of}
use Rattle.rib.proofs.Picking.{better-first, first-beside}
use Rattle.rib.proofs.routes.best_with.Goals as goal

pub returns : goal.returns
returns c =
    let new = option_copied c.args.new in
    c.better_of.ensures
    ∙ ap (λ (o : Option Route). better_of new o) (c.best_beside.ensures ∙ first-beside c.args.num c.args.routes.now c.requires.sources)
    ∙ better-first c.args.num new c.args.routes.now
