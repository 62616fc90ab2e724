use Rattle.std.proofs.Common.{sym, subst, None}
use Rattle.rib.specs.Steps.{Replaces}
use Rattle.rib.proofs.OneNet.{Replaces-withdrawn, moved-withdrawn}
use Rattle.rib.proofs.routes.withdraw.Goals as goal

pub returns-clause-routes : goal.returns-clause-routes
returns-clause-routes c =
    let xs = c.args.routes.now.items in
    subst (Replaces c.args.num None xs) (sym c.take_out.ensures.routes) (Replaces-withdrawn c.args.num xs c.requires)

pub returns-clause-moved : goal.returns-clause-moved
returns-clause-moved c =
    let xs = c.args.routes.now.items in
    rw (c.take_out.ensures.best, c.take_out.ensures.routes) (moved-withdrawn c.args.num xs c.requires.sources)
