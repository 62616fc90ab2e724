use Rattle.std.proofs.Common.{◌∙◌, ap}
use Rattle.rib.specs.Entries.{Entries, count_of, routes_at}
use Rattle.rib.proofs.NetSteps.{count-dropped, empty-routes}
use Rattle.rib.proofs.nets.Nets.take_out.Goals as goal

pub returns-clause-count : goal.returns-clause-count
returns-clause-count c =
    let none = ap (λ (es : Entries). routes_at c.args.net.now es) c.self.view_is ∙ empty-routes c.args.net.now c.args.self.now c.requires.empty in
    ap count_of c.remove.ensures.entries ∙ count-dropped c.args.net.now c.self.inside.map.entries none ∙ ap count_of c.self.view_is
