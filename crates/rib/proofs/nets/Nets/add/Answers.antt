use Rattle.std.proofs.Common.{◌≡◌, ◌∙◌, None, ap}
use Rattle.rib.specs.Entries.{Entries, count_of, entry_at}
use Rattle.rib.proofs.NetSteps.{absent, count-fresh}
use Rattle.rib.proofs.nets.Nets.add.Goals as goal

pub returns-clause-count : goal.returns-clause-count
returns-clause-count c =
    let none : entry_at c.args.net c.self.inside.map.entries ≡ None = ap (λ (es : Entries). entry_at c.args.net es) c.self.view_is ∙ absent _ c.requires in
    ap count_of c.in_ok-insert.ensures.entries
    ∙ count-fresh c.args.net c.in_ok-routes.routes c.self.inside.map.entries c.in_ok-insert.ensures.was_ordered none c.in_ok-routes.ensures.items
    ∙ ap count_of c.self.view_is
