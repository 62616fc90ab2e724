use Rattle.std.proofs.Common.{◌∙◌, ap, sym}
use Rattle.rib.specs.Entries.{Entries, items_of, routes_at}
use Rattle.rib.proofs.NetRows.{rows-routes_at}
use Rattle.rib.proofs.nets.Nets.routes.Goals as goal

pub returns-in-Some : goal.returns-in-Some
returns-in-Some c =
    c.as_slice.ensures.value
    ∙ ap items_of (rw c.in-Some.is at c.get.ensures.value)
    ∙ ap (λ (es : Entries). routes_at c.args.net.now es) c.self.view_is
    ∙ sym (rows-routes_at c.args.net.now c.args.self.now c.requires)

pub returns-in-None : goal.returns-in-None
returns-in-None c =
    ap items_of (rw c.in-None.is at c.get.ensures.value)
    ∙ ap (λ (es : Entries). routes_at c.args.net.now es) c.self.view_is
    ∙ sym (rows-routes_at c.args.net.now c.args.self.now c.requires)
