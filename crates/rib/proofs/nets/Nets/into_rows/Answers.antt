use Rattle.std.proofs.Common.{◌∙◌, ◌++◌, ap, sym, List}
use Rattle.attrs.specs.declared.route.Row.{Row}
use Rattle.rib.specs.Entries.{row_of}
use Rattle.rib.proofs.NetSteps.{rows-more}
use Rattle.rib.proofs.nets.Nets.into_rows.Goals as goal

pub loop-net-preserved : goal.loop-net-preserved
loop-net-preserved c =
    c.in_ok-push_row.ensures
    ∙ ap (λ (l : List Row). l ++ row_of c.in-Some.net c.in-Some.routes.items) c.loop-net.invariant
    ∙ sym (rows-more c.loop-net.yielded (c.in-Some.net, c.in-Some.routes))
