use Rattle.std.proofs.Common.{ap, arith, sym}
use Rattle.rib.specs.Entries.{count_of}
use Rattle.rib.proofs.NetSteps.{count-written}
use Rattle.rib.proofs.nets.Nets.change_at.Goals as goal

pub returns-clause-total : goal.returns-clause-total
returns-clause-total c =
    let written = count-written c.args.net c.in-Some.routes.now c.change_counted.new.routes c.self.inside.map.entries _ (sym c.in-Some.ensures.value)
    (c.get_mut.follows.holds c.change_counted.new.routes).0 in
    omega (arith, written, c.change_counted.ensures.total, ap count_of c.self.view_is)
