use Rattle.rib.proofs.Covering.{last-prefix}
use Rattle.rib.proofs.picks.last_within.Goals as goal

pub unreachable-requires : goal.unreachable-requires
unreachable-requires c =
    c.in-Err.ensures.refused
    (rw (c.last_addr.ensures, c.width.ensures) (last-prefix c.args.net.now.addr c.args.net.now.len))
