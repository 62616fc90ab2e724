use Rattle.std.proofs.Common.{arith, ap, subst, sym}
use Rattle.bits_ip.specs.declared.address.Addr.{Addr}
use Rattle.bits_ip.specs.Address.{width_of}
use Rattle.bits_ip.specs.Prefix.{IsPrefix}
use Rattle.rib.proofs.Covering.{front-prefix}
use Rattle.rib.proofs.picks.front.Goals as goal

pub unreachable-requires : goal.unreachable-requires
unreachable-requires c =
    c.in-Err.ensures.refused
    (subst (λ (a : Addr). IsPrefix a c.args.len) (sym c.front_addr.ensures)
    (front-prefix c.addr.result c.args.len (omega (arith, c.requires, c.addr.ensures.prefix.within, ap width_of c.addr.ensures.value))))
