-- For private contracts alone: an address as the prefix that holds it alone.
use Rattle.std.specs.Prelude.{◌≡◌}
use Rattle.std.proofs.Common.{sym}
use Rattle.bits_ip.specs.Address.{width_of}
use Rattle.bits_ip.specs.declared.address.Addr.{Addr}
use Rattle.conf_ast.specs.declared.packed_addr.PackedAddr.TheInside.{Inside}

abbrev pub addr_in : Inside → Addr
addr_in p = p.net.addr

abbrev pub packed : Addr → Inside
packed addr = record { net = record { addr = addr; len = width_of addr } }

abbrev pub IsPacked : Inside → Type 0
IsPacked p = p.net.len ≡ width_of p.net.addr

pub packed_is : (p : Inside) → IsPacked p → packed (addr_in p) ≡ p
packed_is p is = λ i. record { net = record { addr = p.net.addr; len = sym is i } }
