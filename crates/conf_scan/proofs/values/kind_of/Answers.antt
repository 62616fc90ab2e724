use Rattle.conf_scan.proofs.Numbers.{dotted_bytes, colons_bytes}
use Rattle.conf_scan.proofs.values.kind_of.Goals as goal

pub dotted-requires : goal.dotted-requires
dotted-requires c = let shape = rw c.in-Ipv4.is at c.requires in dotted_bytes 3 c.args.slice.now shape.1

pub colons-requires : goal.colons-requires
colons-requires c = let shape = rw c.in-Ipv6.is at c.requires in colons_bytes c.args.slice.now shape.0 shape.1
