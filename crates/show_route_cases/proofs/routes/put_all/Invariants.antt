use Rattle.std.proofs.Common.{◌≡◌}
use Rattle.bits_ip.specs.declared.address.Family.TheVariants as families
use Rattle.show_route_cases.proofs.routes.put_all.Given as goal

abbrev pub invariant-loop-line : goal.invariant-loop-line
invariant-loop-line l = l.rib.family ≡ families.V4
