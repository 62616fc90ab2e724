use Rattle.std.proofs.Common.{◌≡◌}
use Rattle.bits_ip.specs.declared.address.Family.TheVariants as families
use Rattle.rib_tests.proofs.shapes.put_all.Given as goal

abbrev pub invariant-loop-shape : goal.invariant-loop-shape
invariant-loop-shape l = l.table.family ≡ families.V4
