use Rattle.std.proofs.Common.{◌≡◌}
use Rattle.bits_ip.specs.declared.address.Family.TheVariants as families
use Rattle.rib_tests.proofs.steps.play.Given as goal

abbrev pub invariant-loop-step : goal.invariant-loop-step
invariant-loop-step l = l.table.family ≡ families.V4
