use Rattle.std.proofs.Common.{arith}
use Rattle.rib.proofs.Covering.{room-unit}
use Rattle.rib.proofs.picks.last_v6.Goals as goal

pub overflow_add-result : goal.overflow_add-result
overflow_add-result c =
    omega (arith, room-unit c.args.number c.in-Some.unit c.args.bits 128 c.requires.clear c.in-Some.ensures.0 c.in-Some.ensures.1 c.ranges.number.fits)
