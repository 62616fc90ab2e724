use Rattle.std.proofs.Common.{arith}
use Rattle.bits_ip.proofs.Bits.{room_left}
use Rattle.bits_ip.proofs.read_v6.Row.followed_by.Goals as goal

pub overflow_mul-result : goal.overflow_mul-result
overflow_mul-result c =
    omega (arith, room_left c.args.self.bits c.args.self.count c.if-self-ge8.false c.requires)

pub overflow_add-result-2 : goal.overflow_add-result-2
overflow_add-result-2 c =
    omega (arith, room_left c.args.self.bits c.args.self.count c.if-self-ge8.false c.requires, c.from.ensures, c.ranges.group.fits)
