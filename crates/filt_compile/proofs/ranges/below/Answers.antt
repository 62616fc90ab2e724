use Rattle.std.proofs.Common.{arith, ◌-◌}
use Rattle.filt_compile.proofs.Ranging as r
use Rattle.filt_compile.proofs.ranges.below.Goals as goal

pub returns-then-n-eq0 : goal.returns-then-n-eq0
returns-then-n-eq0 c = r.below_none c.args.number c.args.n c.args.inside c.between.result c.if-n-eq0.true c.between.ensures

pub returns-else-n-eq0 : goal.returns-else-n-eq0
returns-else-n-eq0 c = r.below_some c.args.number c.args.n (c.args.n - 1) c.args.inside c.between-else-n-eq0.result (omega (arith, c.if-n-eq0.false)) c.between-else-n-eq0.ensures
