use Rattle.std.proofs.Common.{arith}
use Rattle.filt_meaning.proofs.Steps as s
use Rattle.filt_resolve.proofs.Taken as w
use Rattle.filt_resolve.proofs.comparing.comparison.Goals as goal

pub returns-in-Some-clause-steps : goal.returns-in-Some-clause-steps
returns-in-Some-clause-steps c = λ called. omega (arith, w.steps-Test called c.in-Some.test)

pub returns-in-None-clause-steps : goal.returns-in-None-clause-steps
returns-in-None-clause-steps c = λ called. omega (arith, s.steps-Compare called c.args.op c.args.left c.args.right)
