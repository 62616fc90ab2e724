use Rattle.text.proofs.LineCuts.{without_return_at_return, without_return_last}
use Rattle.text.proofs.lines.without_return.Goals as goal

pub returns-in-Some : goal.returns-in-Some
returns-in-Some c = without_return_at_return c.args.line.now c.in-Some.front.now c.in-Some.last.now (c.in-Some.ensures.cases).0 c.if-last-eq13.true

pub returns-in-Some-2 : goal.returns-in-Some-2
returns-in-Some-2 c = without_return_last c.args.line.now c.in-Some.front.now c.in-Some.last.now (c.in-Some.ensures.cases).0 c.if-last-eq13.false
