use Rattle.expr_syntax.proofs.Signs.{other_property}
use Rattle.expr_syntax.proofs.operators.property_of.Goals as goal

pub returns-in_default : goal.returns-in_default
returns-in_default c = other_property c.args.symbol c.in_default.not-Len c.in_default.not-First c.in_default.not-Last c.in_default.not-Ip
