use Rattle.expr_syntax.proofs.Signs.{other_method}
use Rattle.expr_syntax.proofs.operators.method_kind.Goals as goal

pub returns-in_default : goal.returns-in_default
returns-in_default c = other_method c.args.symbol c.in_default.not-Prepend c.in_default.not-Add c.in_default.not-Delete c.in_default.not-Filter
