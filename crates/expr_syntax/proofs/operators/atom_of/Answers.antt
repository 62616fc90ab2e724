use Rattle.expr_syntax.proofs.Signs.{not_atom}
use Rattle.expr_syntax.proofs.operators.atom_of.Goals as goal

pub returns-in_default : goal.returns-in_default
returns-in_default c = not_atom c.args.word c.in_default.not-Number c.in_default.not-Text c.in_default.not-Ip c.in_default.not-Prefix c.in_default.not-Attribute c.in_default.not-Constant c.in_default.not-Placed
