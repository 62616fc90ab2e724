use Rattle.std.proofs.Common.{refl}
use Rattle.expr_syntax.specs.Syntax.{block, expr}
use Rattle.syntax_laws.proofs.Texts.{one_tree}
use Rattle.syntax_laws.proofs.readings.texts_have_one_tree_and_one_end.Goals as goal

pub returns-clause-expression : goal.returns-clause-expression
returns-clause-expression c = one_tree expr refl

pub returns-clause-block : goal.returns-clause-block
returns-clause-block c = one_tree block refl
