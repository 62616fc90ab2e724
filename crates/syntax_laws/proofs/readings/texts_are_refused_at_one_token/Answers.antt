use Rattle.std.proofs.Common.{refl}
use Rattle.expr_syntax.specs.Syntax.{block, expr}
use Rattle.syntax_laws.proofs.Texts.{one_refusal}
use Rattle.syntax_laws.proofs.readings.texts_are_refused_at_one_token.Goals as goal

pub returns-clause-expression : goal.returns-clause-expression
returns-clause-expression c = one_refusal expr refl

pub returns-clause-block : goal.returns-clause-block
returns-clause-block c = one_refusal block refl
