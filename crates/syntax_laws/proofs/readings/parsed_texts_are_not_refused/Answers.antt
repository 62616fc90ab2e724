use Rattle.std.proofs.Common.{refl}
use Rattle.expr_syntax.specs.Syntax.{block, expr}
use Rattle.syntax_laws.proofs.Texts.{not_refused}
use Rattle.syntax_laws.proofs.readings.parsed_texts_are_not_refused.Goals as goal

pub returns-clause-expression : goal.returns-clause-expression
returns-clause-expression c = not_refused expr refl

pub returns-clause-block : goal.returns-clause-block
returns-clause-block c = not_refused block refl
