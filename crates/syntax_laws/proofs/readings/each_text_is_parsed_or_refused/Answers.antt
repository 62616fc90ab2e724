use Rattle.std.proofs.Common.{refl}
use Rattle.expr_syntax.specs.Syntax.{block, expr}
use Rattle.syntax_laws.proofs.Texts.{parsed_or_refused}
use Rattle.syntax_laws.proofs.readings.each_text_is_parsed_or_refused.Goals as goal

pub returns-clause-expression : goal.returns-clause-expression
returns-clause-expression c = parsed_or_refused expr refl

pub returns-clause-block : goal.returns-clause-block
returns-clause-block c = parsed_or_refused block refl
