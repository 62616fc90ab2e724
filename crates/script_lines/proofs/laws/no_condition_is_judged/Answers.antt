use Rattle.script_lines.proofs.TextAnswers.{no_expression}
use Rattle.script_lines.proofs.laws.no_condition_is_judged.Goals as goal

pub returns : goal.returns
returns c = no_expression
