use Rattle.script_lines.proofs.TextAnswers.{some_answer}
use Rattle.script_lines.proofs.laws.each_text_has_an_answer.Goals as goal

pub returns : goal.returns
returns c = some_answer c.each_text_is_a_question_or_none.ensures
