use Rattle.script_lines.proofs.TextAnswers.{one_answer}
use Rattle.script_lines.proofs.laws.a_text_has_one_answer.Goals as goal

pub returns : goal.returns
returns c = one_answer c.a_text_is_one_question.ensures
