use Rattle.queries.proofs.TellQuestions.{question_or_none}
use Rattle.queries.proofs.laws.each_text_is_a_question_or_none.Goals as goal

pub returns : goal.returns
returns c = question_or_none
