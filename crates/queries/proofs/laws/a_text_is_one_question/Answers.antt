use Rattle.queries.proofs.TellQuestions.{questions_same}
use Rattle.queries.proofs.laws.a_text_is_one_question.Goals as goal

pub returns : goal.returns
returns c = questions_same
