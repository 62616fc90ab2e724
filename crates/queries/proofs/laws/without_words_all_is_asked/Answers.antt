use Rattle.queries.proofs.TellQuestions.{plain_asked, plain_question}
use Rattle.queries.proofs.laws.without_words_all_is_asked.Goals as goal

pub returns : goal.returns
returns c = λ rest asked none. (plain_asked rest asked none, plain_question rest asked none)
