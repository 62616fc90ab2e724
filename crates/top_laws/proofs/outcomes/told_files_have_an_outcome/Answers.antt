use Rattle.top_laws.proofs.Exists.{outcome_exists}
use Rattle.top_laws.proofs.outcomes.told_files_have_an_outcome.Goals as goal

pub returns : goal.returns
returns c = outcome_exists c.each_text_says_something.ensures c.each_text_has_an_answer.ensures
