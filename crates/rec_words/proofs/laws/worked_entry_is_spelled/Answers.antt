use Rattle.rec_words.proofs.Whole.{worked_spelled}
use Rattle.rec_words.proofs.laws.worked_entry_is_spelled.Goals as goal

pub returns : goal.returns
returns c = worked_spelled
