use Rattle.rec_words.proofs.Whole.{one_entry}
use Rattle.rec_words.proofs.laws.words_spell_one_entry.Goals as goal

pub returns : goal.returns
returns c = one_entry
