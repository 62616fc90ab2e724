use Rattle.rec_words.proofs.Whole.{no_front}
use Rattle.rec_words.proofs.laws.words_are_no_front.Goals as goal

pub returns : goal.returns
returns c = no_front
