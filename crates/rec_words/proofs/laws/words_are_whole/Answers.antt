use Rattle.rec_words.proofs.Whole.{whole_words}
use Rattle.rec_words.proofs.laws.words_are_whole.Goals as goal

pub returns-clause-few : goal.returns-clause-few
returns-clause-few c = λ words entry is. (whole_words words entry is).1

pub returns-clause-whole : goal.returns-clause-whole
returns-clause-whole c = λ words entry is. (whole_words words entry is).0
