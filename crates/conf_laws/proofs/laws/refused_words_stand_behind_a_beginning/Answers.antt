use Rattle.conf_laws.proofs.Begins.{before_word}
use Rattle.conf_laws.proofs.laws.refused_words_stand_behind_a_beginning.Goals as goal

pub returns : goal.returns
returns c = before_word c.tokens_are_slices.ensures
