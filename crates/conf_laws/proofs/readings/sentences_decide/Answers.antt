use Rattle.conf_laws.proofs.Decided.{sentences}
use Rattle.conf_laws.proofs.readings.sentences_decide.Goals as goal

pub returns : goal.returns
returns c = sentences
