use Rattle.filt_meaning.proofs.Kept.{kept}
use Rattle.filt_meaning.proofs.laws.a_statement_keeps_the_variables.Goals as goal

pub returns : goal.returns
returns c = kept
