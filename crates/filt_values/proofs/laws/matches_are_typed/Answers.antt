use Rattle.filt_values.proofs.Typed.{matches_takes, matches_not_takes}
use Rattle.filt_values.proofs.laws.matches_are_typed.Goals as goal

pub returns-clause-matches : goal.returns-clause-matches
returns-clause-matches c = matches_takes

pub returns-clause-matches_not : goal.returns-clause-matches_not
returns-clause-matches_not c = matches_not_takes
