use Rattle.attrs.proofs.Bests.{best_of_first, best_of_none}
use Rattle.attrs.proofs.laws.best_of_a_content.Goals as goal

pub returns-clause-none : goal.returns-clause-none
returns-clause-none c = best_of_none

pub returns-clause-first : goal.returns-clause-first
returns-clause-first c = best_of_first
