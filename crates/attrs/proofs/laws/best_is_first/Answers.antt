use Rattle.attrs.proofs.Rows.{IsBest-first}
use Rattle.attrs.proofs.laws.best_is_first.Goals as goal

pub returns : goal.returns
returns c = IsBest-first
